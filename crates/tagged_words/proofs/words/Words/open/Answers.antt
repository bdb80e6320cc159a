use Rattle.std.proofs.Common.{◌≡◌, ◌/◌, ◌^◌, ◌<◌, map, sym, ◌∙◌, ap, subst, arith}
use Rattle.std.specs.Prelude.{All}
use Rattle.std.proofs.lemmas.List.Elements.{All-from_get_or}
use Rattle.tagged_words.proofs.Bounds.{begun, values_in, opens}
use Rattle.tagged_words.proofs.words.Words.open.Goals as goal

pub of_words-requires : goal.of_words-requires
of_words-requires c =
    let initial = c.args.initial.now in
    let values : map (λ n. n / 2 ^ 32) c.of.result.value.items ≡ initial = ap (λ v. map (λ n. n / 2 ^ 32) v.items) c.of.ensures ∙ ap (map (λ n. n / 2 ^ 32)) c.in_ok-contents.ensures ∙ values_in initial in
    opens _ c.as_slice.result.now (c.as_slice.ensures.value ∙ c.in_ok-contents.ensures ∙ ap (map begun) (sym values)) (subst (All (λ v. v < 2 ^ 32)) (sym values) (All-from_get_or (λ v. v < 2 ^ 32) initial 0 (λ i l. omega (arith, c.type_inv.initial i))))

pub returns-clause-start : goal.returns-clause-start
returns-clause-start c =
    let initial = c.args.initial.now in
    let values : map (λ n. n / 2 ^ 32) c.of.result.value.items ≡ initial = ap (λ v. map (λ n. n / 2 ^ 32) v.items) c.of.ensures ∙ ap (map (λ n. n / 2 ^ 32)) c.in_ok-contents.ensures ∙ values_in initial in
    c.in_ok-table.ensures.5 ∙ (λ i. record { initial = values i; threads = c.args.threads })
