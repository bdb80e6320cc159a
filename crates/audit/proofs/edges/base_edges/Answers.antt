use Rattle.std.proofs.Common.{◌≡◌, ℕ, List, [], ◌++◌, get_or, sym, ◌∙◌, ap, append_assoc}
use Rattle.std.specs.Prelude.{None, Option}
use Rattle.std.specs.List.{flat_map, range_with_len}
use Rattle.std.proofs.lemmas.List.{get_or_default}
use Rattle.plain_search.specs.declared.Edge.{Edge}
use Rattle.constraints.specs.Building.{placed_edges}
use Rattle.constraints.proofs.Naming.{flat_map_range_more}
use Rattle.audit.specs.Rows.{row_at}
use Rattle.audit.specs.Tables.{word_edges_in}
use Rattle.audit.proofs.edges.base_edges.Goals as goal

pub loop-word-preserved : goal.loop-word-preserved
loop-word-preserved c =
    let sources : List (List ℕ) = c.args.sources.now in
    let tags : List (Option ℕ) = c.args.last_tags.now in
    let k : ℕ = c.loop-word.word in
    let tag : Option ℕ = get_or tags k None in
    let row : c.numbers.result.now ≡ row_at sources k = c.numbers.ensures ∙ c.index-sources-word.is ∙ get_or_default sources k _ [] c.loop-word-test.true in
    let entries : List Edge = flat_map (placed_edges sources tags) c.args.placed.now in
    let before : List Edge = flat_map (λ word. word_edges_in (row_at sources word) (get_or tags word None)) (range_with_len 0 k) in
    c.in_ok-push_word.ensures ∙ ap (λ (es : List Edge). es ++ word_edges_in c.numbers.result.now tag) c.loop-word.invariant ∙
    append_assoc entries before (word_edges_in c.numbers.result.now tag) ∙ ap (λ (xs : List ℕ). entries ++ (before ++ word_edges_in xs tag)) row ∙
    ap (λ (es : List Edge). entries ++ es) (sym (flat_map_range_more (λ word. word_edges_in (row_at sources word) (get_or tags word None)) k))
