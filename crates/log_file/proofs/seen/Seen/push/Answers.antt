use Rattle.std.proofs.Common.{◌≡◌, ℕ, List, max, leb, get_or, set, sym, ◌∙◌, ap, arith}
use Rattle.std.proofs.Math.ListN.{length-set}
use Rattle.std.specs.List.{list_any}
use Rattle.std.proofs.lemmas.List.{get_or_default}
use Rattle.std.proofs.lemmas.List.Elements.{All-push}
use Rattle.replay_model.specs.declared.Entry.{Entry}
use Rattle.replay_model.specs.MoreReads.{is_entry_for}
use Rattle.log_file.specs.LogReading.{ends_late}
use Rattle.log_file.specs.Seen.{IsNumbered}
use Rattle.log_file.proofs.Kept.{pairs_more, ends_more}
use Rattle.log_file.proofs.seen.Seen.push.Goals as goal

pub returns-clause-kept : goal.returns-clause-kept
returns-clause-kept c =
    let seen = c.args.self.now in
    let entry = c.args.entry in
    let ends : List ℕ = seen.ends.items in
    let place : c.from-word.result ≡ entry.word = c.from-word.ensures in
    let read : c.index.result.now ≡ get_or ends entry.word 0 =
    c.index.ensures ∙ ap (λ (k : ℕ). get_or ends k c.index.result.now) place ∙ get_or_default ends entry.word c.index.result.now 0 c.requires.there in
    let greater : c.max.result ≡ max (get_or ends entry.word 0) entry.last = c.max.ensures ∙ ap (λ (n : ℕ). max n entry.last) read in
    let same : set ends c.from-word.result c.max.result ≡ set ends entry.word (max (get_or ends entry.word 0) entry.last) = cc in
    record {
      numbered = rw c.in_ok-push-2.ensures.items (All-push (λ (e : Entry). IsNumbered e.source) seen.entries.items entry c.requires.kept.numbered c.pair_of.ensures.numbered);
      pairs = λ w s n.
          rw (c.in_ok-push.ensures, c.pair_of.ensures.value)
          (pairs_more w s seen.entries.items entry seen.pairs n c.pair_of.ensures.numbered (c.requires.kept.pairs w s n) ∙ ap (list_any (is_entry_for w s)) (sym c.in_ok-push-2.ensures.items));
      ends = λ w n pos there.
          ap (λ (xs : List ℕ). leb n (get_or xs w 0)) same ∙ ends_more ends w n seen.entries.items entry c.requires.there (c.requires.kept.ends w n pos (omega (arith, length-set ends c.from-word.result c.max.result, there))) ∙
          ap (list_any (ends_late w n)) (sym c.in_ok-push-2.ensures.items);
    }
