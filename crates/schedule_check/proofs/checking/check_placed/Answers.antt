use Rattle.std.proofs.Common.{◌≡◌, ℕ, Some, None, Option, MatchOption, List, map, refl, ◌∙◌, ap, subst}
use Rattle.order_judge.specs.declared.live_ranges.LiveRange.{LiveRange}
use Rattle.order_judge.specs.LiveRanges.{IsFirstOverlap, AreApart}
use Rattle.schedule_check.specs.Ranks.{rank_in, range_in}
use Rattle.schedule_check.proofs.Stages.{placed-laid, entries-places, last_tags-places, entries-ranged, last_tags-ends, placed-few, ranges-few, ranges-words}
use Rattle.schedule_check.proofs.Verdicts.{IsOrdered, IsCleared, verdict_overtaken, verdict_early, verdict_crossed, verdict_final, verdict_fine}
use Rattle.schedule_check.proofs.checking.check_placed.Goals as goal

overlap_found : {list ranges : List LiveRange} (found : Option (ℕ × ℕ)) (i j : ℕ) → list ≡ ranges → MatchOption found (AreApart list) (λ pair. IsFirstOverlap list pair.0 pair.1) → found ≡ Some (i, j) → IsFirstOverlap ranges i j
overlap_found {list} {ranges} found i j e h q =
    let P : Option (ℕ × ℕ) → Type 0 = λ o. MatchOption o (AreApart ranges) (λ pair. IsFirstOverlap ranges pair.0 pair.1) in
    let Q : List LiveRange → Type 0 = λ rs. MatchOption found (AreApart rs) (λ pair. IsFirstOverlap rs pair.0 pair.1) in
    subst P q (subst Q e h)

overlap_none : {list ranges : List LiveRange} (found : Option (ℕ × ℕ)) → list ≡ ranges → MatchOption found (AreApart list) (λ pair. IsFirstOverlap list pair.0 pair.1) → ((x : ℕ × ℕ) → found ≡ Some x → ⊥) → AreApart ranges
overlap_none None e h none = subst AreApart e h
overlap_none (Some x) e h none = absurd (none x refl)

pub returns-in-Some : goal.returns-in-Some
returns-in-Some c = c.fault.ensures ∙ verdict_overtaken c.args.log.now c.args.order.now c.args.events.now c.args.places.now c.in-Some.i c.in-Some.j c.requires.placed c.in-Some.ensures

pub first_untimely-requires-clause-within : goal.first_untimely-requires-clause-within
first_untimely-requires-clause-within c = entries-places c.args.log.now c.args.order.now c.args.events.now c.args.places.now c.deref.result.now c.requires.placed (c.deref.ensures.value ∙ c.in_ok-entries.ensures)

pub first_untimely-requires-clause-few : goal.first_untimely-requires-clause-few
first_untimely-requires-clause-few c = placed-few c.args.log.now c.deref.result.now c.requires.placed.formed (c.deref.ensures.value ∙ c.in_ok-entries.ensures)

pub returns-in-Some-first_untimely : goal.returns-in-Some-first_untimely
returns-in-Some-first_untimely c =
    c.fault-in-Some-first_untimely.ensures ∙
    verdict_early c.args.log.now c.args.order.now c.args.events.now c.args.places.now c.deref.result.now c.in-Some-first_untimely.i c.requires.placed c.in_default.ensures (c.deref.ensures.value ∙ c.in_ok-entries.ensures) c.in-Some-first_untimely.ensures

pub ranges_of-requires-clause-within : goal.ranges_of-requires-clause-within
ranges_of-requires-clause-within c = entries-places c.args.log.now c.args.order.now c.args.events.now c.args.places.now c.deref-2.result.now c.requires.placed (c.deref-2.ensures.value ∙ c.in_ok-entries.ensures)

pub first_overlap-requires : goal.first_overlap-requires
first_overlap-requires c =
    let laid = placed-laid c.args.log.now c.args.order.now c.args.events.now c.args.places.now c.requires.placed in
    ranges-few c.args.log.now c.args.order.now c.deref-3.result.now c.requires.placed.formed
    (entries-ranged c.args.log.now c.args.order.now c.args.places.now c.deref-2.result.now c.deref-3.result.now laid (c.deref-2.ensures.value ∙ c.in_ok-entries.ensures) (c.deref-3.ensures.value ∙ c.in_ok-ranges.ensures))

pub returns-in-Some-2 : goal.returns-in-Some-2
returns-in-Some-2 c =
    let o : IsOrdered c.args.log.now c.args.order.now c.args.events.now c.args.places.now c.in_ok-entries.entries.items = record {
      placed = c.requires.placed;
      in_turn = c.in_default.ensures;
      listed = c.in_ok-entries.ensures;
      timely = rw c.deref.ensures.value at c.in_default-first_untimely.ensures;
    } in
    c.fault-in-Some-2.ensures ∙
    verdict_crossed c.args.log.now c.args.order.now c.args.events.now c.args.places.now c.in_ok-entries.entries.items c.in_ok-ranges.ranges.items c.in-Some-2.i c.in-Some-2.j o
    (c.in_ok-ranges.ensures ∙ ap (map (range_in c.args.places.now)) c.deref-2.ensures.value)
    (overlap_found c.in_ok-i.field-0 c.in-Some-2.i c.in-Some-2.j c.deref-3.ensures.value c.in_ok-i.ensures c.in-Some-2.is)

pub ends_of-requires-clause-within : goal.ends_of-requires-clause-within
ends_of-requires-clause-within c = last_tags-places c.args.log.now c.args.order.now c.args.events.now c.args.places.now c.deref-4.result.now c.requires.placed (c.deref-4.ensures.value ∙ c.in_ok-last_tags.ensures)

pub first_too_long-requires-clause-words : goal.first_too_long-requires-clause-words
first_too_long-requires-clause-words c =
    let laid = placed-laid c.args.log.now c.args.order.now c.args.events.now c.args.places.now c.requires.placed in
    ranges-words c.args.log.now c.args.order.now c.deref-5.result.now c.deref-6.result.now c.requires.placed.formed
    (entries-ranged c.args.log.now c.args.order.now c.args.places.now c.deref-2.result.now c.deref-5.result.now laid (c.deref-2.ensures.value ∙ c.in_ok-entries.ensures) (c.deref-5.ensures.value ∙ c.in_ok-ranges.ensures))
    (last_tags-ends c.args.log.now c.args.order.now c.args.places.now c.deref-4.result.now c.deref-6.result.now laid (c.deref-4.ensures.value ∙ c.in_ok-last_tags.ensures) (c.deref-6.ensures.value ∙ c.in_ok-ends.ensures))

pub first_too_long-requires-clause-few : goal.first_too_long-requires-clause-few
first_too_long-requires-clause-few c =
    let laid = placed-laid c.args.log.now c.args.order.now c.args.events.now c.args.places.now c.requires.placed in
    ranges-few c.args.log.now c.args.order.now c.deref-5.result.now c.requires.placed.formed
    (entries-ranged c.args.log.now c.args.order.now c.args.places.now c.deref-2.result.now c.deref-5.result.now laid (c.deref-2.ensures.value ∙ c.in_ok-entries.ensures) (c.deref-5.ensures.value ∙ c.in_ok-ranges.ensures))

pub returns-in-Some-first_too_long : goal.returns-in-Some-first_too_long
returns-in-Some-first_too_long c =
    let o : IsOrdered c.args.log.now c.args.order.now c.args.events.now c.args.places.now c.in_ok-entries.entries.items = record {
      placed = c.requires.placed;
      in_turn = c.in_default.ensures;
      listed = c.in_ok-entries.ensures;
      timely = rw c.deref.ensures.value at c.in_default-first_untimely.ensures;
    } in
    let k : IsCleared c.args.log.now c.args.order.now c.args.events.now c.args.places.now c.in_ok-entries.entries.items c.in_ok-ranges.ranges.items c.in_ok-last_tags.last_tags.items c.in_ok-ends.ends.items = record {
      ordered = o;
      ranged = c.in_ok-ranges.ensures ∙ ap (map (range_in c.args.places.now)) c.deref-2.ensures.value;
      apart = overlap_none c.in_ok-i.field-0 c.deref-3.ensures.value c.in_ok-i.ensures c.in_default-2.not-Some;
      listed = c.in_ok-last_tags.ensures;
      ended = c.in_ok-ends.ensures ∙ ap (map (rank_in c.args.places.now)) c.deref-4.ensures.value;
    } in
    c.fault-in-Some-first_too_long.ensures ∙
    verdict_final c.args.log.now c.args.order.now c.args.events.now c.args.places.now c.in_ok-entries.entries.items c.in_ok-ranges.ranges.items c.in_ok-last_tags.last_tags.items c.in_ok-ends.ends.items c.in-Some-first_too_long.word c.in-Some-first_too_long.i k
    (rw c.deref-6.ensures.value at (rw c.deref-5.ensures.value at c.in-Some-first_too_long.ensures))

pub returns : goal.returns
returns c =
    let o : IsOrdered c.args.log.now c.args.order.now c.args.events.now c.args.places.now c.in_ok-entries.entries.items = record {
      placed = c.requires.placed;
      in_turn = c.in_default.ensures;
      listed = c.in_ok-entries.ensures;
      timely = rw c.deref.ensures.value at c.in_default-first_untimely.ensures;
    } in
    let k : IsCleared c.args.log.now c.args.order.now c.args.events.now c.args.places.now c.in_ok-entries.entries.items c.in_ok-ranges.ranges.items c.in_ok-last_tags.last_tags.items c.in_ok-ends.ends.items = record {
      ordered = o;
      ranged = c.in_ok-ranges.ensures ∙ ap (map (range_in c.args.places.now)) c.deref-2.ensures.value;
      apart = overlap_none c.in_ok-i.field-0 c.deref-3.ensures.value c.in_ok-i.ensures c.in_default-2.not-Some;
      listed = c.in_ok-last_tags.ensures;
      ended = c.in_ok-ends.ensures ∙ ap (map (rank_in c.args.places.now)) c.deref-4.ensures.value;
    } in
    verdict_fine c.args.log.now c.args.order.now c.args.events.now c.args.places.now c.in_ok-entries.entries.items c.in_ok-ranges.ranges.items c.in_ok-last_tags.last_tags.items c.in_ok-ends.ends.items k
    (rw c.deref-6.ensures.value at (rw c.deref-5.ensures.value at c.in_default-first_too_long.ensures))
