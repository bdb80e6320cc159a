-- The verdict at each stage of the check.
use Rattle.std.proofs.Common.{◌≡◌, ℕ, Option, Some, None, List, length, map, sym, ap}
use Rattle.light_base.specs.declared.tag.Event.{Event}
use Rattle.replay_model.specs.Logs.{Log}
use Rattle.order_judge.specs.declared.live_ranges.LiveRange.{LiveRange}
use Rattle.order_judge.specs.LiveRanges.{IsFirstOverlap, AreApart}
use Rattle.constraints.specs.declared.placed.Placed.{Placed}
use Rattle.constraints.specs.Building.{placed_entries, placed_last_tags}
use Rattle.schedule_check.specs.declared.faults.OrderFault.{OrderFault}
use Rattle.schedule_check.specs.declared.faults.OrderKind.TheVariants.{ThreadOrder, ReadBeforeWrite, Between, Final}
use Rattle.schedule_check.specs.declared.faults.Verdict.TheVariants as verdict
use Rattle.schedule_check.specs.Faults.{fault, told, verdict_of, first_outliving, first_fault}
use Rattle.schedule_check.specs.Turns.{IsInTurn, IsFirstOvertaken}
use Rattle.schedule_check.specs.Ranks.{rank_in, range_in, AreTimely, IsFirstUntimely, IsFirstTooLong, NoneIsTooLong}
use Rattle.schedule_check.specs.Placed.{IsPlaced}
use Rattle.schedule_check.proofs.Told.{overtaken-none, overtaken-some}
use Rattle.schedule_check.proofs.Saying.{first_is-overtaken, first_is-early, first_is-crossed, first_is-outliving}
use Rattle.schedule_check.proofs.Stages.{placed-laid, AreRangesOf, AreEndsOf, entries-ranged, last_tags-ends, stage_early-none, stage_early, stage_later, stage_apart, stage_crossed, stage_over, stage_outliving}

tells : (log : Log) (order : List Event) (f : OrderFault) → first_fault log order ≡ Some f → verdict.Fault f ≡ verdict_of log order
tells log order f e = sym (ap told e)

pub verdict_overtaken : (log : Log) (order events : List Event) (places : List ℕ) (i j : ℕ) → IsPlaced log order events places → IsFirstOvertaken order i j → verdict.Fault (fault ThreadOrder i j) ≡ verdict_of log order
verdict_overtaken log order events places i j p f = tells log order (fault ThreadOrder i j) (first_is-overtaken log order (fault ThreadOrder i j) p.each_once (overtaken-some order i j f))

pub verdict_early : (log : Log) (order events : List Event) (places : List ℕ) (entries : List Placed) (i : ℕ) → IsPlaced log order events places → IsInTurn order (length order) → entries ≡ placed_entries log →
    IsFirstUntimely places entries i → verdict.Fault (fault ReadBeforeWrite i 0) ≡ verdict_of log order
verdict_early log order events places entries i p turn e f = tells log order (fault ReadBeforeWrite i 0)
    (first_is-early log order (fault ReadBeforeWrite i 0) p.each_once (overtaken-none order turn) (stage_early log order places entries (placed-laid log order events places p) e i f))

-- no event is overtaken, and no entry read early
pub record IsOrdered (log : Log) (order events : List Event) (places : List ℕ) (entries : List Placed) : Type 0 where
  pub placed : IsPlaced log order events places
  pub in_turn : IsInTurn order (length order)
  pub listed : entries ≡ placed_entries log
  pub timely : AreTimely places entries (length entries)

pub verdict_crossed : (log : Log) (order events : List Event) (places : List ℕ) (entries : List Placed) (ranges : List LiveRange) (i j : ℕ) → IsOrdered log order events places entries → ranges ≡ map (range_in places) entries →
    IsFirstOverlap ranges i j → verdict.Fault (fault Between i j) ≡ verdict_of log order
verdict_crossed log order events places entries ranges i j o r f =
    let laid = placed-laid log order events places o.placed in
    tells log order (fault Between i j)
    (first_is-crossed log order (fault Between i j) o.placed.each_once (overtaken-none order o.in_turn) (stage_early-none log order places entries laid o.listed o.timely)
    (stage_crossed log order places ranges laid (entries-ranged log order places entries ranges laid o.listed r) (stage_later log order places entries laid o.listed o.in_turn o.timely) i j f))

-- and no two entries are crossed
pub record IsCleared (log : Log) (order events : List Event) (places : List ℕ) (entries : List Placed) (ranges : List LiveRange) (last_tags : List (Option ℕ)) (ends : List ℕ) : Type 0 where
  pub ordered : IsOrdered log order events places entries
  pub ranged : ranges ≡ map (range_in places) entries
  pub apart : AreApart ranges
  pub listed : last_tags ≡ placed_last_tags log
  pub ended : ends ≡ map (rank_in places) last_tags

verdict_last : (log : Log) (order events : List Event) (places : List ℕ) (entries : List Placed) (ranges : List LiveRange) (last_tags : List (Option ℕ)) (ends : List ℕ) (found : Option OrderFault) →
    IsCleared log order events places entries ranges last_tags ends → (AreRangesOf log order ranges → AreEndsOf log order ends → first_outliving log order ≡ found) → told found ≡ verdict_of log order
verdict_last log order events places entries ranges last_tags ends found c f =
    let o = c.ordered in
    let laid = placed-laid log order events places o.placed in
    let r = entries-ranged log order places entries ranges laid o.listed c.ranged in
    sym (ap told (first_is-outliving log order found o.placed.each_once (overtaken-none order o.in_turn) (stage_early-none log order places entries laid o.listed o.timely)
    (stage_apart log order places ranges laid r c.apart) (f r (last_tags-ends log order places last_tags ends laid c.listed c.ended))))

pub verdict_final : (log : Log) (order events : List Event) (places : List ℕ) (entries : List Placed) (ranges : List LiveRange) (last_tags : List (Option ℕ)) (ends : List ℕ) (word i : ℕ) →
    IsCleared log order events places entries ranges last_tags ends → IsFirstTooLong ranges ends (length ranges) word i → verdict.Fault (fault Final word i) ≡ verdict_of log order
verdict_final log order events places entries ranges last_tags ends word i c f = verdict_last log order events places entries ranges last_tags ends (Some (fault Final word i)) c
    (λ r e. stage_outliving log order places ranges ends (placed-laid log order events places c.ordered.placed) r e word i f)

pub verdict_fine : (log : Log) (order events : List Event) (places : List ℕ) (entries : List Placed) (ranges : List LiveRange) (last_tags : List (Option ℕ)) (ends : List ℕ) → IsCleared log order events places entries ranges last_tags ends →
    NoneIsTooLong ranges ends (length ranges) → verdict.Respects ≡ verdict_of log order
verdict_fine log order events places entries ranges last_tags ends c f = verdict_last log order events places entries ranges last_tags ends None c
    (λ r e. stage_over log order places ranges ends (placed-laid log order events places c.ordered.placed) r e f)
