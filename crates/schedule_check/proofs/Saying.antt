-- The first fault from the faults of each kind, and what the verdict says.
use Rattle.std.proofs.Common.{◌≡◌, ℕ, ◌<◌, ◌↔◌, Option, Some, None, List, length, refl, ◌∙◌, ap, subst, false}
use Rattle.std.specs.Option.{option_or}
use Rattle.std.proofs.lemmas.List.{get_or_default}
use Rattle.std.proofs.lemmas.List.Elements.{Contains-get_or}
use Rattle.light_base.specs.declared.tag.Event.{Event}
use Rattle.replay_model.specs.declared.Entry.{Entry}
use Rattle.replay_model.specs.Logs.{Log}
use Rattle.replay_model.specs.Orders.{place, Respects}
use Rattle.replay_model.specs.WellFormed.{IsWellFormed}
use Rattle.constraints.specs.Positions.{no_event, event_list}
use Rattle.schedule_check.specs.declared.faults.OrderFault.{OrderFault}
use Rattle.schedule_check.specs.declared.faults.Verdict.TheVariants as verdict
use Rattle.schedule_check.specs.Faults.{entries_of, no_entry, source_rank, first_rank, are_crossed, outlives, first_unknown, first_twice, first_missing, first_overtaken, first_early, first_crossed, first_outliving, first_fault, told, verdict_of}
use Rattle.schedule_check.specs.Placed.{HasEachOnce}
use Rattle.schedule_check.proofs.Told.{entry_at, event_of, unknown-none, none-unknown, twice-none, none-twice, missing-none, none-missing, overtaken-none, none-overtaken, early-none, none-early, crossed-none, none-crossed, outliving-none, none-outliving}
use Rattle.schedule_check.proofs.Faultless.{IsFaultless, faultless-respects, respects-faultless}

pub first_is-unknown : (log : Log) (order : List Event) (f : OrderFault) → first_unknown log order ≡ Some f → first_fault log order ≡ Some f
unfolding first_fault
first_is-unknown log order f a = rw a refl

pub first_is-twice : (log : Log) (order : List Event) (f : OrderFault) → first_unknown log order ≡ None → first_twice order ≡ Some f → first_fault log order ≡ Some f
unfolding first_fault
first_is-twice log order f a b = rw (a, b) refl

pub first_is-missing : (log : Log) (order : List Event) (f : OrderFault) → first_unknown log order ≡ None → first_twice order ≡ None → first_missing log order ≡ Some f → first_fault log order ≡ Some f
unfolding first_fault
first_is-missing log order f a b c = rw (a, b, c) refl

pub first_is-overtaken : (log : Log) (order : List Event) (f : OrderFault) → HasEachOnce log order → first_overtaken order ≡ Some f → first_fault log order ≡ Some f
unfolding first_fault
first_is-overtaken log order f p d = let a = p.unknown in let b = p.twice in let c = p.missing in rw (a, b, c, d) refl

pub first_is-early : (log : Log) (order : List Event) (f : OrderFault) → HasEachOnce log order → first_overtaken order ≡ None → first_early log order ≡ Some f → first_fault log order ≡ Some f
unfolding first_fault
first_is-early log order f p d e = let a = p.unknown in let b = p.twice in let c = p.missing in rw (a, b, c, d, e) refl

pub first_is-crossed : (log : Log) (order : List Event) (f : OrderFault) → HasEachOnce log order → first_overtaken order ≡ None → first_early log order ≡ None → first_crossed log order ≡ Some f → first_fault log order ≡ Some f
unfolding first_fault
first_is-crossed log order f p d e g = let a = p.unknown in let b = p.twice in let c = p.missing in rw (a, b, c, d, e, g) refl

pub first_is-outliving : (log : Log) (order : List Event) (found : Option OrderFault) → HasEachOnce log order → first_overtaken order ≡ None → first_early log order ≡ None → first_crossed log order ≡ None → first_outliving log order ≡ found →
    first_fault log order ≡ found
unfolding first_fault
first_is-outliving log order found p d e g h = let a = p.unknown in let b = p.twice in let c = p.missing in rw (a, b, c, d, e, g, h) refl

none_or : (a b : Option OrderFault) → option_or a b ≡ None → (a ≡ None) × (b ≡ None)
none_or None b e = (refl, e)
none_or (Some f) b e = absurd (cc e)

pub faultless-none : (log : Log) (order : List Event) → IsFaultless log order → first_fault log order ≡ None
faultless-none log order f = first_is-outliving log order None
    (record { unknown = unknown-none log order f.known; twice = twice-none order f.once; missing = missing-none log order (λ x l. f.present (event_of log x) (Contains-get_or (event_list log) x no_event l)) })
    (overtaken-none order f.in_turn)
    (early-none log order (λ i l. f.timely (entry_at log i) (Contains-get_or (entries_of log) i no_entry l)))
    (crossed-none log order (λ i j l m. f.apart (entry_at log i) (entry_at log j) (Contains-get_or (entries_of log) i no_entry l) (Contains-get_or (entries_of log) j no_entry m)))
    (outliving-none log order (λ word i l m. f.over word (entry_at log i) l (Contains-get_or (entries_of log) i no_entry m)))

pub none-faultless : (log : Log) (order : List Event) → first_fault log order ≡ None → IsFaultless log order
unfolding first_fault
none-faultless log order h =
    let (a, r1) = none_or (first_unknown log order) _ h in
    let (b, r2) = none_or (first_twice order) _ r1 in
    let (c, r3) = none_or (first_missing log order) _ r2 in
    let (d, r4) = none_or (first_overtaken order) _ r3 in
    let (e, r5) = none_or (first_early log order) _ r4 in
    let (g, i) = none_or (first_crossed log order) (first_outliving log order) r5 in
    record {
      known = none-unknown log order a;
      once = none-twice order b;
      present = λ v (k, l, q). let P : Event → Type 0 = λ x. place order x < length order in subst P (get_or_default (event_list log) k no_event v l ∙ q) (none-missing log order c k l);
      in_turn = none-overtaken order d;
      timely = λ x (k, l, q). let P : ℕ × Entry → Type 0 = λ y. source_rank order y < first_rank order y in subst P (get_or_default (entries_of log) k no_entry x l ∙ q) (none-early log order e k l);
      apart = λ x y (k, l, q) (m, n, r).
          let P : ℕ × Entry → Type 0 = λ v. are_crossed order v y ≡ false in
          let Q : ℕ × Entry → Type 0 = λ v. are_crossed order (entry_at log k) v ≡ false in
          subst P (get_or_default (entries_of log) k no_entry x l ∙ q) (subst Q (get_or_default (entries_of log) m no_entry y n ∙ r) (none-crossed log order g k m l n));
      over = λ word x w (k, l, q).
          let P : ℕ × Entry → Type 0 = λ v. outlives log order word v ≡ false in
          subst P (get_or_default (entries_of log) k no_entry x l ∙ q) (none-outliving log order i word k w l);
    }

told_none : (found : Option OrderFault) → told found ≡ verdict.Respects → found ≡ None
told_none None e = refl
told_none (Some f) e = absurd (cc e)

-- the verdict is that an order respects the log exactly where it does
pub says_respects : (log : Log) (order : List Event) → IsWellFormed log → (verdict_of log order ≡ verdict.Respects) ↔ Respects log order
says_respects log order formed = (
  λ h. faultless-respects log order formed (none-faultless log order (told_none (first_fault log order) h)),
  λ r. ap told (faultless-none log order (respects-faultless log order formed r)),
)
