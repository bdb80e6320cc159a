-- A log that an order respects and no runs fit.
use Rattle.std.proofs.Common.{◌≡◌, ℕ, zero, suc, ◌<◌, ◌≤◌, List, [], ◌∷◌, length, refl, sym, ◌∙◌, ap, subst, arith, inl, inr, ◌⊎◌}
use Rattle.std.specs.Prelude.{◌≢◌, Some, None, Contains, slice_index_or}
use Rattle.light_base.specs.declared.tag.Event.{Event}
use Rattle.replay_model.specs.declared.Entry.{Entry}
use Rattle.replay_model.specs.Logs.{HasEntry, ThreadLog, no_thread, last_tag, first_event, last_event}
use Rattle.replay_model.specs.Histories.{play, move, take_step}
use Rattle.replay_model.specs.ThreadLogs.{thread_log}
use Rattle.replay_model.specs.SkipPlay.{skip_play, moves, turn, turns, finish}
use Rattle.replay_model.specs.RunLogs.{HasLog}
use Rattle.replay_model.specs.Events.{IsEvent}
use Rattle.replay_model.specs.Orders.{place, Respects}
use Rattle.replay_laws.specs.Scripts.{one_each}
use Rattle.replay_laws.specs.Examples.{at, entry, reads_once, example_limits, no_fit_log, no_fit_order, no_fit_threads, NoFit}
use Rattle.replay_laws.proofs.Scripts.{script_within, script_only, script_ends}
use Rattle.replay_laws.proofs.Verdict.{fit_logged}

-- the two entries
which : (t : ℕ) (a : Entry) → HasEntry no_fit_log t a → ((t ≡ 0) × (a ≡ entry 0 (Some (at 1 1)) 1 1)) ⊎ ((t ≡ 1) × (a ≡ entry 0 None 1 1))
which zero a (zero, l, h) = inl (refl, sym h)
which zero a (suc k, l, h) = absurd (omega (arith, l))
which (suc zero) a (zero, l, h) = inr (refl, sym h)
which (suc zero) a (suc k, l, h) = absurd (omega (arith, l))
which (suc (suc t)) a (k, l, h) = absurd (omega (arith, l))

-- what holds at both holds at each
each : (P : ℕ → Entry → Type 0) → P 0 (entry 0 (Some (at 1 1)) 1 1) → P 1 (entry 0 None 1 1) → (t : ℕ) (a : Entry) → HasEntry no_fit_log t a → P t a
each P one two t a c = go (which t a c)
  where
    go : ((t ≡ 0) × (a ≡ entry 0 (Some (at 1 1)) 1 1)) ⊎ ((t ≡ 1) × (a ≡ entry 0 None 1 1)) → P t a
    go (inl (p, q)) = subst (λ (x : ℕ). P x a) (sym p) (subst (P 0) (sym q) one)
    go (inr (p, q)) = subst (λ (x : ℕ). P x a) (sym p) (subst (P 1) (sym q) two)

first_in : Contains no_fit_order (at 1 1)
first_in = (0, omega arith, refl)

second_in : Contains no_fit_order (at 0 1)
second_in = (1, omega arith, refl)

named_in : (e : Event) → Some (at 1 1) ≡ Some e → Contains no_fit_order e
named_in e q = let s : at 1 1 ≡ e = cc q in subst (Contains no_fit_order) s first_in

all_in : (e : Event) → IsEvent no_fit_log e → Contains no_fit_order e
all_in e (inl (inl (t, a, c, q))) = each (λ t a. a.source ≡ Some e → Contains no_fit_order e) (named_in e) (λ q. cc q) t a c q
all_in e (inl (inr (zero, l, h))) = named_in e h
all_in e (inl (inr (suc k, l, h))) = absurd (omega (arith, l))
all_in e (inr (t, a, c, inl q)) = subst (Contains no_fit_order) (sym q) (each (λ t a. Contains no_fit_order (first_event t a)) second_in first_in t a c)
all_in e (inr (t, a, c, inr q)) = subst (Contains no_fit_order) (sym q) (each (λ t a. Contains no_fit_order (last_event t a)) second_in first_in t a c)

only_in : (e : Event) → Contains no_fit_order e → IsEvent no_fit_log e
only_in e (zero, l, h) = subst (IsEvent no_fit_log) h (inl (inr (0, omega arith, refl)))
only_in e (suc zero, l, h) = subst (IsEvent no_fit_log) h (inr (0, entry 0 (Some (at 1 1)) 1 1, (0, omega arith, refl), inl refl))
only_in e (suc (suc k), l, h) = absurd (omega (arith, l))

first_steps : (e : Event) → Contains no_fit_order e → e.step ≡ 1
first_steps e (zero, l, h) = sym (ap (λ (x : Event). x.step) h)
first_steps e (suc zero, l, h) = sym (ap (λ (x : Event). x.step) h)
first_steps e (suc (suc k), l, h) = absurd (omega (arith, l))

once_in : (i j : ℕ) (d : Event) → i < j → j < length no_fit_order → slice_index_or no_fit_order i d ≢ slice_index_or no_fit_order j d
once_in zero (suc zero) d ij jl = λ q. let z : 1 ≡ 0 = ap (λ (x : Event). x.thread) q in omega (arith, z)
once_in i zero d ij jl = absurd (omega arith)
once_in (suc i) (suc zero) d ij jl = absurd (omega arith)
once_in i (suc (suc j)) d ij jl = absurd (omega arith)

respected : Respects no_fit_log no_fit_order
respected = record {
  all = all_in;
  only = only_in;
  once = once_in;
  rising = λ a b ca cb t s. let x = first_steps a ca in let y = first_steps b cb in absurd (omega arith);
  source_first = λ t a s c q. each (λ t a. a.source ≡ Some s → place no_fit_order s < place no_fit_order (first_event t a))
      (λ q. let e : at 1 1 ≡ s = cc q in subst (λ (x : Event). place no_fit_order x < 1) e (omega arith)) (λ q. cc q) t a c q;
  apart = λ t u a b x y ca cb w p q ne. absurd (ne (same x t a ca p ∙ sym (same y u b cb q)));
  from_initial = λ t u a b y ca cb w p q.
      let e : y ≡ at 1 1 = same y u b cb q in
      each (λ t a. a.source ≡ None → place no_fit_order (last_event t a) ≤ place no_fit_order y) (λ p. cc p) (λ p. omega arith) t a ca p;
  final = λ t a c ne. each (λ t a. a.source ≢ last_tag no_fit_log a.word → (z : Event) × (last_tag no_fit_log a.word ≡ Some z) × (place no_fit_order (last_event t a) ≤ place no_fit_order z))
      (λ ne. absurd (ne refl)) (λ ne. (at 1 1, refl, omega arith)) t a c ne;
}
  where
    same : (x : Event) (t : ℕ) (a : Entry) → HasEntry no_fit_log t a → a.source ≡ Some x → x ≡ at 1 1
    same x t a c q = each (λ t a. a.source ≡ Some x → x ≡ at 1 1) (λ q. cc q) (λ q. cc q) t a c q

-- the skip play does not have the log, so no runs fit it
pub no_fit : NoFit
unfolding play move take_step thread_log moves turn turns finish
no_fit = (
  respected,
  differs,
  λ runs fits. differs (fit_logged no_fit_threads one_each (5 ∷ []) no_fit_log no_fit_order (script_within (reads_once ∷ reads_once ∷ []) 1 example_limits)
      (script_only (reads_once ∷ reads_once ∷ []) 1 example_limits) (script_ends (reads_once ∷ reads_once ∷ []) 1 example_limits) respected runs fits),
)
  where
    differs : HasLog no_fit_threads one_each no_fit_log (skip_play no_fit_threads (5 ∷ []) no_fit_log no_fit_order) → ⊥
    differs has = let e : (entry 0 None 1 1 ∷ []) ≡ (entry 0 (Some (at 1 1)) 1 1 ∷ []) = ap (λ (x : List ThreadLog). (slice_index_or x 0 no_thread).entries) has.logs in cc e
