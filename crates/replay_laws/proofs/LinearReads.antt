-- What the entries of a log say, where its runs are put into one order.
use Rattle.std.proofs.Common.{◌≡◌, ℕ, ◌<◌, ◌≤◌, List, length, refl, sym, ◌∙◌, ap, subst, arith, inl, inr}
use Rattle.std.specs.Prelude.{◌≢◌, Some, None}
use Rattle.replay_model.specs.Steps.{Event, Tag, Step}
use Rattle.replay_model.specs.declared.Entry.{Entry}
use Rattle.replay_model.specs.Threads.{Threads}
use Rattle.replay_model.specs.Histories.{steps_of}
use Rattle.replay_model.specs.Logs.{Log, HasEntry, first_event, last_event}
use Rattle.replay_model.specs.RunLogs.{Tallies}
use Rattle.replay_model.specs.Events.{IsEvent}
use Rattle.replay_model.specs.Orders.{place}
use Rattle.replay_model.specs.Fitting.{HasWritten, Fits}
use Rattle.replay_model.proofs.ThreadLogs.{Stands, thread_log-stands}
use Rattle.replay_model.proofs.RunLogs.{entry-logged}
use Rattle.replay_laws.proofs.Places.{same_place}
use Rattle.replay_laws.proofs.Skip.{Told}
use Rattle.replay_laws.proofs.Advance.{event_inside}
use Rattle.replay_laws.proofs.Told.{told_by_fit}
use Rattle.replay_laws.proofs.Linear.{IsSourceAt, IsLinear}

module _ (threads : Threads) (tallies : Tallies) (initial : List ℕ) (log : Log) (runs : List (List Step)) (all : List Event)
    (fits : Fits threads tallies initial log runs) (linear : IsLinear (length initial) runs all log.last_tags) where
  -- what the log tells of its runs
  pub told : Told initial log runs
  told = told_by_fit threads tallies initial log runs fits

  -- each entry stands for reads of its run
  pub entry_stands : (t : ℕ) (a : Entry) → HasEntry log t a → Stands (steps_of runs t) a
  entry_stands t a c = thread_log-stands (steps_of runs t) a (entry-logged threads tallies log runs fits.logs t a c).1

  -- the first read of an entry saw its source
  pub first_read : (t : ℕ) (a : Entry) → HasEntry log t a → (a.word < length initial) × IsSourceAt runs all (place all (first_event t a)) a.word a.source
  first_read t a c =
      let s = entry_stands t a c in
      let low = s.low in let between = s.between in let high = s.high in
      linear.read (first_event t a) a.word a.source low (omega arith) s.first

  -- so did the last
  pub last_read : (t : ℕ) (a : Entry) → HasEntry log t a → (a.word < length initial) × IsSourceAt runs all (place all (last_event t a)) a.word a.source
  last_read t a c =
      let s = entry_stands t a c in
      let low = s.low in let between = s.between in let high = s.high in
      linear.read (last_event t a) a.word a.source (omega arith) high s.last

  -- each event of the log has a place
  pub event_placed : (e : Event) → IsEvent log e → place all e < length all
  event_placed e ev = let (lo, hi) = event_inside initial log runs told e ev in linear.placed e lo hi

  -- a source stands before the first read of it
  pub source_before : (t : ℕ) (a : Entry) (s : Event) → HasEntry log t a → a.source ≡ Some s → place all s < place all (first_event t a)
  source_before t a s c q = let (w, r) = first_read t a c in go r
    where
      go : IsSourceAt runs all (place all (first_event t a)) a.word a.source → place all s < place all (first_event t a)
      go (inl (i, none)) = absurd (let y : None ≡ Some s = sym i ∙ q in cc y)
      go (inr (x, v, xq, hw, d, latest)) =
          let same : x ≡ s = let y : Some x ≡ Some s = sym xq ∙ q in cc y in
          subst (λ (y : Event). place all y < place all (first_event t a)) same d

  -- where a write to the word comes before the entry's last read, it comes no later than the entry's source
  pub before_last : (t : ℕ) (a : Entry) (e : Event) (v : ℕ) → HasEntry log t a → HasWritten runs e a.word v → place all e < place all (last_event t a) →
      (s : Event) × (a.source ≡ Some s) × (place all e ≤ place all s)
  before_last t a e v c hw l = let (w, r) = last_read t a c in go r
    where
      go : IsSourceAt runs all (place all (last_event t a)) a.word a.source → (s : Event) × (a.source ≡ Some s) × (place all e ≤ place all s)
      go (inl (i, none)) = absurd (let n = none e v hw in omega arith)
      go (inr (x, y, xq, xw, d, latest)) = (x, xq, latest e v hw l)

  -- an overwritten tag never comes back: where another write to the word stands before a read, and after the source of an earlier read, that source is not read again
  pub not_between : (t u : ℕ) (a b : Entry) → HasEntry log t a → HasEntry log u b → a.word ≡ b.word → a.source ≢ b.source →
      place all (first_event t a) < place all (first_event u b) → place all (first_event u b) < place all (last_event t a) → ⊥
  not_between t u a b ca cb w ne lo hi = let (wl, r) = first_read u b cb in go r
    where
      go : IsSourceAt runs all (place all (first_event u b)) b.word b.source → ⊥
      go (inl (i, none)) = from a.source refl
        where
          from : (tag : Tag) → a.source ≡ tag → ⊥
          from None q = ne (q ∙ sym i)
          from (Some s) q =
              let (v, sw) = told.sources t a s ca q in
              let n = none s v (subst (λ (x : ℕ). HasWritten runs s x v) w sw) in
              let m = source_before t a s ca q in
              omega arith
      go (inr (x, v, xq, xw, d, latest)) =
          let aw : HasWritten runs x a.word v = subst (λ (y : ℕ). HasWritten runs x y v) (sym w) xw in
          let (s, q, l) = before_last t a x v ca aw (omega arith) in
          let (z, sw) = told.sources t a s ca q in
          let m = source_before t a s ca q in
          let k = latest s z (subst (λ (y : ℕ). HasWritten runs s y z) w sw) (omega arith) in
          let same : s ≡ x = same_place all s x (omega arith) (linear.placed s sw.low sw.high) in
          ne (q ∙ ap Some same ∙ sym xq)
