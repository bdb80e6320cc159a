-- The worked examples.
use Rattle.std.proofs.Common.{◌≡◌, ℕ, zero, suc, ◌<◌, ◌≤◌, true, false, List, [], ◌∷◌, length, map, refl, ◌∙◌, ap, subst, arith, inl, inr}
use Rattle.std.specs.Prelude.{Some, None, Contains}
use Rattle.std.specs.List.{AllByRecursion}
use Rattle.std.proofs.lemmas.List.Elements.{All-from_recursion}
use Rattle.light_base.specs.declared.tag.Event.{Event}
use Rattle.light_base.specs.declared.tag.Tag.{Tag}
use Rattle.light_base.specs.declared.tag.Cell.{Cell}
use Rattle.replay_model.specs.declared.Entry.{Entry}
use Rattle.replay_model.specs.Threads.{IsRun}
use Rattle.replay_model.specs.Histories.{World, move, take_step, play, IsLegal, IsWhole, history_of, round_turns}
use Rattle.replay_model.specs.WordSteps.{WordStep, part}
use Rattle.replay_model.specs.ThreadLogs.{thread_log}
use Rattle.replay_model.specs.Logs.{ThreadLog}
use Rattle.replay_model.specs.Events.{events_of}
use Rattle.replay_model.specs.Orders.{place, Respects}
use Rattle.replay_model.specs.WellFormed.{IsInRange}
use Rattle.replay_model.specs.RunLogs.{HasLog}
use Rattle.replay_model.specs.SkipPlay.{moves, turn, turns, finish}
use Rattle.replay_model.specs.WholeHistories.{IsWholeHistory, history_order}
use Rattle.replay_laws.specs.Scripts.{Script, one_each}
use Rattle.replay_laws.specs.Examples
use Rattle.replay_laws.proofs.Bridge.{word_steps_played}
use Rattle.replay_laws.proofs.Scripts.{script_within, script_only, script_ends, script_keeps}
use Rattle.replay_laws.proofs.Places.{place-contains, event-is_event}
use Rattle.replay_laws.proofs.Verdict.{skipped_fit}
use Rattle.replay_laws.proofs.HistoryLog.{history_fits, history_respects, history_replayed}
use Rattle.replay_laws.proofs.WellFormedLog.{history_formed}

-- what is computed gives the rest by the laws
pub shown : (scripts : List Script) (initial history : List ℕ) (entries : List (List Entry)) (last_tags : List Tag) (order : List Event) (cells : List Cell) →
    IsInRange (length {A = Script} scripts) (length initial) Examples.example_limits →
    IsWholeHistory (Examples.example_threads scripts initial) initial (length {A = Script} scripts) history →
    map (λ (thread : ThreadLog). thread.entries) (Examples.example_log scripts initial history).threads ≡ entries →
    (Examples.example_log scripts initial history).last_tags ≡ last_tags →
    history_order (Examples.example_threads scripts initial) initial (length {A = Script} scripts) history (Examples.example_log scripts initial history) ≡ order →
    (Examples.example_end scripts initial history).memory ≡ cells →
    Examples.Shows scripts initial history entries last_tags order cells
shown scripts initial history entries last_tags order cells range whole es ls os cs =
    let within = script_within scripts (length initial) Examples.example_limits in
    let only = script_only scripts (length initial) Examples.example_limits in
    let ends = script_ends scripts (length initial) Examples.example_limits in
    let keeps = script_keeps scripts (length initial) Examples.example_limits (omega arith) in
    let threads = Examples.example_threads scripts initial in
    let count = length {A = Script} scripts in
    let respects : Respects (Examples.example_log scripts initial history) order =
    subst (Respects (Examples.example_log scripts initial history)) os (history_respects threads one_each [] Examples.example_limits initial count history within only whole) in
    let replayed = history_replayed threads one_each [] Examples.example_limits initial count history within only whole order ends respects in
    record {
      whole = whole;
      entries = es;
      last_tags = ls;
      formed = history_formed threads one_each [] Examples.example_limits initial count history within only ends keeps range whole;
      fits = history_fits threads one_each [] Examples.example_limits initial count history within only whole;
      respects = respects;
      replayed = replayed;
      cells = ap (λ (x : World). x.memory) replayed ∙ cs;
    }

-- lost update
pub lost_update : Examples.LostUpdate
unfolding play move take_step IsLegal events_of thread_log
lost_update = shown (Examples.increments ∷ Examples.increments ∷ []) (0 ∷ []) (0 ∷ 1 ∷ 0 ∷ 1 ∷ []) _ _ _ _
    (record { some_thread = omega arith; threads = omega arith; some_word = omega arith; words = omega arith; steps = omega arith; instr = omega arith; entries = omega arith })
    (record { legal = (refl, (refl, (refl, (refl, tt)))); whole = ends }) refl refl refl refl
  where
    ends : IsWhole (Examples.example_threads (Examples.increments ∷ Examples.increments ∷ []) (0 ∷ [])) (Examples.example_end (Examples.increments ∷ Examples.increments ∷ []) (0 ∷ []) (0 ∷ 1 ∷ 0 ∷ 1 ∷ []))
    ends zero l = refl
    ends (suc zero) l = refl
    ends (suc (suc t)) l = absurd (omega arith)

-- the last write would stand before the read of the initial value
pub lost_update_refused : Examples.LostUpdateRefused
unfolding play move take_step thread_log
lost_update_refused r =
    let (z, q, l) = r.final 0 (Examples.entry 0 None 1 1) (0, omega arith, refl) (λ e. cc e) in
    let e : z ≡ Examples.at 1 2 = let y : Some (Examples.at 1 2) ≡ Some z = q in cc y in
    let P : Event → Type 0 = λ x. 2 ≤ place (Examples.at 1 1 ∷ Examples.at 1 2 ∷ Examples.at 0 1 ∷ []) x in
    let m : 2 ≤ 1 = subst P e l in omega (arith, m)

-- message passing
pub message_passing : Examples.MessagePassing
unfolding play move take_step IsLegal events_of thread_log
message_passing = shown (Examples.sends ∷ Examples.waits ∷ []) (0 ∷ 0 ∷ []) (1 ∷ 1 ∷ 0 ∷ 0 ∷ 1 ∷ 1 ∷ []) _ _ _ _
    (record { some_thread = omega arith; threads = omega arith; some_word = omega arith; words = omega arith; steps = omega arith; instr = omega arith; entries = omega arith })
    (record { legal = (refl, (refl, (refl, (refl, (refl, (refl, tt)))))); whole = ends }) refl refl refl refl
  where
    ends : IsWhole (Examples.example_threads (Examples.sends ∷ Examples.waits ∷ []) (0 ∷ 0 ∷ [])) (Examples.example_end (Examples.sends ∷ Examples.waits ∷ []) (0 ∷ 0 ∷ []) (1 ∷ 1 ∷ 0 ∷ 0 ∷ 1 ∷ 1 ∷ []))
    ends zero l = refl
    ends (suc zero) l = refl
    ends (suc (suc t)) l = absurd (omega arith)

-- message passing sooner
pub message_passing_sooner : Examples.MessagePassingSooner
unfolding play move take_step IsLegal events_of thread_log
message_passing_sooner = shown (Examples.sends ∷ Examples.waits ∷ []) (0 ∷ 0 ∷ []) (0 ∷ 1 ∷ 1 ∷ 0 ∷ 1 ∷ 1 ∷ []) _ _ _ _
    (record { some_thread = omega arith; threads = omega arith; some_word = omega arith; words = omega arith; steps = omega arith; instr = omega arith; entries = omega arith })
    (record { legal = (refl, (refl, (refl, (refl, (refl, (refl, tt)))))); whole = ends }) refl refl refl refl
  where
    ends : IsWhole (Examples.example_threads (Examples.sends ∷ Examples.waits ∷ []) (0 ∷ 0 ∷ [])) (Examples.example_end (Examples.sends ∷ Examples.waits ∷ []) (0 ∷ 0 ∷ []) (0 ∷ 1 ∷ 1 ∷ 0 ∷ 1 ∷ 1 ∷ []))
    ends zero l = refl
    ends (suc zero) l = refl
    ends (suc (suc t)) l = absurd (omega arith)

-- the other history has the same log, so its order respects it
pub message_passing_elsewise : Examples.MessagePassingElsewise
unfolding play move take_step thread_log
message_passing_elsewise = message_passing_sooner.respects

-- the write to word 1 would stand before the last read of its initial value
pub message_passing_between : Examples.MessagePassingBetween
unfolding play move take_step thread_log
message_passing_between r =
    let l : 3 ≤ 1 = r.from_initial 1 1 (Examples.entry 1 None 1 2) (Examples.entry 1 (Some (Examples.at 0 2)) 3 3) (Examples.at 0 2) (0, omega arith, refl) (1, omega arith, refl) refl refl refl in
    omega (arith, l)

-- the read would stand before the write that it saw
pub message_passing_too_early : Examples.MessagePassingTooEarly
unfolding play move take_step thread_log
message_passing_too_early r =
    let l : 4 < 2 = r.source_first 1 (Examples.entry 1 (Some (Examples.at 0 2)) 3 3) (Examples.at 0 2) (1, omega arith, refl) refl in
    omega (arith, l)

-- round another read
pub round_another_read : Examples.RoundAnotherRead
unfolding play move take_step IsLegal events_of thread_log
round_another_read = shown (Examples.reads_round ∷ []) (0 ∷ 0 ∷ []) (0 ∷ 0 ∷ 0 ∷ []) _ _ _ _
    (record { some_thread = omega arith; threads = omega arith; some_word = omega arith; words = omega arith; steps = omega arith; instr = omega arith; entries = omega arith })
    (record { legal = (refl, (refl, (refl, tt))); whole = ends }) refl refl refl refl
  where
    ends : IsWhole (Examples.example_threads (Examples.reads_round ∷ []) (0 ∷ 0 ∷ [])) (Examples.example_end (Examples.reads_round ∷ []) (0 ∷ 0 ∷ []) (0 ∷ 0 ∷ 0 ∷ []))
    ends zero l = refl
    ends (suc t) l = absurd (omega arith)

-- steps of one thread would stand out of order
pub round_another_read_refused : Examples.RoundAnotherReadRefused
round_another_read_refused r =
    let l : 1 < 0 = r.rising (Examples.at 0 1) (Examples.at 0 2) (1, omega arith, refl) (0, omega arith, refl) refl (omega arith) in
    omega (arith, l)

-- exchange chain
pub exchange_chain : Examples.ExchangeChain
unfolding play move take_step IsLegal events_of thread_log
exchange_chain = shown (Examples.exchanges 1 ∷ Examples.exchanges 2 ∷ Examples.exchanges 3 ∷ []) (0 ∷ []) (0 ∷ 1 ∷ 2 ∷ []) _ _ _ _
    (record { some_thread = omega arith; threads = omega arith; some_word = omega arith; words = omega arith; steps = omega arith; instr = omega arith; entries = omega arith })
    (record { legal = (refl, (refl, (refl, tt))); whole = ends }) refl refl refl refl
  where
    ends : IsWhole (Examples.example_threads (Examples.exchanges 1 ∷ Examples.exchanges 2 ∷ Examples.exchanges 3 ∷ []) (0 ∷ [])) (Examples.example_end (Examples.exchanges 1 ∷ Examples.exchanges 2 ∷ Examples.exchanges 3 ∷ []) (0 ∷ []) (0 ∷ 1 ∷ 2 ∷ []))
    ends zero l = refl
    ends (suc zero) l = refl
    ends (suc (suc zero)) l = refl
    ends (suc (suc (suc t))) l = absurd (omega arith)

-- the second exchange would stand before the first
pub exchange_chain_refused : Examples.ExchangeChainRefused
unfolding play move take_step thread_log
exchange_chain_refused r =
    let l : 1 < 0 = r.source_first 1 (Examples.entry 0 (Some (Examples.at 0 1)) 1 1) (Examples.at 0 1) (0, omega arith, refl) refl in
    omega (arith, l)

-- blind stores
pub blind_stores : Examples.BlindStores
unfolding play move take_step IsLegal events_of thread_log
blind_stores = shown (Examples.reads_once ∷ Examples.writes 5 ∷ Examples.writes 6 ∷ []) (0 ∷ []) (0 ∷ 2 ∷ 1 ∷ []) _ _ _ _
    (record { some_thread = omega arith; threads = omega arith; some_word = omega arith; words = omega arith; steps = omega arith; instr = omega arith; entries = omega arith })
    (record { legal = (refl, (refl, (refl, tt))); whole = ends }) refl refl refl refl
  where
    ends : IsWhole (Examples.example_threads (Examples.reads_once ∷ Examples.writes 5 ∷ Examples.writes 6 ∷ []) (0 ∷ [])) (Examples.example_end (Examples.reads_once ∷ Examples.writes 5 ∷ Examples.writes 6 ∷ []) (0 ∷ []) (0 ∷ 2 ∷ 1 ∷ []))
    ends zero l = refl
    ends (suc zero) l = refl
    ends (suc (suc zero)) l = refl
    ends (suc (suc (suc t))) l = absurd (omega arith)

-- the last write would stand before the read of the initial value
pub blind_stores_refused : Examples.BlindStoresRefused
unfolding play move take_step thread_log
blind_stores_refused r =
    let (z, q, l) = r.final 0 (Examples.entry 0 None 1 1) (0, omega arith, refl) (λ e. cc e) in
    let e : z ≡ Examples.at 1 1 = let y : Some (Examples.at 1 1) ≡ Some z = q in cc y in
    let P : Event → Type 0 = λ x. 1 ≤ place (Examples.at 1 1 ∷ Examples.at 0 1 ∷ []) x in
    let m : 1 ≤ 0 = subst P e l in omega (arith, m)

-- the overwritten store is no event of the log
pub blind_stores_no_event : Examples.BlindStoresNoEvent
unfolding play move take_step thread_log
blind_stores_no_event r =
    let e : false ≡ true = event-is_event (Examples.example_log (Examples.reads_once ∷ Examples.writes 5 ∷ Examples.writes 6 ∷ []) (0 ∷ []) (0 ∷ 2 ∷ 1 ∷ [])) (Examples.at 2 1) (r.only (Examples.at 2 1) (1, omega arith, refl)) in cc e

-- same value other writer
pub same_value_other_writer : Examples.SameValueOtherWriter
unfolding play move take_step IsLegal events_of thread_log
same_value_other_writer = shown (Examples.compares ∷ Examples.writes 5 ∷ []) (5 ∷ []) (0 ∷ 1 ∷ 0 ∷ []) _ _ _ _
    (record { some_thread = omega arith; threads = omega arith; some_word = omega arith; words = omega arith; steps = omega arith; instr = omega arith; entries = omega arith })
    (record { legal = (refl, (refl, (refl, tt))); whole = ends }) refl refl refl refl
  where
    ends : IsWhole (Examples.example_threads (Examples.compares ∷ Examples.writes 5 ∷ []) (5 ∷ [])) (Examples.example_end (Examples.compares ∷ Examples.writes 5 ∷ []) (5 ∷ []) (0 ∷ 1 ∷ 0 ∷ []))
    ends zero l = refl
    ends (suc zero) l = refl
    ends (suc (suc t)) l = absurd (omega arith)

-- an event is missing
pub same_value_other_writer_refused : Examples.SameValueOtherWriterRefused
unfolding play move take_step thread_log
same_value_other_writer_refused r =
    let c : Contains (Examples.at 0 1 ∷ Examples.at 1 1 ∷ []) (Examples.at 0 2) =
    r.all (Examples.at 0 2) (inr (0, Examples.entry 0 (Some (Examples.at 1 1)) 2 2, (1, omega arith, refl), inl refl)) in
    let l : 2 < 2 = place-contains (Examples.at 0 1 ∷ Examples.at 1 1 ∷ []) (Examples.at 0 2) c in
    omega (arith, l)

-- turns in rounds
pub lost_update_rounds : Examples.LostUpdateRounds
unfolding play move take_step thread_log history_of round_turns
lost_update_rounds = (refl, refl)

-- the steps at the words are a history
pub lost_update_bridge : Examples.LostUpdateBridge
unfolding play move take_step thread_log
lost_update_bridge = word_steps_played (Examples.example_threads (Examples.increments ∷ Examples.increments ∷ []) (0 ∷ [])) (0 ∷ []) 2 Examples.lost_update_steps (Examples.cell 1 (Some (Examples.at 1 2)) ∷ [])
    (All-from_recursion (λ (e : WordStep). e.thread < 2) Examples.lost_update_steps within) run (refl, refl, (refl, refl, (refl, refl, (refl, refl, refl))))
  where
    within : AllByRecursion (λ (e : WordStep). e.thread < 2) Examples.lost_update_steps
    within = (omega arith, (omega arith, (omega arith, (omega arith, tt))))

    run : (t : ℕ) → t < 2 → IsRun (Examples.example_threads (Examples.increments ∷ Examples.increments ∷ []) (0 ∷ [])) t (part t Examples.lost_update_steps)
    run zero l = lost_update.fits.run 0 (omega arith)
    run (suc zero) l = lost_update.fits.run 1 (omega arith)
    run (suc (suc t)) l = absurd (omega arith)

-- a log that no history has, which runs fit all the same
pub forced_between : Examples.ForcedBetween
unfolding play move take_step thread_log moves turn turns finish
forced_between = (
  has,
  skipped_fit Examples.forced_between_threads one_each (0 ∷ 0 ∷ []) Examples.forced_between_log (Examples.at 0 1 ∷ Examples.at 0 3 ∷ Examples.at 1 1 ∷ Examples.at 1 2 ∷ Examples.at 1 3 ∷ [])
      (script_within (Examples.counts ∷ Examples.looks_back ∷ []) 2 Examples.example_limits) (script_only (Examples.counts ∷ Examples.looks_back ∷ []) 2 Examples.example_limits)
      (script_ends (Examples.counts ∷ Examples.looks_back ∷ []) 2 Examples.example_limits) has,
  refl,
)
  where
    has : HasLog Examples.forced_between_threads one_each Examples.forced_between_log Examples.forced_between_end
    has = record { logs = refl; last_tags = refl }

-- one entry is allowed
pub one_entry : Examples.OneEntry
unfolding play move take_step thread_log
one_entry = refl
