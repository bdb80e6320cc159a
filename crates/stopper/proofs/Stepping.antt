-- One step of a thread, after which it stands right there.
use Rattle.std.proofs.Common.{◌≡◌, ℕ, ◌+◌, ◌<◌, Bool, true, false, leb, List, [], ◌∷◌, ◌++◌, length, refl, sym, ◌∙◌, ap, subst, arith, inl, inr}
use Rattle.std.specs.Prelude.{All, Option, Some, is_some}
use Rattle.replay_model.specs.declared.Entry.{Entry}
use Rattle.replay_model.specs.declared.Want.{Want}
use Rattle.replay_model.specs.Steps.{Event, Cell, Step, word_of, has_ended, reads, found_in}
use Rattle.replay_model.specs.Histories.{World, steps_of, wanted}
use Rattle.replay_model.specs.Logs.{Log}
use Rattle.replay_model.specs.Events.{keeps}
use Rattle.replay_model.specs.SkipPlay.{moves}
use Rattle.replay_model.proofs.Moves.{move_steps}
use Rattle.replay_laws.proofs.Endings.{moves_ended}
use Rattle.machine.specs.Programs.{ProgramValue, LimitsValue}
use Rattle.machine.specs.Inputs.{inputs_of}
use Rattle.machine.specs.Cores.{State, settled, took}
use Rattle.machine.specs.Laws.{taken_in}
use Rattle.machine.specs.Turns.{IsUnderWay}
use Rattle.dep_log.specs.AccessLogs.{with_found}
use Rattle.dep_log.specs.DepLogs.{DepLogState}
use Rattle.running_thread.specs.declared.thread.RunningThread.{RunningThread}
use Rattle.running_thread.specs.Running.{Asks, StayReady, event_after, step_that}
use Rattle.running_thread.specs.Threads.{HasAdded}
use Rattle.running_thread.proofs.Stepping as stepping
use Rattle.replayer.specs.declared.words.ReplayWords.{ReplayWords}
use Rattle.replayer.specs.Replays.{threads_by}
use Rattle.replayer.specs.Words.{IsReady, Takes}
use Rattle.replayer.specs.Seats.{IsAt}
use Rattle.replayer.proofs.Running.{at-here}
use Rattle.stopper.specs.Plays.{IsOver, StandsThere, HasStepped, one_more}
use Rattle.stopper.specs.Stops.{stopped_after}
use Rattle.stopper.proofs.Stops.{stops_step}

-- what telling asks for
pub record CanTell (core : State) (log : DepLogState) (wants : Want) (seen : Option Cell) (count : ℕ) : Type 0 where
  pub pending : core.pending ≡ Some wants
  pub lives : has_ended wants ≡ false
  pub found : is_some seen ≡ reads wants
  pub word : word_of wants < log.words
  pub number : 0 < count
  pub later : All (λ (entry : Entry). entry.last < count) log.entries
  pub room : reads wants ≡ true → length log.entries < log.limit

-- after thread t moved its steps are these and one more
after-move : (p : ProgramValue) (log : Log) (t : ℕ) (world : World) (wants : Want) (found : Option Cell) → t < length world.threads → wanted (threads_by p log) t world ≡ wants →
    has_ended wants ≡ false → found ≡ found_in world.memory wants → steps_of (one_more p log t world).threads t ≡ steps_of world.threads t ++ step_that wants found ∷ []
unfolding moves
after-move p log t world wants found l w lives is =
    move_steps (threads_by p log) (keeps log) t world wants l w lives ∙ ap (λ (f : Option Cell). steps_of world.threads t ++ step_that wants f ∷ []) (sym is)

module _ (p : ProgramValue) (log : Log) (t : ℕ) (limits : LimitsValue) (list : List ℕ) (l : limits ≡ log.limits) (i : list ≡ inputs_of (taken_in log) t)
    (world : World) (words : ReplayWords) (thread : RunningThread) (at : IsAt p log world t words thread) (full : Bool) (f : full ≡ leb thread.log.limit (length thread.log.entries))
    (core : State) (ran : core ≡ settled p limits list full thread.core) where
  abbrev pub steps : List Step
  steps = steps_of world.threads t

  pub here : core ≡ settled p log.limits (inputs_of (taken_in log) t) full thread.core
  here = ran ∙ ap (λ (k : LimitsValue). settled p k list full thread.core) l ∙ ap (λ (x : List ℕ). settled p log.limits x full thread.core) i

  module _ (wants : Want) (pending : core.pending ≡ Some wants) where
    wants-is : wanted (threads_by p log) t world ≡ wants
    wants-is = stepping.ran-want p log.limits (inputs_of (taken_in log) t) t steps thread at.seated full f core here wants pending

    -- what the step needs
    pub few : has_ended wants ≡ false → core.steps < 268435455
    few lives = stepping.few-steps p log.limits (inputs_of (taken_in log) t) t steps thread at.seated full f core here wants pending lives

    pub own : core.thread ≡ t
    own = stepping.ran-own p log.limits (inputs_of (taken_in log) t) t steps thread at.seated full f core here

    pub asked : has_ended wants ≡ false → (event : Event) → event.thread ≡ core.thread → event.step ≡ core.steps + 1 → Asks (length p.words) event steps wants
    asked lives event e n = stepping.asks p log.limits (inputs_of (taken_in log) t) t steps thread at.seated full f core here wants pending lives event e n

    pub ready : (u : ℕ) → u ≡ core.thread → IsReady words (length p.words) u steps
    ready u e = (at.are.sized, (let n = at.are.all in let h = at.seated.there in let o = own in omega (arith, n, h, o, e)))

    pub may-take : has_ended wants ≡ false → (event : Event) → event.thread ≡ core.thread → event.step ≡ core.steps + 1 →
        (size : ℕ) × (earlier : List Step) × IsReady words size event.thread earlier × Asks size event earlier wants
    may-take lives event e n = (length p.words, steps, ready event.thread e, asked lives event e n)

    pub may-tell : has_ended wants ≡ false → (found : Option Cell) → is_some found ≡ reads wants → (number : ℕ) → number ≡ core.steps + 1 →
        CanTell core thread.log wants found number
    may-tell lives found fits number n = record {
      pending = pending;
      lives = lives;
      found = fits;
      word = stepping.log-word p log.limits (inputs_of (taken_in log) t) t steps thread at.seated full f core here wants pending lives;
      number = omega (arith, n);
      later = stepping.log-later p log.limits (inputs_of (taken_in log) t) t steps thread at.seated full f core here wants pending lives number n;
      room = stepping.log-room p log.limits (inputs_of (taken_in log) t) t steps thread at.seated full f core here wants pending lives;
    }

    -- it has ended
    pub over : has_ended wants ≡ true → HasStepped p log t world words (record thread { core = core })
    over h =
        let ended : IsOver p log world t = ap has_ended wants-is ∙ h in
        let same : one_more p log t world ≡ world = moves_ended (threads_by p log) (keeps log) 1 t world ended in
        record {
          at = subst (λ (w : World). IsAt p log w t words (record thread { core = core })) (sym same) (record {
            are = at.are;
            seated = stepping.ran-thread p log.limits (inputs_of (taken_in log) t) t steps thread at.seated full f core here;
          });
          stands = inr ended;
        }

    -- it has taken its step
    pub took-one : has_ended wants ≡ false → (found : Option Cell) (after : ReplayWords) (last : State) (kept : DepLogState) (number : ℕ) →
        Takes words (event_after t steps) wants found after → IsReady after (length p.words) t (steps ++ step_that wants found ∷ []) →
        is_some found ≡ reads wants → number ≡ core.steps + 1 → last ≡ took core found →
        kept.words ≡ thread.log.words → kept.limit ≡ thread.log.limit → kept.entries ≡ with_found number (word_of wants) found thread.log.entries →
        HasStepped p log t world after (record { core = last; log = kept })
    took-one lives found after last kept number takes ready fits is-number took-is kept-words kept-limit kept-entries = record {
      at = at-here p log t world words after thread (record { core = last; log = kept }) at (step_that wants found ∷ []) has;
      stands = inl (
          took-is ∙ ap (λ (s : State). took s found) (stepping.ran-core p log.limits (inputs_of (taken_in log) t) t steps thread at.seated full f core here) ∙
          sym (stops_step p log.limits (taken_in log) t steps (step_that wants found)) ∙
          ap (stopped_after p log.limits (taken_in log) t) (sym (after-move p log t world wants found (let c = at.are.counted in let h = at.seated.there in omega (arith, c, h)) wants-is lives
          (takes.finds ∙ ap (λ (m : List Cell). found_in m wants) at.are.memory)))
          );
    }
      where
        has : HasAdded IsReady Takes p log.limits (inputs_of (taken_in log) t) t steps (step_that wants found ∷ []) words after (record { core = last; log = kept })
        has = record {
          runs = (after, wants-is, lives, takes, refl);
          still = ready;
          is = stepping.stepped p log.limits (inputs_of (taken_in log) t) t steps thread at.seated full f core here wants pending lives found last kept number fits is-number took-is
              kept-words kept-limit kept-entries;
        }

    -- the same by what its calls say
    pub took-by : has_ended wants ≡ false → (event : Event) → event.thread ≡ core.thread → event.step ≡ core.steps + 1 → (found : Option Cell) (after : ReplayWords) (last : State) (kept : DepLogState) →
        Takes words event wants found after → StayReady IsReady event wants found words after → is_some found ≡ reads wants → last ≡ took core found →
        kept.words ≡ thread.log.words → kept.limit ≡ thread.log.limit → kept.entries ≡ with_found event.step (word_of wants) found thread.log.entries →
        HasStepped p log t world after (record { core = last; log = kept })
    took-by lives event e n found after last kept takes stay fits took-is kept-words kept-limit kept-entries =
        let counted : event.step ≡ length steps + 1 =
        n ∙ ap (λ (m : ℕ). m + 1) (stepping.ran-counted p log.limits (inputs_of (taken_in log) t) t steps thread at.seated full f core here) in
        let event-is : event ≡ event_after t steps =
        ap (λ (u : ℕ). record { thread = u; step = event.step }) (e ∙ own) ∙ ap (λ (m : ℕ). record { thread = t; step = m }) counted in
        took-one lives found after last kept event.step (subst (λ (x : Event). Takes words x wants found after) event-is takes)
        (subst (λ (x : Event). IsReady after (length p.words) x.thread (steps ++ step_that wants found ∷ [])) event-is
        (stay (length p.words) steps (ready event.thread e) (asked lives event e n)))
        fits n took-is kept-words kept-limit kept-entries
