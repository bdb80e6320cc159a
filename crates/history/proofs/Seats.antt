-- What is kept of one thread that took a step.
use Rattle.std.proofs.Common.{◌≡◌, ℕ, ◌+◌, List, [], ◌∷◌, ◌++◌, length, sym, ◌∙◌, ap, subst, arith}
use Rattle.std.specs.Prelude.{Option}
use Rattle.std.specs.Global.{Vec}
use Rattle.replay_model.specs.declared.Access.{Access}
use Rattle.replay_model.specs.declared.Want.{Want}
use Rattle.replay_model.specs.Steps.{Cell, Step, word_of, wrote, has_ended, put, access_of, accesses_from}
use Rattle.replay_model.specs.Histories.{step_in}
use Rattle.replay_model.proofs.Accesses.{accesses_from-push}
use Rattle.machine.specs.Programs.{ProgramValue, LimitsValue}
use Rattle.running_thread.specs.declared.thread.RunningThread.{RunningThread}
use Rattle.running_thread.specs.declared.thread.Moved.{Moved}
use Rattle.running_thread.specs.declared.thread.Moved.TheVariants.{Took}
use Rattle.running_thread.specs.Running.{event_after, step_that}
use Rattle.running_thread.specs.Threads.{TakesStep, Moves, threads_with}
use Rattle.history.specs.declared.seat.Seat.{Seat}
use Rattle.history.specs.declared.words.PlainWords.{PlainWords}
use Rattle.history.specs.Words.{IsReady, Takes}
use Rattle.history.specs.Playing.{IsSeat, TakesNext}

module _ (p : ProgramValue) (limits : LimitsValue) (list : List ℕ) (t : ℕ) (steps : List Step) (old new : PlainWords) (before : Seat) (thread : RunningThread) (moved : Moved) (accesses : Vec Access)
    (is : IsSeat p limits list t steps before) (moves : Moves IsReady Takes p limits list t steps old moved new thread) where
  pub seat-took : (number : ℕ) (wanted : Want) (found : Option Cell) (access : Access) → moved ≡ Took number wanted found → access ≡ access_of number (step_that wanted found) →
      accesses.items ≡ before.accesses.items ++ access ∷ [] → TakesNext p limits list t steps old access new (record { thread = thread; accesses = accesses })
  seat-took number wanted found access e told more = by_step (subst (λ (m : Moved). Moves IsReady Takes p limits list t steps old m new thread) e moves)
    where
      by_step : (number ≡ length steps + 1) × TakesStep IsReady Takes p limits list t steps old wanted found new thread → TakesNext p limits list t steps old access new (record { thread = thread; accesses = accesses })
      by_step (n, took) =
          let is-next : step_that wanted found ≡ step_in old.cells.items (threads_with p limits list t steps) =
          ap (step_that wanted) took.taken.finds ∙ ap (step_in old.cells.items) (sym took.wants) in
          let told-is : access ≡ access_of (length steps + 1) (step_that wanted found) = told ∙ ap (λ (k : ℕ). access_of k (step_that wanted found)) n in
          let z : length steps + 1 ≡ 1 + length steps = omega arith in
          record {
            lives = ap has_ended took.wants ∙ took.lives;
            told = told-is ∙ ap (access_of (length steps + 1)) is-next;
            cells = took.taken.cells ∙ ap (λ (s : Step). put old.cells.items (word_of s.want) (event_after t steps) (wrote s.want s.found)) is-next;
            is = subst (λ (s : Step). IsSeat p limits list t (steps ++ s ∷ []) (record { thread = thread; accesses = accesses })) is-next (record {
              runs = took.is;
              told =
                  more ∙ ap (λ (l : List Access). l ++ access ∷ []) is.told ∙ ap (λ (a : Access). accesses_from 1 steps ++ a ∷ []) (told-is ∙ ap (λ (k : ℕ). access_of k (step_that wanted found)) z) ∙
                  sym (accesses_from-push 1 steps (step_that wanted found));
            });
          }
