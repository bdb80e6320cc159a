-- How a thread that has ended stands.
use Rattle.std.proofs.Common.{◌≡◌, ℕ, true, List, refl, sym, subst}
use Rattle.std.specs.Prelude.{Option, Some, None, IsSome, option_and_then}
use Rattle.replay_model.specs.declared.End.TheVariants as end
use Rattle.replay_model.specs.declared.Want.{Want}
use Rattle.replay_model.specs.declared.Want.TheVariants.{Load, Store, Swap, Cond, Ended}
use Rattle.replay_model.specs.Steps.{Step, has_ended}
use Rattle.replay_model.specs.RunLogs as run_logs
use Rattle.machine.specs.Programs.{ProgramValue, LimitsValue}
use Rattle.machine.specs.Cores.{State, want_or, end_of, end_or_halted}
use Rattle.running_thread.specs.Threads.{state_with, threads_with}
use Rattle.running_thread.proofs.ThreadFacts.{obeys}

-- the end that is pending
pub same-end : (o : Option Want) → run_logs.end_of (want_or (Ended end.Halted) o) ≡ end_or_halted (option_and_then end_of o)
same-end None = refl
same-end (Some (Ended e)) = refl
same-end (Some (Load word)) = refl
same-end (Some (Store word value)) = refl
same-end (Some (Swap word value)) = refl
same-end (Some (Cond word seen value)) = refl

-- what is pending is an end
is-end : (w : Want) → has_ended w ≡ true → IsSome (end_of w)
is-end (Ended e) h = refl
is-end (Load word) h = absurd (cc h)
is-end (Store word value) h = absurd (cc h)
is-end (Swap word value) h = absurd (cc h)
is-end (Cond word seen value) h = absurd (cc h)

-- a core that has come to its end has that end pending
pub at-end : (p : ProgramValue) (limits : LimitsValue) (list : List ℕ) (t : ℕ) (steps : List Step) (core : State) → core ≡ state_with p limits list t steps → has_ended (threads_with p limits list t steps) ≡ true →
    IsSome (option_and_then end_of core.pending)
at-end p limits list t steps core is over =
    let P : State → Type 0 = λ s. IsSome (option_and_then end_of s.pending) in
    let Q : Option Want → Type 0 = λ o. IsSome (option_and_then end_of o) in
    subst P (sym is) (subst Q (sym (obeys p limits list t steps).pending) (is-end (threads_with p limits list t steps) over))
