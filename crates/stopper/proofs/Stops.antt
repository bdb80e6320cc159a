-- A thread of a program right after a memory step.
use Rattle.std.proofs.Common.{◌≡◌, ℕ, List, [], ◌∷◌, ◌++◌, refl, sym, ◌∙◌, ap, append_assoc}
use Rattle.std.proofs.lemmas.List.{append-nil}
use Rattle.replay_model.specs.Steps.{Step}
use Rattle.replay_model.specs.ThreadLogs.{is_full}
use Rattle.machine.specs.Programs.{ProgramValue, LimitsValue}
use Rattle.machine.specs.Inputs.{inputs_of}
use Rattle.machine.specs.Cores.{State, first_state, settled, took}
use Rattle.machine.specs.Laws.{taken_in}
use Rattle.machine.specs.Runs.{state_from, threads_of, tallies_of}
use Rattle.machine.proofs.Runs.{stays_within, ends_within}
use Rattle.cut_laws.proofs.Cuts.{cut_comes}
use Rattle.stopper.specs.Stops.{stopped_from, stopped_after, StopsStepByStep, StopsSettle, StopsAsItRan}

from-push : (p : ProgramValue) (limits : LimitsValue) (list : List ℕ) (earlier : List Step) (s : State) (steps : List Step) (step : Step) →
    stopped_from p limits list earlier s (steps ++ step ∷ []) ≡ took (state_from p limits list earlier s steps) step.found
from-push p limits list earlier s [] step = refl
from-push p limits list earlier s (first ∷ steps) step =
    from-push p limits list (earlier ++ first ∷ []) (took (settled p limits list (is_full limits.entries earlier) s) first.found) steps step

from-settle : (p : ProgramValue) (limits : LimitsValue) (list : List ℕ) (earlier : List Step) (s : State) (steps : List Step) →
    settled p limits list (is_full limits.entries (earlier ++ steps)) (stopped_from p limits list earlier s steps) ≡ state_from p limits list earlier s steps
from-settle p limits list earlier s [] = ap (λ (x : List Step). settled p limits list (is_full limits.entries x) s) (append-nil earlier)
from-settle p limits list earlier s (first ∷ steps) =
    let now = took (settled p limits list (is_full limits.entries earlier) s) first.found in
    ap (λ (x : List Step). settled p limits list (is_full limits.entries x) (stopped_from p limits list (earlier ++ first ∷ []) now steps)) (sym (append_assoc earlier (first ∷ []) steps)) ∙
    from-settle p limits list (earlier ++ first ∷ []) now steps

pub stops_step : StopsStepByStep
stops_step p limits inputs t steps step = from-push p limits (inputs_of inputs t) [] (first_state t) steps step

pub stops_settle : StopsSettle
stops_settle p limits inputs t steps = from-settle p limits (inputs_of inputs t) [] (first_state t) steps

pub stops_ran : StopsAsItRan
stops_ran p log runs order thread step cut fits respects there inside is =
    ap (stopped_after p log.limits (taken_in log) thread)
    (cut_comes (threads_of p log.limits (taken_in log)) (tallies_of p log.limits (taken_in log)) p.words log runs fits order thread step cut
    (stays_within p log.limits (taken_in log)) (ends_within p log.limits (taken_in log)) respects inside is there)
