-- What a machine has played that follows an order and then takes rounds.
use Rattle.std.proofs.Common.{◌≡◌, ℕ, List, ◌++◌, length, refl, sym, ◌∙◌, ap}
use Rattle.replay_model.specs.Histories.{play, history_of, round_turns}
use Rattle.machine.specs.Programs.{ProgramValue, LimitsValue}
use Rattle.machine.specs.Inputs.{InputsValue}
use Rattle.machine.specs.Runs.{threads_of, start_of, follow_of}
use Rattle.history.specs.Played.{Played, unplayed, world_of, steps_in, after_turns}
use Rattle.history.proofs.Turns.{after_turns-append}

-- the world before any step
opening-played : (p : ProgramValue) (limits : LimitsValue) (inputs : InputsValue) → world_of (unplayed p limits inputs) ≡ start_of p
unfolding play
opening-played p limits inputs = refl

-- the steps that turns take from the start
steps-opening : (p : ProgramValue) (limits : LimitsValue) (inputs : InputsValue) (order : List ℕ) →
    steps_in (unplayed p limits inputs) (order ++ round_turns (length p.threads) limits.steps) ≡ follow_of p limits inputs order
steps-opening p limits inputs order = ap (history_of (threads_of p limits inputs) (order ++ round_turns (length p.threads) limits.steps)) (opening-played p limits inputs)

-- the order, and then the rounds
pub followed : (p : ProgramValue) (limits : LimitsValue) (inputs : InputsValue) (order : List ℕ) (first second third : Played) → first ≡ unplayed p limits inputs → second ≡ after_turns first order →
    third ≡ after_turns second (round_turns (length second.program.threads) second.limits.steps) → third ≡ record { program = p; limits = limits; inputs = inputs; taken = follow_of p limits inputs order }
followed p limits inputs order first second third one two three =
    let all : Played → Played = λ played. after_turns played (round_turns (length played.program.threads) played.limits.steps) in
    three ∙ ap all (two ∙ ap (λ (played : Played). after_turns played order) one) ∙
    sym (after_turns-append (unplayed p limits inputs) order (round_turns (length p.threads) limits.steps)) ∙
    ap (λ (taken : List ℕ). record { program = p; limits = limits; inputs = inputs; taken = taken }) (steps-opening p limits inputs order)
