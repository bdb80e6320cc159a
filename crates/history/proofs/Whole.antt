-- Turns make whole histories of a program.
use Rattle.std.proofs.Common.{◌≡◌, ℕ, List, [], ◌++◌, length, sym, ◌∙◌, subst}
use Rattle.std.proofs.lemmas.List.{length-replicate}
use Rattle.replay_model.specs.Steps.{Step}
use Rattle.replay_model.specs.Histories.{World, IsWhole, play, round_turns}
use Rattle.replay_model.proofs.Plays.{play-append, play_count, play-history_of, history_of-legal}
use Rattle.replay_model.proofs.Rounds.{rounds_whole}
use Rattle.machine.specs.Programs.{ProgramValue, LimitsValue}
use Rattle.machine.specs.Inputs.{InputsValue}
use Rattle.machine.specs.Runs.{threads_of, start_of, rounds_of, follow_of}
use Rattle.machine.proofs.Runs.{ends_within}
use Rattle.history.specs.Histories.{IsHistory}

start_count : (p : ProgramValue) → length (start_of p).threads ≡ length p.threads
start_count p = length-replicate {A = List Step} (length p.threads) []

pub turns-whole : (p : ProgramValue) (limits : LimitsValue) (inputs : InputsValue) (order : List ℕ) → IsHistory p limits inputs (follow_of p limits inputs order)
turns-whole p limits inputs order = record {
  legal = history_of-legal (threads_of p limits inputs) (order ++ round_turns (length p.threads) limits.steps) (start_of p);
  whole =
      let e = play-history_of (threads_of p limits inputs) (order ++ round_turns (length p.threads) limits.steps) (start_of p) ∙
      play-append (threads_of p limits inputs) order (round_turns (length p.threads) limits.steps) (start_of p) in
      let P : World → Type 0 = λ w. IsWhole (threads_of p limits inputs) w in
      subst P (sym e) (rounds_whole (threads_of p limits inputs) limits.steps (length p.threads) (play (threads_of p limits inputs) order (start_of p)) (ends_within p limits inputs)
      (sym (start_count p) ∙ sym (play_count (threads_of p limits inputs) order (start_of p))));
}

pub rounds-whole : (p : ProgramValue) (limits : LimitsValue) (inputs : InputsValue) → IsHistory p limits inputs (rounds_of p limits inputs)
rounds-whole p limits inputs = record {
  legal = history_of-legal (threads_of p limits inputs) (round_turns (length p.threads) limits.steps) (start_of p);
  whole =
      let e = play-history_of (threads_of p limits inputs) (round_turns (length p.threads) limits.steps) (start_of p) in
      let P : World → Type 0 = λ w. IsWhole (threads_of p limits inputs) w in
      subst P (sym e) (rounds_whole (threads_of p limits inputs) limits.steps (length p.threads) (start_of p) (ends_within p limits inputs) (sym (start_count p)));
}
