use Rattle.std.proofs.Common.{◌≡◌, length}
use Rattle.replay_model.specs.Histories.{round_turns}
use Rattle.history.specs.Played.{after_turns}
use Rattle.history.proofs.plain.Plain.turns.Given as goal

abbrev pub invariant-loop-round : goal.invariant-loop-round
invariant-loop-round l = l.self ≡ after_turns l.initial.self (round_turns (length l.initial.self.program.threads) l._round)
