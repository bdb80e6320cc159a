-- Small logs and orders of their events, worked out by hand.
use Rattle.std.specs.Prelude.{◌≡◌, ℕ, List, [], ◌∷◌}
use Rattle.light_base.specs.declared.tag.Event.{Event}
use Rattle.replay_model.specs.Logs.{Log}
use Rattle.constraints.specs.Positions.{event}
use Rattle.constraints.specs.Examples.{own_write, initial_value, message_passing, exchange_chain, stale_read, never_over}
use Rattle.schedule_check.specs.declared.faults.OrderKind.TheVariants.{Unknown, Twice, Missing, ThreadOrder, ReadBeforeWrite, Between, Final}
use Rattle.schedule_check.specs.declared.faults.OrderKind.{OrderKind}
use Rattle.schedule_check.specs.declared.faults.Verdict.TheVariants as verdict
use Rattle.schedule_check.specs.Faults.{fault, verdict_of}

abbrev pub IsFault : Log → List Event → OrderKind → ℕ → ℕ → Type 0
IsFault log order kind i j = verdict_of log order ≡ verdict.Fault (fault kind i j)

abbrev pub IsFine : Log → List Event → Type 0
IsFine log order = verdict_of log order ≡ verdict.Respects

-- a thread stores and reads that again: one order of the two steps respects the log
pub record OwnWrite : Type 0 where
  pub fine : IsFine own_write (event 0 1 ∷ event 0 2 ∷ [])
  pub unknown : IsFault own_write (event 0 1 ∷ event 0 3 ∷ event 0 2 ∷ []) Unknown 1 0
  pub twice : IsFault own_write (event 0 1 ∷ event 0 2 ∷ event 0 2 ∷ []) Twice 2 0
  pub missing : IsFault own_write (event 0 1 ∷ []) Missing 1 0
  pub turned : IsFault own_write (event 0 2 ∷ event 0 1 ∷ []) ThreadOrder 0 1

-- the initial value is read before the store that is the word's last one
pub record InitialValue : Type 0 where
  pub fine : IsFine initial_value (event 0 1 ∷ event 1 1 ∷ [])
  pub late : IsFault initial_value (event 1 1 ∷ event 0 1 ∷ []) Final 0 0

-- a value is written, then a flag; the flag is read in vain twice, then as it was set, and then the value
pub record MessagePassing : Type 0 where
  pub fine : IsFine message_passing (event 0 1 ∷ event 1 1 ∷ event 1 2 ∷ event 0 2 ∷ event 1 3 ∷ event 1 4 ∷ [])
  pub flag_early : IsFault message_passing (event 0 1 ∷ event 0 2 ∷ event 1 1 ∷ event 1 2 ∷ event 1 3 ∷ event 1 4 ∷ []) Between 0 1
  pub flag_late : IsFault message_passing (event 1 1 ∷ event 1 2 ∷ event 1 3 ∷ event 0 1 ∷ event 0 2 ∷ event 1 4 ∷ []) ReadBeforeWrite 1 0

-- each of three threads exchanges once: the step of thread 1 is the last read of thread 0's write, and a write itself
pub record ExchangeChain : Type 0 where
  pub fine : IsFine exchange_chain (event 0 1 ∷ event 1 1 ∷ event 2 1 ∷ [])
  pub after_last : IsFault exchange_chain (event 0 1 ∷ event 2 1 ∷ event 1 1 ∷ []) ReadBeforeWrite 2 0

-- both sources are of one thread, and the later one is read first
pub record StaleRead : Type 0 where
  pub crossed : IsFault stale_read (event 0 1 ∷ event 0 2 ∷ event 1 1 ∷ event 1 2 ∷ []) Between 0 1

-- a write is read whose word has the initial contents at the end
pub record NeverOver : Type 0 where
  pub late : IsFault never_over (event 1 1 ∷ event 0 1 ∷ []) Final 0 0
