-- The words of a replay.
use Rattle.std.specs.Prelude.{◌≡◌, ℕ, ◌<◌, cond, Option, IfSome, List, [], length, slice_index_or, slice_set}
use Rattle.replay_model.specs.declared.Want.{Want}
use Rattle.replay_model.specs.Steps.{Event, Cell, Step, word_of, wrote, found_in, put}
use Rattle.replay_model.specs.Histories.{World, steps_of}
use Rattle.replay_model.specs.Logs.{Log}
use Rattle.machine.specs.Programs.{ProgramValue}
use Rattle.replayer.specs.declared.words.ReplayWords.{ReplayWords}
use Rattle.replayer.specs.KeptSteps.{begins_with, past, AreLeft}
use Rattle.replayer.specs.Notes.{AreWrites, writes_of, NotesMore}

-- the steps of thread t whose writes are still to be made
abbrev pub left_of : ReplayWords → ℕ → List ℕ
left_of words t = slice_index_or words.kept.items t []

-- there are so many words, and thread t is one of those that they know
abbrev pub IsReady : ReplayWords → ℕ → ℕ → List Step → Type 0
IsReady words size t steps = (length words.cells.items ≡ size) × (t < length words.kept.items)

-- a step finds what stands in its word; its write is made where it is the next one that is left of its thread, and noted in any case
pub record Takes (old : ReplayWords) (event : Event) (want : Want) (found : Option Cell) (new : ReplayWords) : Type 0 where
  pub finds : found ≡ found_in old.cells.items want
  pub cells : new.cells.items ≡ cond (begins_with event.step (left_of old event.thread)) (put old.cells.items (word_of want) event (wrote want found)) old.cells.items
  pub kept : new.kept.items ≡ slice_set old.kept.items event.thread (past event.step (left_of old event.thread))
  pub noted : NotesMore old.notes (writes_of event (word_of want) (wrote want found)) new.notes

-- the words are those of this world
pub record AreWords (p : ProgramValue) (log : Log) (world : World) (words : ReplayWords) : Type 0 where
  pub memory : words.cells.items ≡ world.memory
  pub sized : length words.cells.items ≡ length p.words
  pub counted : length world.threads ≡ length p.threads
  pub all : length words.kept.items ≡ length p.threads
  pub left : (t : ℕ) → t < length p.threads → AreLeft log t (length (steps_of world.threads t)) (left_of words t)
  pub noted : IfSome words.notes (λ writes. AreWrites world.threads writes.items)
