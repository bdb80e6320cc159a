-- A small machine for examples: what a thread wants next follows from the cells that its steps found.
use Rattle.std.specs.Prelude.{ℕ, ◌&&◌, ◌≤◌, if◌then◌else◌, nat_le, List, [], length, map, slice_index_or, unwrap_or}
use Rattle.replay_model.specs.Steps.{Cell, Step, word_of, has_ended, reads, no_cell}
use Rattle.replay_model.specs.declared.Want.{Want}
use Rattle.replay_model.specs.declared.Want.TheVariants.{Ended}
use Rattle.replay_model.specs.declared.End.TheVariants.{Halted, BadAddress, StepsSpent, EntriesFull}
use Rattle.replay_model.specs.Threads.{Threads, StaysWithin, HasOnly, EndsWithin}
use Rattle.replay_model.specs.ThreadLogs.{is_full}
use Rattle.replay_model.specs.Logs.{Limits}
use Rattle.replay_model.specs.KeptLimits.{KeepsLimits}
use Rattle.replay_model.specs.RunLogs.{Tallies}

-- what a thread wants next, by what each of its steps found, the empty cell for a store
abbrev pub Script : Type 0
Script = List Cell → Want

-- the thread that does nothing
abbrev pub silent : Script
silent cells = Ended Halted

-- what each step found
abbrev pub cells_found : List Step → List Cell
cells_found steps = map (λ (step : Step). unwrap_or step.found no_cell) steps

-- the want, or the end that the limits and the number of words make of it
abbrev pub guarded : ℕ → Limits → List Step → Want → Want
guarded size limits steps want =
    if has_ended want then Ended Halted
    else if nat_le size (word_of want) then Ended (BadAddress (word_of want))
    else if nat_le limits.steps (length steps) then Ended StepsSpent
    else if reads want && is_full limits.entries steps then Ended EntriesFull
    else want

-- threads that run these scripts, on so many words
abbrev pub script_threads : List Script → ℕ → Limits → Threads
script_threads scripts size limits t steps = guarded size limits steps (slice_index_or {A = Script} scripts t silent (cells_found steps))

-- each step counts as one instruction, and no input number is taken
abbrev pub one_each : Tallies
one_each t steps = record { instr = length steps; taken = [] }

-- such threads never ask for a word that is not there, are no more than their scripts, end within the limit of steps, and keep to the other limits
abbrev pub ScriptsMeetThePremises : Type 0
ScriptsMeetThePremises = (scripts : List Script) (size : ℕ) (limits : Limits) →
    StaysWithin (script_threads scripts size limits) size × HasOnly (script_threads scripts size limits) (length {A = Script} scripts) ×
    EndsWithin (script_threads scripts size limits) limits.steps ×
    (limits.steps ≤ limits.instr → KeepsLimits (script_threads scripts size limits) one_each size limits)
