-- The promises of recording and of replaying, each told at once.
use Rattle.std.specs.Prelude.{◌≡◌, ℕ, ◌<◌, List, length, Option, Some, Ok, IfSome}
use Rattle.light_base.specs.declared.tag.Event.{Event}
use Rattle.light_base.specs.Causes.{Rose}
use Rattle.replay_model.specs.Orders.{Respects}
use Rattle.constraints.specs.Constraints.{dead}
use Rattle.sha2.specs.Sha256.{sha256}
use Rattle.light_base.specs.FileMap.{Files}
use Rattle.replay_model.specs.Logs.{Log}
use Rattle.machine.specs.Programs.{ProgramValue, LimitsValue}
use Rattle.machine.specs.Inputs.{InputsValue}
use Rattle.machine.specs.Images.{IsImage}
use Rattle.history.specs.Histories.{IsHistory}
use Rattle.history.specs.HistoryLogs.{log_of_history}
use Rattle.log_file.specs.Spelling.{spelling}
use Rattle.transcript.specs.Transcripts.{transcript_of}
use Rattle.light_top.specs.Images.{ImageValue}
use Rattle.light_top.specs.Given.{image_in, inputs_in, log_in}
use Rattle.light_top.specs.Solving.{order_file}
use Rattle.light_top.specs.Outside.{Outside, after}
use Rattle.light_top.specs.declared.words.Command.{Command}
use Rattle.light_top.specs.declared.words.Command.TheVariants as command
use Rattle.light_top.specs.declared.status.Status.{Status}
use Rattle.light_top.specs.declared.status.Status.TheVariants as status

-- The file `image` holds the image of a program, and the file of inputs as many lists as it has threads (without such a file
-- they are empty). There is one whole history of the program with these inputs: its log, with the image's digest, was saved
-- under the name `log`, and its transcript was printed. All else is as before.
pub record HasRecorded (files : Files) (image log : List ℕ) (limits : LimitsValue) (inputs : Option (List ℕ)) (old new : Outside) : Type 0 where
  pub loaded : ImageValue
  pub numbers : InputsValue
  pub history : List ℕ
  pub given : image_in files image ≡ Ok loaded
  pub listed : inputs_in files inputs (length loaded.program.threads) ≡ Ok numbers
  pub program : IsImage loaded.bytes loaded.program
  pub whole : IsHistory loaded.program limits numbers history
  pub done : new ≡ after old (Some (record { name = log; bytes = spelling (log_of_history loaded.program limits numbers (sha256 loaded.bytes) history) }))
      (transcript_of loaded.program limits numbers history)

-- what `record` has done where it ends well, whichever workers ran the threads
abbrev pub Records : Command → Outside → Outside → Status → Type 0
Records (command.Record image log limits crew inputs) old new status.Ok = IfSome old.store.files (λ files. HasRecorded files image log limits inputs old new)
Records command old new s = Unit {0}

-- The file `image` holds the image of a program, and the file `log` is read as the log of a whole history of it, under some
-- limits and with some inputs, and with the image's digest.
pub record HasHistory (files : Files) (image log : List ℕ) : Type 0 where
  pub loaded : ImageValue
  pub limits : LimitsValue
  pub inputs : InputsValue
  pub history : List ℕ
  pub given : image_in files image ≡ Ok loaded
  pub whole : IsHistory loaded.program limits inputs history
  pub logged : log_in files log ≡ Ok (log_of_history loaded.program limits inputs (sha256 loaded.bytes) history)

abbrev pub log_had : (files : Files) (image log : List ℕ) → HasHistory files image log → Log
log_had files image log had = log_of_history had.loaded.program had.limits had.inputs (sha256 had.loaded.bytes) had.history

-- how a replay of it ends: an order that respects the log was saved, and the transcript of this history was printed; or the plain
-- search has more dead ends than the budget; or memory was refused, or a fault was counted. It ends no other way
abbrev pub EndsAgain : ProgramValue → LimitsValue → InputsValue → List ℕ → Log → List ℕ → ℕ → Outside → Outside → Status → Type 0
EndsAgain p limits inputs history log schedule budget old new status.Ok =
    (order : List Event) × Respects log order × (new ≡ after old (Some (order_file schedule order)) (transcript_of p limits inputs history))
EndsAgain p limits inputs history log schedule budget old new status.Spent = (budget < dead log) × (new ≡ old)
EndsAgain p limits inputs history log schedule budget old new status.Memory = Unit {0}
EndsAgain p limits inputs history log schedule budget old new status.StoreFault = Rose old.store.faults new.store.faults
EndsAgain p limits inputs history log schedule budget old new status.SinkFault = Rose old.sink.faults new.sink.faults
EndsAgain p limits inputs history log schedule budget old new s = ⊥

-- what `replay` does where it is handed a program and the log of a history of it
abbrev pub Replays : Command → Outside → Outside → Status → Type 0
Replays (command.Replay image log schedule budget) old new s = IfSome old.store.files (λ files. (had : HasHistory files image log) →
    EndsAgain had.loaded.program had.limits had.inputs had.history (log_had files image log had) schedule budget old new s)
Replays command old new s = Unit {0}
