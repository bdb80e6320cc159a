-- What each task means: what is printed and saved where it is done.
use Rattle.std.specs.Prelude.{◌≡◌, ℕ, ◌<◌, ◌≤◌, ◌^◌, List, [], ◌∷◌, ◌++◌, codes, length}
use Rattle.sha2.specs.Sha256.{sha256}
use Rattle.machine.specs.Programs.{ProgramValue, LimitsValue}
use Rattle.machine.specs.Inputs.{InputsValue}
use Rattle.machine.specs.Images.{IsImage}
use Rattle.machine.specs.Runs.{rounds_of}
use Rattle.history.specs.Histories.{IsHistory}
use Rattle.history.specs.HistoryLogs.{log_of_history}
use Rattle.recorder.specs.Records.{RecordedValue, recorded_of}
use Rattle.replay_model.specs.Logs.{thread_of}
use Rattle.replay_model.specs.Orders.{Respects}
use Rattle.arena_samples.specs.Arenas.{arena_of}
use Rattle.arena_samples.specs.Summaries.{summary_of}
use Rattle.log_file.specs.Spelling.{spelling}
use Rattle.log_text.specs.ShowTexts.{show}
use Rattle.transcript.specs.Transcripts.{transcript, transcript_of}
use Rattle.assembler.specs.Canonical.{canonical}
use Rattle.races.specs.Texts.{races_text}
use Rattle.light_top.specs.Images.{ImageValue}
use Rattle.light_top.specs.Outputs.{Output, printed, printed_and_saved, saved}
use Rattle.light_top.specs.declared.task.Task.{Task}
use Rattle.light_top.specs.declared.task.Task.TheVariants as task
use Rattle.batch.specs.Prints.{logged_print}
use Rattle.light_top.specs.Logs.{image_print}
use Rattle.light_top.specs.Batches.{AreTold}
use Rattle.light_top.specs.Arenas.{IsArenaEnd, Endless}
use Rattle.light_top.specs.Solving.{Unsolved, Unreplayed, IsDisrespectful, IsSolved, IsReplayed}
use Rattle.light_top.specs.Stopping.{IsSnapText, Unstopped}
use Rattle.light_top.specs.Auditing.{IsLegalText, Illegal}
use Rattle.light_top.specs.declared.status.Status.{Status}

-- the inputs have a list for each thread of the program that they are for; an order is that of a file; a log is that of the
-- image's program, and a thread and its step are there
abbrev pub IsMatched : Task → Type 0
IsMatched (task.Play image limits inputs) = length inputs ≡ length image.program.threads
IsMatched (task.Record image log limits crew inputs) = length inputs ≡ length image.program.threads
IsMatched (task.Check log order) = length order < 2 ^ 32
IsMatched (task.Replay image log schedule budget) = logged_print log ≡ image_print image
IsMatched (task.Audit image log budget) = logged_print log ≡ image_print image
IsMatched (task.Until image log thread step budget) =
    (logged_print log ≡ image_print image) × (thread < length log.threads) × (step ≤ (thread_of log thread).steps)
IsMatched _ = Unit {0}

-- the transcript of the program's threads taking turns in rounds
abbrev pub rounds_text : ProgramValue → LimitsValue → InputsValue → List ℕ
rounds_text p limits inputs = transcript_of p limits inputs (rounds_of p limits inputs)

-- that an order respects a log, as a line
abbrev pub respects_line : List ℕ
respects_line = codes "respects" ++ 10 ∷ []

-- the most open pairs that are printed
abbrev pub most_pairs : ℕ
most_pairs = 10000

-- what was recorded of a program, as an output: its transcript, and under this name its log with the image's digest
abbrev pub recording : RecordedValue → List ℕ → List ℕ → Output
recording recorded image name =
    printed_and_saved (transcript recorded.reports recorded.last_values) name (spelling (record recorded.log { digest = sha256 image }))

-- it was recorded of one whole history of the program with these inputs
abbrev pub IsOfHistory : ProgramValue → LimitsValue → InputsValue → RecordedValue → Type 0
IsOfHistory p limits inputs recorded =
    (history : List ℕ) × IsHistory p limits inputs history × (recorded ≡ recorded_of p limits inputs history)

-- the output is the transcript of this history, and its log, with the image's digest, under this name
abbrev pub IsRecorded : ImageValue → LimitsValue → InputsValue → List ℕ → List ℕ → Output → Type 0
IsRecorded image limits inputs log history output =
    output ≡ printed_and_saved (transcript_of image.program limits inputs history) log
    (spelling (log_of_history image.program limits inputs (sha256 image.bytes) history))

-- the output is the transcript and the log of one and the same whole history of the program with these inputs
abbrev pub IsRecording : ImageValue → LimitsValue → InputsValue → List ℕ → Output → Type 0
IsRecording image limits inputs log output =
    (history : List ℕ) × IsHistory image.program limits inputs history × IsRecorded image limits inputs log history output

abbrev pub Means : Task → Output → Type 0
-- the transcript of the program's threads taking turns in rounds, with these inputs
Means (task.Play image limits inputs) output =
    IsImage image.bytes image.program × (output ≡ printed (rounds_text image.program limits inputs))
-- the transcript of one whole history of the program with these inputs, and the log of this very history, with the image's digest;
-- which workers run the threads changes nothing of that
Means (task.Record image log limits crew inputs) output =
    IsImage image.bytes image.program × IsRecording image limits inputs log output
-- the image of the program
Means (task.Assemble program image) output = (bytes : List ℕ) × IsImage bytes program × (output ≡ saved image bytes)
-- the canonical text of the program
Means (task.List image) output = IsImage image.bytes image.program × (output ≡ printed (canonical image.program))
-- the text of the log
Means (task.Show log) output = output ≡ printed (show log)
-- the log as it is written today
Means (task.Upgrade log name) output = output ≡ saved name (spelling log)
-- that the order respects the log
Means (task.Check log order) output = Respects log order × (output ≡ printed respects_line)
-- the text of an order that respects the log, and its length
Means (task.Solve log schedule budget) output = IsSolved log schedule output
-- such a text, and the transcript of runs of the program that fit the log
Means (task.Replay image log schedule budget) output = IsImage image.bytes image.program × IsReplayed image.program log schedule output
-- how many rival pairs the log has of each kind, and the first of those that are open
Means (task.Races log) output = output ≡ printed (races_text most_pairs log)
-- how the thread stands right after its step, in the play up to the step's cut by an order that respects the log
Means (task.Until image log thread step budget) output =
    IsImage image.bytes image.program × IsSnapText image.program log thread step output.text × (output ≡ printed output.text)
-- that the log is that of a whole history of the program, and how many steps this history has
Means (task.Audit image log budget) output =
    IsImage image.bytes image.program × IsLegalText image.program log output.text × (output ≡ printed output.text)
-- what becomes of each job
Means (task.Batch jobs budget workers) output = (text : List ℕ) × AreTold budget jobs text × (output ≡ printed text)
-- the summary of the arena, by the values at the end of one whole history of it
Means (task.Arena number) output = (values : List ℕ) × IsArenaEnd (arena_of number) values × (output ≡ printed (summary_of number values))

-- how a task that was given cannot be done, and why
abbrev pub Fails : Task → Status → Type 0
-- the order does not respect the log, and this is its first fault
Fails (task.Check log order) s = IsDisrespectful log order s
Fails (task.Solve log schedule budget) s = Unsolved log budget s
Fails (task.Replay image log schedule budget) s = Unreplayed image.program log budget s
Fails (task.Until image log thread step budget) s = Unstopped image.program log thread step budget s
Fails (task.Audit image log budget) s = Illegal image.program log budget s
Fails (task.Arena number) s = Endless (arena_of number) s
Fails task s = ⊥

-- no cause stands in the way of the task
abbrev pub CanSucceed : Task → Type 0
CanSucceed task = (s : Status) → Fails task s → ⊥
