-- What the files say of a command: the task that is to be done, or what stands in the way first.
use Rattle.std.specs.Prelude.{◌≡◌, ℕ, ◌+◌, nat_lt, nat_le, ◌==◌, IsTrue, List, [], ◌∷◌, length, replicate, Option, None, Some, Result, Ok, Err, IfSome, if◌then◌else◌}
use Rattle.std.specs.FinMap.{get}
use Rattle.light_base.specs.Causes.{Rose}
use Rattle.light_base.specs.FileMap.{Files}
use Rattle.light_base.specs.Stores.{StoreTold}
use Rattle.machine.specs.Programs.{ProgramValue}
use Rattle.machine.specs.Inputs.{InputsValue}
use Rattle.light_top.specs.Images.{ImageValue, as_image, as_text, as_inputs}
use Rattle.replay_model.specs.Logs.{Log, thread_of}
use Rattle.light_base.specs.declared.tag.Event.{Event}
use Rattle.light_top.specs.Logs.{as_log, as_old_log, as_order, image_print}
use Rattle.batch.specs.Prints.{logged_print, same_print}
use Rattle.batch.specs.Jobs.{JobValue, job_of, most_bytes}
use Rattle.light_top.specs.Lists.{as_list}
use Rattle.light_top.specs.Statuses.{IsRefusal}
use Rattle.light_top.specs.declared.list.Pair.{Pair}
use Rattle.light_top.specs.declared.words.Command.{Command}
use Rattle.light_top.specs.declared.words.Command.TheVariants as command
use Rattle.light_top.specs.declared.task.Task.{Task}
use Rattle.light_top.specs.declared.task.Task.TheVariants as task
use Rattle.light_top.specs.declared.status.Status.{Status}
use Rattle.light_top.specs.declared.status.Status.TheVariants as status

-- one step after the other, up to the first that stands in the way
infixl 10 ◌>>=◌
abbrev pub ◌>>=◌ : {A B : Type 0} → Result A Status → (A → Result B Status) → Result B Status
(Ok x) >>= f = f x
(Err s) >>= f = Err s

-- a file that is there is loaded where it has at most so many bytes
abbrev pub loaded : Option (List ℕ) → Result (List ℕ) Status
loaded None = Err status.StoreFault
loaded (Some bytes) = if nat_lt most_bytes (length bytes) then Err (status.TooLong (most_bytes + 1)) else Ok bytes

abbrev pub file_in : Files → List ℕ → Result (List ℕ) Status
file_in files name = loaded (get files name)

-- the image, and the program of the text, in the file of that name
abbrev pub image_in : Files → List ℕ → Result ImageValue Status
image_in files name = file_in files name >>= as_image

abbrev pub text_in : Files → List ℕ → Result ProgramValue Status
text_in files name = file_in files name >>= as_text

-- the inputs in the file of that name
abbrev pub numbers_in : Files → List ℕ → Result InputsValue Status
numbers_in files name = file_in files name >>= as_inputs

-- as many input lists as the program has threads
abbrev pub matched : ℕ → InputsValue → Result InputsValue Status
matched threads inputs = if length inputs == threads then Ok inputs else Err (status.WrongInputs threads (length inputs))

-- the inputs in the file of that name, and without one an empty list for each thread
abbrev pub inputs_in : Files → Option (List ℕ) → ℕ → Result InputsValue Status
inputs_in files None threads = Ok (replicate threads [])
inputs_in files (Some name) threads = numbers_in files name >>= matched threads

-- the log in the file of that name
abbrev pub log_in : Files → List ℕ → Result Log Status
log_in files name = file_in files name >>= as_log

-- the log of version 1 in the file of that name
abbrev pub old_log_in : Files → List ℕ → Result Log Status
old_log_in files name = file_in files name >>= as_old_log

-- the order in the file of that name
abbrev pub order_in : Files → List ℕ → Result (List Event) Status
order_in files name = file_in files name >>= as_order

-- a log of the image's program
abbrev pub of_program : ImageValue → Log → Result Log Status
of_program image log =
    if same_print (logged_print log) (image_print image) then Ok log else Err (status.WrongProgram (logged_print log) (image_print image))

-- a log whose thread takes this step; step 0 is before the first one
abbrev pub with_step : ℕ → ℕ → Log → Result Log Status
with_step thread step log =
    if nat_lt thread (length log.threads) then (if nat_le step (thread_of log thread).steps then Ok log else Err (status.NoStep (length log.threads) (thread_of log thread).steps))
    else Err (status.NoStep (length log.threads) 0)

-- the pairs of the list in the file of that name
abbrev pub list_in : Files → List ℕ → Result (List Pair) Status
list_in files name = file_in files name >>= as_list

-- the bytes of the files that a pair names
abbrev pub job_in : Files → Pair → Result JobValue Status
job_in files pair = do
  image ← file_in files pair.image
  log ← file_in files pair.log
  Ok (job_of image log)

-- those of each pair, one after the other
abbrev pub jobs_in : Files → List Pair → Result (List JobValue) Status
jobs_in files [] = Ok []
jobs_in files (pair ∷ pairs) = do
  job ← job_in files pair
  jobs ← jobs_in files pairs
  Ok (job ∷ jobs)

-- the task of a command
abbrev pub given : Command → Files → Result Task Status
given (command.Run image limits inputs) files = do
  i ← image_in files image
  numbers ← inputs_in files inputs (length i.program.threads)
  Ok (task.Play i limits numbers)
given (command.Record image log limits crew inputs) files = do
  i ← image_in files image
  numbers ← inputs_in files inputs (length i.program.threads)
  Ok (task.Record i log limits crew numbers)
given (command.Asm text image) files = do
  program ← text_in files text
  Ok (task.Assemble program image)
given (command.List image) files = do
  i ← image_in files image
  Ok (task.List i)
given (command.Show log) files = do
  l ← log_in files log
  Ok (task.Show l)
given (command.Upgrade old log) files = do
  l ← old_log_in files old
  Ok (task.Upgrade l log)
given (command.Check log schedule) files = do
  l ← log_in files log
  order ← order_in files schedule
  Ok (task.Check l order)
given (command.Solve log schedule budget) files = do
  l ← log_in files log
  Ok (task.Solve l schedule budget)
given (command.Replay image log schedule budget) files = do
  i ← image_in files image
  l ← log_in files log
  own ← of_program i l
  Ok (task.Replay i own schedule budget)
given (command.Races log) files = do
  l ← log_in files log
  Ok (task.Races l)
given (command.Until image log thread step budget) files = do
  i ← image_in files image
  l ← log_in files log
  own ← of_program i l
  there ← with_step thread step own
  Ok (task.Until i there thread step budget)
given (command.Audit image log budget) files = do
  i ← image_in files image
  l ← log_in files log
  own ← of_program i l
  Ok (task.Audit i own budget)
given (command.Batch list budget workers) files = do
  pairs ← list_in files list
  jobs ← jobs_in files pairs
  Ok (task.Batch jobs budget workers)
given (command.Arena number) files = Ok (task.Arena number)

-- ---- what is answered of this

-- reading refuses with this status, or memory was refused
abbrev pub NotRead : {X : Type 0} → Result X Status → Status → Type 0
NotRead read status.Memory = Unit {0}
NotRead read s = IsRefusal s × (read ≡ Err s)

-- what a store gives of its files, and leaves: what they say, where it tells them
abbrev pub Gives : {X : Type 0} → StoreTold → StoreTold → (Files → Result X Status) → X → Type 0
Gives old new f x = IfSome old.files (λ files. f files ≡ Ok x) × (new ≡ old)

-- why it gives nothing, and what it leaves: a fault was counted, and at a sound store that tells its files the name isn't there;
-- memory was refused; or the files say so
abbrev pub NotGiven : {X : Type 0} → StoreTold → StoreTold → (Files → Result X Status) → Status → Type 0
NotGiven old new f status.StoreFault = IfSome old.files (λ files. IsTrue old.sound → f files ≡ Err status.StoreFault) ×
    Rose old.faults new.faults × (new ≡ record old { faults = new.faults })
NotGiven old new f status.Memory = new ≡ old
NotGiven old new f s = IfSome old.files (λ files. f files ≡ Err s) × IsRefusal s × (new ≡ old)
