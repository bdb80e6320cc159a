-- The words of the command line, and the command that they are.
use Rattle.std.specs.Prelude.{ℕ, ◌-◌, ◌^◌, Bool, false, ◌&&◌, ◌==◌, not, List, [], ◌∷◌, String, map, codes, string_bytes, Option, None, Some, if◌then◌else◌, nat_le}
use Rattle.std.specs.Fmt.{decimal}
use Rattle.std.specs.Str.{bytes_eq}
use Rattle.std.specs.Str.Parse.{digits_value}
use Rattle.replay_model.specs.Bounds.{most_entries}
use Rattle.machine.specs.Programs.{LimitsValue, most_steps, most_instr}
use Rattle.light_top.specs.Crews.{CrewValue, most_workers, crew_or_none, workers_or_none}
use Rattle.light_top.specs.declared.words.Command.{Command}
use Rattle.light_top.specs.declared.words.Command.TheVariants as command

-- one word after the other, as long as each is what it must be
infixl 10 ◌>>=◌
abbrev pub ◌>>=◌ : {A B : Type 0} → Option A → (A → Option B) → Option B
None >>= f = None
(Some x) >>= f = f x

abbrev pub texts : {Y : Type 0} → List (String Y) → List (List ℕ)
texts words = map string_bytes words

-- the number whose decimal text is this word, if it is at most so much
abbrev pub number_of : ℕ → List ℕ → Option ℕ
number_of most word = let n = digits_value 10 word in if bytes_eq word (decimal n) && nat_le n most then Some n else None

-- any number of 32 bits
abbrev pub any_number_of : List ℕ → Option ℕ
any_number_of word = number_of (2 ^ 32 - 1) word

-- the characters of a plus and of a zero
abbrev pub plus : ℕ
plus = 43

abbrev pub zero_digit : ℕ
zero_digit = 48

-- whether a text may be that of a number: it isn't empty, has no plus in front, and a zero in front stands alone
abbrev pub is_plain : List ℕ → Bool
is_plain [] = false
is_plain (c ∷ []) = not (c == plus)
is_plain (c ∷ d ∷ cs) = not (c == plus) && not (c == zero_digit)

-- a name is any text that isn't empty
abbrev pub name_of : List ℕ → Option (List ℕ)
name_of [] = None
name_of (c ∷ cs) = Some (c ∷ cs)

-- STEPS INSTR ENTRIES
abbrev pub limits_of : List ℕ → List ℕ → List ℕ → Option LimitsValue
limits_of steps instr entries = do
  s ← number_of most_steps steps
  i ← number_of most_instr instr
  e ← number_of most_entries entries
  Some (record { steps = s; instr = i; entries = e })

-- nothing, or INPUTS
abbrev pub inputs_of : List (List ℕ) → Option (Option (List ℕ))
inputs_of [] = Some None
inputs_of (inputs ∷ []) = do
  inputs ← name_of inputs
  Some (Some inputs)
inputs_of _ = None

-- WORKERS SLICE
abbrev pub crew_of : List ℕ → List ℕ → Option CrewValue
crew_of workers slice = do
  w ← number_of most_workers workers
  s ← number_of most_steps slice
  crew_or_none w s

-- nothing, or INPUTS, or WORKERS SLICE, or these and INPUTS
abbrev pub form_of : List (List ℕ) → Option (Option CrewValue × Option (List ℕ))
form_of [] = Some (None, None)
form_of (inputs ∷ []) = do
  inputs ← name_of inputs
  Some (None, Some inputs)
form_of (workers ∷ slice ∷ rest) = do
  crew ← crew_of workers slice
  inputs ← inputs_of rest
  Some (Some crew, inputs)

-- IMAGE STEPS INSTR ENTRIES, or these and INPUTS
abbrev pub run_of : List (List ℕ) → Option Command
run_of (image ∷ steps ∷ instr ∷ entries ∷ rest) = do
  image ← name_of image
  limits ← limits_of steps instr entries
  inputs ← inputs_of rest
  Some (command.Run image limits inputs)
run_of _ = None

-- IMAGE LOG STEPS INSTR ENTRIES, or these and WORKERS SLICE, and with or without INPUTS
abbrev pub record_of : List (List ℕ) → Option Command
record_of (image ∷ log ∷ steps ∷ instr ∷ entries ∷ rest) = do
  image ← name_of image
  log ← name_of log
  limits ← limits_of steps instr entries
  form ← form_of rest
  Some (command.Record image log limits form.0 form.1)
record_of _ = None

-- TEXT IMAGE
abbrev pub asm_of : List (List ℕ) → Option Command
asm_of (text ∷ image ∷ []) = do
  text ← name_of text
  image ← name_of image
  Some (command.Asm text image)
asm_of _ = None

-- IMAGE
abbrev pub list_of : List (List ℕ) → Option Command
list_of (image ∷ []) = do
  image ← name_of image
  Some (command.List image)
list_of _ = None

-- LOG
abbrev pub show_of : List (List ℕ) → Option Command
show_of (log ∷ []) = do
  log ← name_of log
  Some (command.Show log)
show_of _ = None

-- OLD NEW
abbrev pub upgrade_of : List (List ℕ) → Option Command
upgrade_of (old ∷ log ∷ []) = do
  old ← name_of old
  log ← name_of log
  Some (command.Upgrade old log)
upgrade_of _ = None

-- LOG SCHED
abbrev pub check_of : List (List ℕ) → Option Command
check_of (log ∷ schedule ∷ []) = do
  log ← name_of log
  schedule ← name_of schedule
  Some (command.Check log schedule)
check_of _ = None

-- LOG SCHED BUDGET
abbrev pub solve_of : List (List ℕ) → Option Command
solve_of (log ∷ schedule ∷ budget ∷ []) = do
  log ← name_of log
  schedule ← name_of schedule
  budget ← any_number_of budget
  Some (command.Solve log schedule budget)
solve_of _ = None

-- IMAGE LOG SCHED BUDGET
abbrev pub replay_of : List (List ℕ) → Option Command
replay_of (image ∷ log ∷ schedule ∷ budget ∷ []) = do
  image ← name_of image
  log ← name_of log
  schedule ← name_of schedule
  budget ← any_number_of budget
  Some (command.Replay image log schedule budget)
replay_of _ = None

-- LOG
abbrev pub races_of : List (List ℕ) → Option Command
races_of (log ∷ []) = do
  log ← name_of log
  Some (command.Races log)
races_of _ = None

-- the greatest number of a thread
abbrev pub last_thread : ℕ
last_thread = 14

-- IMAGE LOG THREAD STEP BUDGET
abbrev pub until_of : List (List ℕ) → Option Command
until_of (image ∷ log ∷ thread ∷ step ∷ budget ∷ []) = do
  image ← name_of image
  log ← name_of log
  thread ← number_of last_thread thread
  step ← number_of most_steps step
  budget ← any_number_of budget
  Some (command.Until image log thread step budget)
until_of _ = None

-- IMAGE LOG BUDGET
abbrev pub audit_of : List (List ℕ) → Option Command
audit_of (image ∷ log ∷ budget ∷ []) = do
  image ← name_of image
  log ← name_of log
  budget ← any_number_of budget
  Some (command.Audit image log budget)
audit_of _ = None

-- WORKERS
abbrev pub workers_of : List ℕ → Option ℕ
workers_of word = do
  workers ← number_of most_workers word
  workers_or_none workers

-- LIST BUDGET WORKERS
abbrev pub batch_of : List (List ℕ) → Option Command
batch_of (list ∷ budget ∷ workers ∷ []) = do
  list ← name_of list
  budget ← any_number_of budget
  workers ← workers_of workers
  Some (command.Batch list budget workers)
batch_of _ = None

-- NUMBER
abbrev pub arena_of_words : List (List ℕ) → Option Command
arena_of_words (number ∷ []) = do
  number ← any_number_of number
  Some (command.Arena number)
arena_of_words _ = None

-- the command is named by the first word, and takes exactly the words shown
abbrev pub command_of : List (List ℕ) → Option Command
command_of [] = None
command_of (verb ∷ rest) =
    if bytes_eq verb (codes "run") then run_of rest
    else if bytes_eq verb (codes "record") then record_of rest
    else if bytes_eq verb (codes "asm") then asm_of rest
    else if bytes_eq verb (codes "list") then list_of rest
    else if bytes_eq verb (codes "show") then show_of rest
    else if bytes_eq verb (codes "upgrade") then upgrade_of rest
    else if bytes_eq verb (codes "check") then check_of rest
    else if bytes_eq verb (codes "solve") then solve_of rest
    else if bytes_eq verb (codes "replay") then replay_of rest
    else if bytes_eq verb (codes "races") then races_of rest
    else if bytes_eq verb (codes "until") then until_of rest
    else if bytes_eq verb (codes "audit") then audit_of rest
    else if bytes_eq verb (codes "batch") then batch_of rest
    else if bytes_eq verb (codes "arena") then arena_of_words rest
    else None
