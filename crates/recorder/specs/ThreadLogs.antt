-- The logs of threads, from their inputs, their entries and their reports.
use Rattle.std.specs.Prelude.{ℕ, ◌+◌, List, [], ◌∷◌, map, take}
use Rattle.std.specs.Global.{Vec}
use Rattle.replay_model.specs.declared.Entry.{Entry}
use Rattle.replay_model.specs.ThreadLogs.{thread_log}
use Rattle.replay_model.specs.Logs.{ThreadLog}
use Rattle.machine.specs.Inputs.{InputsValue, inputs_of}
use Rattle.machine.specs.Cores.{Report}
use Rattle.history.specs.Played.{Played, thread_steps}

-- lists of entries, each as the list that it is
abbrev pub entry_lists : List (Vec Entry) → List (List Entry)
entry_lists all = map (λ entries. entries.items) all

-- the entries of each of these threads
abbrev pub entries_by : Played → List ℕ → List (List Entry)
entries_by played threads = map (λ (t : ℕ). thread_log (thread_steps played t)) threads

-- the log of a thread that has this input list and these entries, and reports this
abbrev pub log_by : List ℕ → List Entry → Report → ThreadLog
log_by list entries report = record { entries = entries; steps = report.steps; instr = report.instr; end = report.end; taken = take report.taken list }

-- the logs of threads from number t on that have these entries and report this
abbrev pub logs_by : InputsValue → ℕ → List (List Entry) → List Report → List ThreadLog
logs_by inputs t [] reports = []
logs_by inputs t (entries ∷ all) [] = []
logs_by inputs t (entries ∷ all) (report ∷ reports) = log_by (inputs_of inputs t) entries report ∷ logs_by inputs (t + 1) all reports
