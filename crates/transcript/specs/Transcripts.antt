-- The transcript of a run.
use Rattle.std.specs.Prelude.{◌≡◌, ℕ, ◌+◌, ◌==◌, if◌then◌else◌, List, [], ◌∷◌, ◌++◌, length, take, codes}
use Rattle.std.specs.List.{flat_map}
use Rattle.std.specs.Fmt.{decimal}
use Rattle.replay_model.specs.declared.End.{End}
use Rattle.replay_model.specs.declared.End.TheVariants as end
use Rattle.machine.specs.Programs.{ProgramValue, LimitsValue}
use Rattle.machine.specs.Inputs.{InputsValue}
use Rattle.machine.specs.Cores.{Report}
use Rattle.machine.specs.Runs.{world_after, reports_of, values_of}

-- the text begins with the one that it was before
abbrev pub BeginsWith : List ℕ → List ℕ → Type 0
BeginsWith text before = take (length before) text ≡ before

abbrev pub newline : List ℕ
newline = 10 ∷ []

abbrev pub end_text : End → List ℕ
end_text end.Halted = codes "halted"
end_text end.InstrSpent = codes "instr-spent"
end_text (end.BadAddress address) = codes "bad-address " ++ decimal address
end_text end.StepsSpent = codes "steps-spent"
end_text end.EntriesFull = codes "entries-full"
end_text end.OutputFull = codes "output-full"
end_text end.InputEmpty = codes "input-empty"

-- thread T END steps S instr I
abbrev pub thread_line : ℕ → Report → List ℕ
thread_line t r =
    codes "thread " ++ decimal t ++ codes " " ++ end_text r.end ++ codes " steps " ++ decimal r.steps ++ codes " instr " ++ decimal r.instr ++ newline

-- out V
abbrev pub out_line : ℕ → List ℕ
out_line value = codes "out " ++ decimal value ++ newline

-- word W V
abbrev pub word_line : ℕ → ℕ → List ℕ
word_line w value = codes "word " ++ decimal w ++ codes " " ++ decimal value ++ newline

-- each thread with its output, the first of them being thread t
abbrev pub thread_lines : ℕ → List Report → List ℕ
thread_lines t [] = []
thread_lines t (r ∷ reports) = thread_line t r ++ flat_map out_line r.output ++ thread_lines (t + 1) reports

-- each word whose last value isn't 0, the first of them being word w
abbrev pub word_lines : ℕ → List ℕ → List ℕ
word_lines w [] = []
word_lines w (value ∷ values) = (if value == 0 then [] else word_line w value) ++ word_lines (w + 1) values

-- the transcript of reports and last values
unfoldable pub transcript : List Report → List ℕ → List ℕ
transcript reports last_values = thread_lines 0 reports ++ word_lines 0 last_values

-- the transcript of a history of a program with its inputs
abbrev pub transcript_of : ProgramValue → LimitsValue → InputsValue → List ℕ → List ℕ
transcript_of p limits inputs history =
    transcript (reports_of p limits inputs (world_after p limits inputs history)) (values_of (world_after p limits inputs history))
