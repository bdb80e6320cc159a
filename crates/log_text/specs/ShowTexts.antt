-- A log as text, to be read by people.
use Rattle.std.specs.Prelude.{ℕ, ◌+◌, List, [], ◌∷◌, ◌++◌, length, codes, Some, None}
use Rattle.std.specs.List.{flat_map}
use Rattle.std.specs.Fmt.{decimal}
use Rattle.hex.specs.Hex.{encode_lower}
use Rattle.light_base.specs.declared.tag.Event.{Event}
use Rattle.replay_model.specs.Steps.{Tag}
use Rattle.replay_model.specs.declared.Entry.{Entry}
use Rattle.replay_model.specs.Logs.{Limits, ThreadLog, Log}
use Rattle.transcript.specs.Transcripts.{newline, end_text}

-- a name and its number
abbrev pub field : List ℕ → ℕ → List ℕ
field name n = name ++ decimal n

-- who wrote: T:N, step N of thread T
abbrev pub writer_text : Tag → List ℕ
writer_text None = codes "initial"
writer_text (Some e) = decimal e.thread ++ codes ":" ++ decimal e.step

-- program D: the digest of its image
abbrev pub program_line : List ℕ → List ℕ
program_line digest = codes "program " ++ encode_lower digest ++ newline

-- words W
abbrev pub words_line : ℕ → List ℕ
words_line count = field (codes "words ") count ++ newline

-- limits STEPS INSTR ENTRIES
abbrev pub limits_line : Limits → List ℕ
limits_line l = field (codes "limits ") l.steps ++ field (codes " ") l.instr ++ field (codes " ") l.entries ++ newline

-- steps S instr I entries E inputs K
abbrev pub counts_text : ThreadLog → List ℕ
counts_text thread =
    field (codes " steps ") thread.steps ++ field (codes " instr ") thread.instr ++ field (codes " entries ") (length thread.entries) ++ field (codes " inputs ") (length thread.taken)

-- thread T END, and what the thread counts
abbrev pub thread_line : ℕ → ThreadLog → List ℕ
thread_line t thread = field (codes "thread ") t ++ (codes " " ++ end_text thread.end) ++ counts_text thread ++ newline

-- entry W source S first F last L
abbrev pub entry_line : Entry → List ℕ
entry_line e =
    field (codes "entry ") e.word ++ (codes " source " ++ writer_text e.source) ++ field (codes " first ") e.first ++ field (codes " last ") e.last ++ newline

-- in V
abbrev pub input_line : ℕ → List ℕ
input_line value = field (codes "in ") value ++ newline

-- a thread with its entries and the input numbers that it took
abbrev pub thread_text : ℕ → ThreadLog → List ℕ
thread_text t thread = thread_line t thread ++ flat_map entry_line thread.entries ++ flat_map input_line thread.taken

-- the threads, the first of them being thread t
abbrev pub threads_text : ℕ → List ThreadLog → List ℕ
threads_text t [] = []
threads_text t (thread ∷ threads) = thread_text t thread ++ threads_text (t + 1) threads

-- word W last S, where somebody wrote it
abbrev pub last_line : ℕ → Tag → List ℕ
last_line w None = []
last_line w (Some e) = field (codes "word ") w ++ (codes " last " ++ writer_text (Some e)) ++ newline

-- the words, the first of them being word w
abbrev pub last_lines : ℕ → List Tag → List ℕ
last_lines w [] = []
last_lines w (tag ∷ tags) = last_line w tag ++ last_lines (w + 1) tags

-- the program, the sizes and the limits
unfoldable pub head_text : Log → List ℕ
head_text log = program_line log.digest ++ words_line (length log.last_tags) ++ limits_line log.limits

-- a log as text
unfoldable pub show : Log → List ℕ
show log = head_text log ++ threads_text 0 log.threads ++ last_lines 0 log.last_tags
