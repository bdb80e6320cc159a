-- How a thread stands right after a memory step, as text.
use Rattle.std.specs.Prelude.{ℕ, ◌+◌, ◌==◌, if◌then◌else◌, List, [], ◌∷◌, ◌++◌, codes}
use Rattle.std.specs.Fmt.{decimal}
use Rattle.stopper.specs.Snaps.{SnapValue}

abbrev pub newline : List ℕ
newline = 10 ∷ []

-- a name and its number
abbrev pub field : List ℕ → ℕ → List ℕ
field name n = name ++ decimal n

-- thread T step S instr I
abbrev pub head_line : ℕ → ℕ → ℕ → List ℕ
head_line thread step instr = field (codes "thread ") thread ++ field (codes " step ") step ++ field (codes " instr ") instr ++ newline

-- rK V
abbrev pub register_line : ℕ → ℕ → List ℕ
register_line k value = field (codes "r") k ++ field (codes " ") value ++ newline

-- each register, the first of them being register k
abbrev pub register_lines : ℕ → List ℕ → List ℕ
register_lines k [] = []
register_lines k (value ∷ values) = register_line k value ++ register_lines (k + 1) values

-- run U K
abbrev pub run_line : ℕ → ℕ → List ℕ
run_line u number = field (codes "run ") u ++ field (codes " ") number ++ newline

-- each thread of which steps were played, the first of them being thread u
abbrev pub run_lines : ℕ → List ℕ → List ℕ
run_lines u [] = []
run_lines u (number ∷ numbers) = (if number == 0 then [] else run_line u number) ++ run_lines (u + 1) numbers

-- how a thread stands right after its step
unfoldable pub snap_text : ℕ → ℕ → SnapValue → List ℕ
snap_text thread step snap = head_line thread step snap.instr ++ register_lines 0 snap.registers ++ run_lines 0 snap.ran
