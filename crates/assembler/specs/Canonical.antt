-- The canonical text of a program.
use Rattle.std.specs.Prelude.{ℕ, ◌+◌, Bool, true, false, ◌==◌, List, [], ◌∷◌, ◌++◌, length, codes, decimal, flat_map, if◌then◌else◌}
use Rattle.machine.specs.declared.program.Instr.{Instr}
use Rattle.machine.specs.Programs.{ProgramValue, uses_a, uses_b, uses_c, uses_imm}
use Rattle.assembler.specs.Mnemonics.{mnemonic_of}

-- a word, and a space before it
abbrev pub spaced : List ℕ → List ℕ
spaced word = 32 ∷ word

abbrev pub line_end : List ℕ
line_end = 10 ∷ []

abbrev pub words_line : ℕ → List ℕ
words_line n = codes ".words" ++ spaced (decimal n) ++ line_end

abbrev pub init_line : ℕ → ℕ → List ℕ
init_line word value = codes ".init" ++ spaced (decimal word) ++ spaced (decimal value) ++ line_end

-- a line for a word whose value is not 0
abbrev pub init_text : ℕ → ℕ → List ℕ
init_text word value = if value == 0 then [] else init_line word value

-- the lines of the words from this one on
unfoldable pub init_lines : ℕ → List ℕ → List ℕ
init_lines word [] = []
init_lines word (v ∷ vs) = init_text word v ++ init_lines (word + 1) vs

-- a register where it is used
abbrev pub register_text : Bool → ℕ → List ℕ
register_text true r = spaced (114 ∷ decimal r)
register_text false r = []

-- a number where it is used
abbrev pub number_text : Bool → ℕ → List ℕ
number_text true n = spaced (decimal n)
number_text false n = []

abbrev pub instr_line : Instr → List ℕ
instr_line i =
    mnemonic_of i.op ++ register_text (uses_a i.op) i.a ++ register_text (uses_b i.op) i.b ++ register_text (uses_c i.op) i.c ++
    number_text (uses_imm i.op) i.imm ++ line_end

abbrev pub thread_text : List Instr → List ℕ
thread_text code = codes ".thread" ++ line_end ++ flat_map instr_line code

abbrev pub canonical : ProgramValue → List ℕ
canonical p = words_line (length p.words) ++ init_lines 0 p.words ++ flat_map thread_text p.threads
