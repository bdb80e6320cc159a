-- The image of a program: the one list of bytes that stands for it.
use Rattle.std.specs.Prelude.{◌≡◌, ℕ, ◌<◌, ◌^◌, List, ◌∷◌, ◌++◌, length, codes, All}
use Rattle.std.specs.List.{flat_map}
use Rattle.std.specs.Int.{w16, w32, to_be_bytes}
use Rattle.machine.specs.Programs.{Instr, ProgramValue, IsProgram, code_of_op}

-- how each image begins
abbrev pub magic : List ℕ
magic = codes "LIM1"

-- an instruction: its operation's code, the three fields, and imm in four bytes
abbrev pub instr_image : Instr → List ℕ
instr_image i = code_of_op i.op ∷ i.a ∷ i.b ∷ i.c ∷ to_be_bytes w32 i.imm

-- the number of threads and the number of words
abbrev pub counts_image : ProgramValue → List ℕ
counts_image p = length p.threads ∷ to_be_bytes w16 (length p.words)

-- the length of a code
abbrev pub length_image : List Instr → List ℕ
length_image code = to_be_bytes w16 (length code)

-- the instructions of a thread
abbrev pub code_image : List Instr → List ℕ
code_image code = flat_map instr_image code

-- the counts, the length of each code, the initial values, the codes
abbrev pub image_of : ProgramValue → List ℕ
image_of p = magic ++ (counts_image p ++ (flat_map length_image p.threads ++ (flat_map (to_be_bytes w32) p.words ++ flat_map code_image p.threads)))

-- the numbers of a program fit the bytes that an image has for them
pub record HasNumbers (p : ProgramValue) : Type 0 where
  pub words : All (λ word. word < 2 ^ 32) p.words
  pub imms : All (All (λ (i : Instr). i.imm < 2 ^ 32)) p.threads

-- these bytes are the image of this program
pub record IsImage (bytes : List ℕ) (p : ProgramValue) : Type 0 where
  pub rules : IsProgram p
  pub numbers : HasNumbers p
  pub spelled : bytes ≡ image_of p
