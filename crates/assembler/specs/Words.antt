-- What a single word can be: a name, a register, the first word of an item.
use Rattle.std.specs.Prelude.{ℕ, ◌-◌, Bool, true, false, ◌&&◌, ◌||◌, ◌==◌, nat_le, List, [], ◌∷◌, map, find, codes, bytes_eq, if◌then◌else◌, Option, None, Some}
use Rattle.std.specs.Option.{option_map_or}
use Rattle.std.specs.Char.{to_ascii_lowercase}
use Rattle.std.specs.List.{list_all}
use Rattle.machine.specs.declared.program.Op.{Op}
use Rattle.machine.specs.Programs.{every_op}
use Rattle.assembler.specs.Mnemonics.{mnemonic_of}
pub use Rattle.assembler.specs.declared.head.Head.{Head}
use Rattle.assembler.specs.declared.head.Head.TheVariants as head

abbrev pub is_between : ℕ → ℕ → ℕ → Bool
is_between first last b = nat_le first b && nat_le b last

abbrev pub is_decimal_digit : ℕ → Bool
is_decimal_digit b = is_between 48 57 b

-- a letter, or `_`
abbrev pub begins_name : ℕ → Bool
begins_name b = is_between 97 122 b || is_between 65 90 b || (b == 95)

abbrev pub continues_name : ℕ → Bool
continues_name b = begins_name b || is_decimal_digit b

-- a label's name: a letter or `_`, followed by letters, digits and `_`
abbrev pub is_name : List ℕ → Bool
is_name [] = false
is_name (b ∷ bs) = begins_name b && list_all continues_name bs

-- the letter of registers, in either case
abbrev pub is_register_letter : ℕ → Bool
is_register_letter b = (b == 114) || (b == 82)

-- the register that a word names: the letter, and 0 to 15 without leading zeros
abbrev pub register_of : List ℕ → Option ℕ
register_of (r ∷ d ∷ []) = if is_register_letter r && is_between 48 57 d then Some (d - 48) else None
register_of (r ∷ t ∷ d ∷ []) = if is_register_letter r && (t == 49) && is_between 48 53 d then Some (d - 38) else None
register_of _ = None

-- the word spells this name, each letter in either case; the name is in lower case
abbrev pub spells : List ℕ → List ℕ → Bool
spells name word = bytes_eq name (map to_ascii_lowercase word)

-- the operation whose mnemonic the word is
abbrev pub op_named : List ℕ → Option Op
op_named word = find (λ o. spells (mnemonic_of o) word) every_op

-- what the first word of an item begins: a directive, an instruction, or nothing that is known
abbrev pub head_of : List ℕ → Head
head_of word =
    if spells (codes ".words") word then head.Words
    else if spells (codes ".init") word then head.Init
    else if spells (codes ".thread") word then head.Thread
    else option_map_or head.Operation (op_named word) head.Unknown

abbrev pub is_directive : Head → Bool
is_directive head.Nothing = false
is_directive head.Words = true
is_directive head.Init = true
is_directive head.Thread = true
is_directive (head.Operation o) = false
is_directive head.Unknown = false

abbrev pub is_operation : Head → Bool
is_operation (head.Operation o) = true
is_operation head.Nothing = false
is_operation head.Words = false
is_operation head.Init = false
is_operation head.Thread = false
is_operation head.Unknown = false

abbrev pub begins_thread : Head → Bool
begins_thread head.Thread = true
begins_thread head.Nothing = false
begins_thread head.Words = false
begins_thread head.Init = false
begins_thread (head.Operation o) = false
begins_thread head.Unknown = false

-- an item that does not begin with a directive is one instruction, also where its first word is unknown
abbrev pub instructions_of : Head → ℕ
instructions_of (head.Operation o) = 1
instructions_of head.Unknown = 1
instructions_of head.Nothing = 0
instructions_of head.Words = 0
instructions_of head.Init = 0
instructions_of head.Thread = 0
