-- Inputs as bytes: the one list of bytes that stands for them, and the first fault of other bytes.
use Rattle.std.specs.Prelude.{◌≡◌, ℕ, ◌+◌, ◌*◌, ◌<◌, ◌^◌, not, nat_lt, nat_eq, if◌then◌else◌, List, [], ◌∷◌, ◌++◌, length, drop, sum, slice_index, codes, All, Option, None, Some, Result, Ok}
use Rattle.std.specs.List.{flat_map, list_all, starts_with}
use Rattle.std.specs.Int.{w32, to_be_bytes}
pub use Rattle.machine.specs.declared.input_fault.InputFault.{InputFault}
pub use Rattle.machine.specs.declared.input_fault.InputKind.{InputKind}
use Rattle.machine.specs.declared.input_fault.InputKind.TheVariants as kind
use Rattle.machine.specs.Faults.{is_count}
use Rattle.machine.specs.Inputs.{InputsValue, AreInputs, is_short_count}
use Rattle.machine.specs.Reading.{GivesUnless, after, numbers_at}

-- the number of a kind
abbrev pub number_of_kind : InputKind → ℕ
number_of_kind kind.Short = 1
number_of_kind kind.Magic = 2
number_of_kind kind.Counts = 3
number_of_kind kind.Long = 4
number_of_kind kind.Memory = 5

abbrev pub fault_of : InputKind → InputFault
fault_of k = record { kind = k }

-- the fault that tells of a request for memory that was refused
abbrev pub out_of_memory : InputFault
out_of_memory = fault_of kind.Memory

-- ---- spelling

-- how inputs begin
abbrev pub magic : List ℕ
magic = codes "LIN1"

-- how many numbers a list has
abbrev pub count_text : List ℕ → List ℕ
count_text list = to_be_bytes w32 (length list)

-- the numbers of a list
abbrev pub list_text : List ℕ → List ℕ
list_text list = flat_map (to_be_bytes w32) list

-- the number of lists, how many numbers each has, and the numbers, list after list
abbrev pub inputs_text : InputsValue → List ℕ
inputs_text inputs = magic ++ (length inputs ∷ (flat_map count_text inputs ++ flat_map list_text inputs))

-- these bytes stand for these inputs
pub record IsInputsText (bytes : List ℕ) (inputs : InputsValue) : Type 0 where
  pub rules : AreInputs inputs
  pub numbers : All (All (λ n. n < 2 ^ 32)) inputs
  pub spelled : bytes ≡ inputs_text inputs

-- ---- reading

-- the number of lists
abbrev pub lists_in : List ℕ → ℕ
lists_in bytes = slice_index bytes 4

-- how many numbers each list has
unfoldable pub counts_in : List ℕ → List ℕ
counts_in bytes = numbers_at w32 (lists_in bytes) (drop 5 bytes)

-- where the numbers begin, and where the text ends
abbrev pub numbers_place : List ℕ → ℕ
numbers_place bytes = 5 + 4 * lists_in bytes

abbrev pub text_len : List ℕ → ℕ
text_len bytes = numbers_place bytes + 4 * sum (counts_in bytes)

-- lists that have so many numbers
unfoldable pub lists_at : List ℕ → List ℕ → List (List ℕ)
lists_at [] bytes = []
lists_at (count ∷ counts) bytes = numbers_at w32 count bytes ∷ lists_at counts (drop (4 * count) bytes)

-- what is wrong before the counts: too few bytes, another beginning, or a number of lists out of range
unfoldable pub head_fault : List ℕ → Option InputKind
head_fault bytes =
    if nat_lt (length bytes) 5 then Some kind.Short
    else if not (starts_with nat_eq bytes magic) then Some kind.Magic
    else if not (is_count 15 (lists_in bytes)) then Some kind.Counts
    else None

-- what is wrong after that: too few bytes for the counts, a list with too many numbers, or fewer or more bytes than the counts announce
unfoldable pub counts_fault : List ℕ → Option InputKind
counts_fault bytes =
    if nat_lt (length bytes) (numbers_place bytes) then Some kind.Short
    else if not (list_all is_short_count (counts_in bytes)) then Some kind.Counts
    else if nat_lt (length bytes) (text_len bytes) then Some kind.Short
    else if nat_lt (text_len bytes) (length bytes) then Some kind.Long
    else None

-- the inputs that the bytes stand for, or the first fault
unfoldable pub inputs_read : List ℕ → Result InputsValue InputFault
inputs_read bytes = after fault_of (head_fault bytes) (after fault_of (counts_fault bytes) (Ok (lists_at (counts_in bytes) (drop (numbers_place bytes) bytes))))

-- what a function returned, seen by view, is what reading gives, unless memory ran out
abbrev pub Gives : {X Y : Type 0} → (X → Y) → Result X InputFault → Result Y InputFault → Type 0
Gives view r read = GivesUnless out_of_memory view r read
