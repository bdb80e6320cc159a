-- What the lines of a text have said so far, and what one more line adds or has wrong.
use Rattle.std.specs.Prelude.{ℕ, ◌+◌, Bool, true, false, ◌&&◌, ◌||◌, not, nat_lt, nat_le, List, [], ◌∷◌, ◌++◌, length, replicate, slice_set, if◌then◌else◌, Option, None, Some, is_some, Result, Ok, Err}
use Rattle.machine.specs.declared.program.Instr.{Instr}
use Rattle.machine.specs.declared.program.Op.{Op}
use Rattle.assembler.specs.declared.asm_fault.AsmKind.TheVariants as kind
use Rattle.assembler.specs.declared.head.Head.TheVariants as head
use Rattle.assembler.specs.Words.{Head, is_name, is_directive, is_operation}
use Rattle.assembler.specs.Numerals.{one_number, two_numbers}
use Rattle.assembler.specs.Parts.{Parts, parts_of, is_plain}
use Rattle.assembler.specs.Labels.{Scope, no_scope, scope_from, is_twice}
use Rattle.assembler.specs.Operands.{AsmKind, instr_of}

-- the initial values; whether no item has stood yet; whether a thread has begun; the threads before it, its instructions so far, and its scope
pub record Progress : Type 0 where
  pub words : List ℕ
  pub is_fresh : Bool
  pub has_begun : Bool
  pub done : List (List Instr)
  pub code : List Instr
  pub scope : Scope

-- before the first line: 16 words
abbrev pub start : Progress
start = record { words = replicate 16 0; is_fresh = true; has_begun = false; done = []; code = []; scope = no_scope }

-- the threads so far
abbrev pub threads_of : Progress → List (List Instr)
threads_of p = if p.has_begun then p.done ++ p.code ∷ [] else p.done

-- `.words N`: the number of words
abbrev pub with_words : Progress → Option ℕ → Result Progress AsmKind
with_words p None = Err kind.Operand
with_words p (Some n) = if nat_le 1 n && nat_le n 4096 then Ok (record p { words = replicate n 0; is_fresh = false }) else Err kind.Number

abbrev pub take_words : Progress → List (List ℕ) → Result Progress AsmKind
take_words p operands = with_words p (one_number operands)

-- `.init W V`: the initial value of a word
abbrev pub with_value : Progress → Option (ℕ × ℕ) → Result Progress AsmKind
with_value p None = Err kind.Operand
with_value p (Some n) =
    if nat_lt n.0 (length p.words) && nat_le n.1 4294967295 then Ok (record p { words = slice_set p.words n.0 n.1; is_fresh = false })
    else Err kind.Number

abbrev pub take_init : Progress → List (List ℕ) → Result Progress AsmKind
take_init p operands = with_value p (two_numbers operands)

-- the current thread is over
abbrev pub ended : Progress → Progress
ended p = record p { done = threads_of p; code = [] }

-- `.thread`: the next thread, at most fifteen; its scope is that of the lines that follow
abbrev pub take_thread : Progress → ℕ → List (List ℕ) → List (List ℕ) → Result Progress AsmKind
take_thread p line [] lines =
    if nat_le 15 (length (threads_of p)) then Err kind.TooMany
    else Ok (record (ended p) { is_fresh = false; has_begun = true; scope = scope_from no_scope (line + 1) lines })
take_thread p line (o ∷ operands) lines = Err kind.Operand

-- an instruction, at most 4,096 a thread
abbrev pub with_instr : Progress → Result Instr AsmKind → Result Progress AsmKind
with_instr p (Err k) = Err k
with_instr p (Ok i) = if nat_le 4096 (length p.code) then Err kind.TooMany else Ok (record p { is_fresh = false; code = p.code ++ i ∷ [] })

abbrev pub take_instr : Progress → Op → List (List ℕ) → Result Progress AsmKind
take_instr p o operands = with_instr p (instr_of o p.scope operands)

-- an item: a directive where it may stand, or an instruction
abbrev pub take_item : Progress → ℕ → Head → List (List ℕ) → List (List ℕ) → Result Progress AsmKind
take_item p line head.Nothing operands lines = Ok p
take_item p line head.Words operands lines = if p.is_fresh then take_words p operands else Err kind.Mnemonic
take_item p line head.Init operands lines = if p.has_begun then Err kind.Mnemonic else take_init p operands
take_item p line head.Thread operands lines = take_thread p line operands lines
take_item p line (head.Operation o) operands lines = take_instr p o operands
take_item p line head.Unknown operands lines = Err kind.Mnemonic

-- the item of a line with these parts
abbrev pub take_item_of : Progress → ℕ → Parts → List (List ℕ) → Result Progress AsmKind
take_item_of p line parts lines = take_item p line parts.head parts.operands lines

-- the label's name is not formed as a name, or a directive follows it
abbrev pub has_bad_label : Parts → Bool
has_bad_label parts = elim parts.label as (λ _. Bool) [ None ↦ false | Some name ↦ not (is_name name) || is_directive parts.head ]

-- a label or an instruction, which only a thread has
abbrev pub wants_thread : Parts → Bool
wants_thread parts = is_some parts.label || is_operation parts.head

-- the parts of the line with this number, before these lines
abbrev pub take_parts : Progress → ℕ → Parts → List (List ℕ) → Result Progress AsmKind
take_parts p line parts lines =
    if has_bad_label parts then Err kind.Label
    else if wants_thread parts && not p.has_begun then Err kind.NoThread
    else if is_twice p.scope.labels line parts.label then Err kind.LabelTwice
    else take_item_of p line parts lines

-- what stands after the line, or what is wrong with it first
abbrev pub take_line : Progress → ℕ → List ℕ → List (List ℕ) → Result Progress AsmKind
take_line p number line lines = if not (is_plain line) then Err kind.NotAscii else take_parts p number (parts_of line) lines
