-- Each fault of a text is one of a line.
use Rattle.std.proofs.Common.{◌≡◌, ◌≢◌, ℕ, ◌+◌, ◌≤◌, Bool, true, false, cond, not, ◌&&◌, ltb, leb, List, [], ◌∷◌, length, Option, None, Some, Result, Ok, Err, IfErr, refl, sym, ap, ◌∙◌, ◌⊎◌, inl, inr, ⊎_elim, arith}
use Rattle.machine.specs.declared.program.Instr.{Instr}
use Rattle.machine.specs.declared.program.Op.{Op}
use Rattle.machine.specs.Programs.{uses_imm, jumps}
use Rattle.assembler.specs.declared.asm_fault.AsmFault.{AsmFault}
use Rattle.assembler.specs.declared.asm_fault.AsmKind.{AsmKind}
use Rattle.assembler.specs.declared.asm_fault.AsmKind.TheVariants as kind
use Rattle.assembler.specs.declared.head.Head.TheVariants as head
use Rattle.assembler.specs.Lines.{lines_of}
use Rattle.assembler.specs.Words.{Head, is_name}
use Rattle.assembler.specs.Numerals.{number_of, one_number, two_numbers}
use Rattle.assembler.specs.Parts.{Parts, parts_of, is_plain}
use Rattle.assembler.specs.Labels.{Label, Scope, find_label, is_twice}
use Rattle.assembler.specs.Operands.{Registers, registers_of, greatest, place_of, name_value, imm_value, last_operand, with_imm, instr_of}
use Rattle.assembler.specs.Progress.{Progress, start, threads_of, with_words, with_value, take_thread, with_instr, take_item, take_parts, take_line, has_bad_label, wants_thread}
use Rattle.assembler.specs.Assembled.{assembled, assembled_from, program_of, line_fault, out_of_memory, is_memory}
use Rattle.assembler.specs.Laws.{IsLineFault}
use Rattle.assembler.proofs.Texts.{from_done, from_line, next}

-- an answer that is no want of memory
abbrev is_said : {A : Type 0} → Result A AsmKind → Bool
is_said (Ok x) = true
is_said (Err k) = not (is_memory k)

abbrev IsSaid : {A : Type 0} → Result A AsmKind → Type 0
IsSaid r = is_said r ≡ true

either : {A : Type 0} (b : Bool) (r s : Result A AsmKind) → IsSaid r → IsSaid s → IsSaid (cond b r s)
either true r s h g = h
either false r s h g = g

place_said : (o : Option Label) → IsSaid (place_of o)
place_said None = refl
place_said (Some l) = refl

imm_said : (is_target : Bool) (scope : Scope) (word : List ℕ) → IsSaid (imm_value is_target scope word)
imm_said is_target scope word = by (number_of word)
  where
    by : (o : Option ℕ) → IsSaid (elim o as (λ _. Result ℕ AsmKind) [ Some n ↦ cond (ltb (greatest is_target scope.len) n) (Err kind.Number) (Ok n) | None ↦ name_value is_target scope.labels word ])
    by (Some n) = either (ltb (greatest is_target scope.len) n) (Err kind.Number) (Ok n) refl refl
    by None = either (is_target && is_name word) (place_of (find_label word scope.labels)) (Err kind.Operand) (place_said (find_label word scope.labels)) refl

last_said : (used is_target : Bool) (scope : Scope) (tokens : List (List ℕ)) → IsSaid (last_operand used is_target scope tokens)
last_said false is_target scope [] = refl
last_said false is_target scope (word ∷ tokens) = refl
last_said true is_target scope [] = refl
last_said true is_target scope (word ∷ []) = imm_said is_target scope word
last_said true is_target scope (word ∷ other ∷ tokens) = refl

with_imm_said : (o : Op) (r : Registers) (m : Result ℕ AsmKind) → IsSaid m → IsSaid (with_imm o r m)
with_imm_said o r (Err k) h = h
with_imm_said o r (Ok v) h = refl

instr_said : (o : Op) (scope : Scope) (tokens : List (List ℕ)) → IsSaid (instr_of o scope tokens)
instr_said o scope tokens = by (registers_of o tokens)
  where
    by : (x : Option Registers) → IsSaid (elim x as (λ _. Result Instr AsmKind) [ None ↦ Err kind.Operand | Some r ↦ with_imm o r (last_operand (uses_imm o) (jumps o) scope r.rest) ])
    by None = refl
    by (Some r) = with_imm_said o r (last_operand (uses_imm o) (jumps o) scope r.rest) (last_said (uses_imm o) (jumps o) scope r.rest)

with_instr_said : (p : Progress) (r : Result Instr AsmKind) → IsSaid r → IsSaid (with_instr p r)
with_instr_said p (Err k) h = h
with_instr_said p (Ok i) h = either (leb 4096 (length p.code)) (Err kind.TooMany) _ refl refl

words_said : (p : Progress) (o : Option ℕ) → IsSaid (with_words p o)
words_said p None = refl
words_said p (Some n) = either (leb 1 n && leb n 4096) _ (Err kind.Number) refl refl

value_said : (p : Progress) (o : Option (ℕ × ℕ)) → IsSaid (with_value p o)
value_said p None = refl
value_said p (Some n) = either (ltb n.0 (length p.words) && leb n.1 4294967295) _ (Err kind.Number) refl refl

thread_said : (p : Progress) (line : ℕ) (operands lines : List (List ℕ)) → IsSaid (take_thread p line operands lines)
thread_said p line [] lines = either (leb 15 (length (threads_of p))) (Err kind.TooMany) _ refl refl
thread_said p line (o ∷ operands) lines = refl

item_said : (p : Progress) (line : ℕ) (h : Head) (operands lines : List (List ℕ)) → IsSaid (take_item p line h operands lines)
item_said p line head.Nothing operands lines = refl
item_said p line head.Words operands lines = either p.is_fresh (with_words p (one_number operands)) (Err kind.Mnemonic) (words_said p (one_number operands)) refl
item_said p line head.Init operands lines = either p.has_begun (Err kind.Mnemonic) (with_value p (two_numbers operands)) refl (value_said p (two_numbers operands))
item_said p line head.Thread operands lines = thread_said p line operands lines
item_said p line (head.Operation o) operands lines = with_instr_said p (instr_of o p.scope operands) (instr_said o p.scope operands)
item_said p line head.Unknown operands lines = refl

parts_said : (p : Progress) (line : ℕ) (parts : Parts) (lines : List (List ℕ)) → IsSaid (take_parts p line parts lines)
parts_said p line parts lines =
    either (has_bad_label parts) (Err kind.Label) _ refl
    (either (wants_thread parts && not p.has_begun) (Err kind.NoThread) _ refl
    (either (is_twice p.scope.labels line parts.label) (Err kind.LabelTwice) (take_item p line parts.head parts.operands lines) refl
    (item_said p line parts.head parts.operands lines)))

line_said : (p : Progress) (number : ℕ) (line : List ℕ) (lines : List (List ℕ)) → IsSaid (take_line p number line lines)
line_said p number line lines = either (not (is_plain line)) (Err kind.NotAscii) (take_parts p number (parts_of line) lines) refl (parts_said p number (parts_of line) lines)

said_kind : (k : AsmKind) → is_memory k ≡ false → k ≢ kind.Memory
said_kind k h = λ e. absurd (let f = ap is_memory e in cc)

-- a fault of one of so many lines, of which the first has this number, or of the line after them
record IsWithin (number count : ℕ) (fault : AsmFault) : Type 0 where
  first : number ≤ fault.line
  last : fault.line ≤ number + count
  kind : is_memory fault.kind ≡ false

not_false : (b : Bool) → not b ≡ true → b ≡ false
not_false true e = sym e
not_false false e = refl

from_within : (p : Progress) (number : ℕ) (lines : List (List ℕ)) (fault : AsmFault) → assembled_from p number lines ≡ Err fault → IsWithin number (length lines) fault
from_within p number [] fault h = by p.has_begun (sym (from_done p number) ∙ h)
  where
    by : (b : Bool) → cond b (Ok (program_of p)) (Err (line_fault number kind.NoThread)) ≡ Err fault → IsWithin number 0 fault
    by true e = absurd (cc)
    by false e = let f : line_fault number kind.NoThread ≡ fault = cc in
        let at : number ≡ fault.line = ap (λ (x : AsmFault). x.line) f in
        record { first = omega arith; last = omega arith; kind = ap (λ (x : AsmFault). is_memory x.kind) (sym f) }
from_within p number (line ∷ lines) fault h = by (λ q. from_within q (number + 1) lines fault) (take_line p number line lines) (line_said p number line lines) (sym (from_line p number line lines) ∙ h)
  where
    by : ((q : Progress) → assembled_from q (number + 1) lines ≡ Err fault → IsWithin (number + 1) (length lines) fault) → (r : Result Progress AsmKind) → IsSaid r
        → next lines number r ≡ Err fault → IsWithin number (length (line ∷ lines)) fault
    by rest (Err k) s e = let f : line_fault number k ≡ fault = cc in
        let at : number ≡ fault.line = ap (λ (x : AsmFault). x.line) f in
        record { first = omega arith; last = omega arith; kind = ap (λ (x : AsmFault). is_memory x.kind) (sym f) ∙ not_false (is_memory k) s }
    by rest (Ok q) s e = let w = rest q e in
        record { first = omega (arith, w.first); last = omega (arith, w.last); kind = w.kind }

-- the law
pub faults_of_lines : (text : List ℕ) (fault : AsmFault) → assembled text ≡ Err fault → IsLineFault text fault
faults_of_lines text fault h =
    let w = from_within start 1 (lines_of text) fault h in
    record { first = w.first; last = omega (arith, w.last); kind = said_kind fault.kind w.kind }

-- what is answered is want of memory or a line's fault
pub memory_or_line : (text : List ℕ) (fault : AsmFault) → (fault ≡ out_of_memory) ⊎ (assembled text ≡ Err fault) → (fault ≡ out_of_memory) ⊎ IsLineFault text fault
memory_or_line text fault h = ⊎_elim inl (λ e. inr (faults_of_lines text fault e)) h

pub result_line : {A : Type 0} (text : List ℕ) (r : Result A AsmFault) → IfErr r (λ fault. (fault ≡ out_of_memory) ⊎ (assembled text ≡ Err fault)) → IfErr r (λ fault. (fault ≡ out_of_memory) ⊎ IsLineFault text fault)
result_line text (Ok x) h = tt
result_line text (Err fault) h = memory_or_line text fault h
