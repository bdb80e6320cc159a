-- Each number of a program that a text says fits a word.
use Rattle.std.proofs.Common.{◌≡◌, ℕ, ◌+◌, ◌<◌, ◌≤◌, ◌^◌, Bool, true, false, cond, not, ◌&&◌, ◌||◌, ltb, leb, List, [], ◌∷◌, ◌++◌, length, set, replicate, Option, None, Some, All, Result, Ok, Err, refl, sym, ap, ◌∙◌, subst, ⊎_elim, arith}
use Rattle.std.proofs.lemmas.Bool.{and_parts, leb-true, ltb-false, not-true, cases_Bool}
use Rattle.std.proofs.lemmas.List.Elements.{All-nil, All-push, All-set, All-replicate}
use Rattle.machine.specs.declared.program.Instr.{Instr}
use Rattle.machine.specs.declared.program.Op.{Op}
use Rattle.machine.specs.Programs.{ProgramValue, IsProgram, IsInstr, uses_imm, jumps}
use Rattle.machine.specs.Images.{HasNumbers}
use Rattle.assembler.specs.declared.asm_fault.AsmKind.{AsmKind}
use Rattle.assembler.specs.declared.asm_fault.AsmKind.TheVariants as kind
use Rattle.assembler.specs.declared.head.Head.TheVariants as head
use Rattle.assembler.specs.Lines.{lines_of}
use Rattle.assembler.specs.Words.{Head}
use Rattle.assembler.specs.Numerals.{number_of, one_number, two_numbers}
use Rattle.assembler.specs.Parts.{Parts, parts_of, is_plain}
use Rattle.assembler.specs.Labels.{Scope, no_scope, scope_from, is_twice}
use Rattle.assembler.specs.Operands.{Registers, registers_of, name_value, imm_value, last_operand, with_imm, instr_of}
use Rattle.assembler.specs.Progress.{Progress, start, threads_of, ended, with_words, with_value, take_thread, with_instr, take_item, take_parts, take_line, has_bad_label, wants_thread}
use Rattle.assembler.specs.Assembled.{assembled, assembled_from, program_of, line_fault}
use Rattle.assembler.proofs.InstrRules.{if_ok, then_ok, with_imm_ok}
use Rattle.assembler.proofs.Rules.{assembled_rules}
use Rattle.assembler.proofs.Texts.{from_done, from_line, next}

abbrev FitsWord : ℕ → Type 0
FitsWord v = v < 2 ^ 32

-- the imm of an instruction that is no jump; that of a jump is below the length of its code
record IsSmall (i : Instr) : Type 0 where
  imm : jumps i.op ≡ false → FitsWord i.imm

imm_small : (scope : Scope) (word : List ℕ) (v : ℕ) → imm_value false scope word ≡ Ok v → FitsWord v
imm_small scope word v h = by (number_of word) h
  where
    by : (o : Option ℕ) → elim o as (λ _. Result ℕ AsmKind) [ Some n ↦ cond (ltb 4294967295 n) (Err kind.Number) (Ok n) | None ↦ name_value false scope.labels word ] ≡ Ok v → FitsWord v
    by (Some n) g =
        let s = if_ok (ltb 4294967295 n) (Ok n) kind.Number v g in
        let same : n ≡ v = cc in
        let most : n ≤ 4294967295 = ltb-false 4294967295 n s.0 in
        omega arith
    by None g = absurd (cc)

last_small : (used : Bool) (scope : Scope) (tokens : List (List ℕ)) (v : ℕ) → last_operand used false scope tokens ≡ Ok v → FitsWord v
last_small false scope [] v h = let e : 0 ≡ v = cc in omega arith
last_small false scope (word ∷ tokens) v h = absurd (cc)
last_small true scope [] v h = absurd (cc)
last_small true scope (word ∷ []) v h = imm_small scope word v h
last_small true scope (word ∷ other ∷ tokens) v h = absurd (cc)

instr_small : (o : Op) (scope : Scope) (tokens : List (List ℕ)) (i : Instr) → instr_of o scope tokens ≡ Ok i → IsSmall i
instr_small o scope tokens i h = by (registers_of o tokens) h
  where
    by : (x : Option Registers) → elim x as (λ _. Result Instr AsmKind) [ None ↦ Err kind.Operand | Some r ↦ with_imm o r (last_operand (uses_imm o) (jumps o) scope r.rest) ] ≡ Ok i → IsSmall i
    by None g = absurd (cc)
    by (Some r) g =
        let s = with_imm_ok o r (last_operand (uses_imm o) (jumps o) scope r.rest) i g in
        let P : Instr → Type 0 = λ x. IsSmall x in
        let Q : Bool → Type 0 = λ b. last_operand (uses_imm o) b scope r.rest ≡ Ok s.0 in
        subst P s.2 (record { imm = λ e. last_small (uses_imm o) scope r.rest s.0 (subst Q e s.1) })

-- the initial values and the instructions so far
record AreSmall (p : Progress) : Type 0 where
  words : All FitsWord p.words
  done : All (All IsSmall) p.done
  code : All IsSmall p.code

threads_small : (p : Progress) → AreSmall p → All (All IsSmall) (threads_of p)
threads_small p k = by p.has_begun
  where
    by : (b : Bool) → All (All IsSmall) (cond b (p.done ++ p.code ∷ []) p.done)
    by true = All-push (All IsSmall) p.done p.code k.done k.code
    by false = k.done

small_words : (p : Progress) (ws : List ℕ) → AreSmall p → All FitsWord ws → AreSmall (record p { words = ws; is_fresh = false })
small_words p ws k h = record { words = h; done = k.done; code = k.code }

words_small : (p q : Progress) (o : Option ℕ) → AreSmall p → with_words p o ≡ Ok q → AreSmall q
words_small p q None k h = absurd (cc)
words_small p q (Some n) k h =
    let s = then_ok (leb 1 n && leb n 4096) (Ok (record p { words = replicate n 0; is_fresh = false })) kind.Number q h in
    let e : record p { words = replicate n 0; is_fresh = false } ≡ q = cc in
    let P : Progress → Type 0 = λ x. AreSmall x in
    subst P e (small_words p (replicate n 0) k (All-replicate FitsWord n 0 (omega arith)))

value_small : (p q : Progress) (o : Option (ℕ × ℕ)) → AreSmall p → with_value p o ≡ Ok q → AreSmall q
value_small p q None k h = absurd (cc)
value_small p q (Some n) k h =
    let s = then_ok (ltb n.0 (length p.words) && leb n.1 4294967295) (Ok (record p { words = set p.words n.0 n.1; is_fresh = false })) kind.Number q h in
    let most : n.1 ≤ 4294967295 = leb-true n.1 4294967295 (and_parts (ltb n.0 (length p.words)) (leb n.1 4294967295) s.0).1 in
    let e : record p { words = set p.words n.0 n.1; is_fresh = false } ≡ q = cc in
    let P : Progress → Type 0 = λ x. AreSmall x in
    subst P e (small_words p (set p.words n.0 n.1) k (All-set FitsWord p.words n.0 n.1 (omega arith) k.words))

thread_small : (p q : Progress) (line : ℕ) (operands ls : List (List ℕ)) → AreSmall p → take_thread p line operands ls ≡ Ok q → AreSmall q
thread_small p q line (o ∷ operands) ls k h = absurd (cc)
thread_small p q line [] ls k h =
    let new : Progress = record (ended p) { is_fresh = false; has_begun = true; scope = scope_from no_scope (line + 1) ls } in
    let s = if_ok (leb 15 (length (threads_of p))) (Ok new) kind.TooMany q h in
    let e : new ≡ q = cc in
    let P : Progress → Type 0 = λ x. AreSmall x in
    subst P e (record { words = k.words; done = threads_small p k; code = All-nil IsSmall })

code_small : (p q : Progress) (o : Op) (operands : List (List ℕ)) → AreSmall p → with_instr p (instr_of o p.scope operands) ≡ Ok q → AreSmall q
code_small p q o operands k h = by (instr_of o p.scope operands) refl h
  where
    by : (r : Result Instr AsmKind) → instr_of o p.scope operands ≡ r → with_instr p r ≡ Ok q → AreSmall q
    by (Err x) e g = absurd (cc)
    by (Ok i) e g =
        let new : Progress = record p { is_fresh = false; code = p.code ++ i ∷ [] } in
        let s = if_ok (leb 4096 (length p.code)) (Ok new) kind.TooMany q g in
        let f : new ≡ q = cc in
        let P : Progress → Type 0 = λ x. AreSmall x in
        subst P f (record { words = k.words; done = k.done; code = All-push IsSmall p.code i k.code (instr_small o p.scope operands i e) })

item_small : (p q : Progress) (line : ℕ) (h : Head) (operands ls : List (List ℕ)) → AreSmall p → take_item p line h operands ls ≡ Ok q → AreSmall q
item_small p q line head.Nothing operands ls k g = let e : p ≡ q = cc in let P : Progress → Type 0 = λ x. AreSmall x in subst P e k
item_small p q line head.Words operands ls k g = words_small p q (one_number operands) k (then_ok p.is_fresh (with_words p (one_number operands)) kind.Mnemonic q g).1
item_small p q line head.Init operands ls k g = value_small p q (two_numbers operands) k (if_ok p.has_begun (with_value p (two_numbers operands)) kind.Mnemonic q g).1
item_small p q line head.Thread operands ls k g = thread_small p q line operands ls k g
item_small p q line (head.Operation o) operands ls k g = code_small p q o operands k g
item_small p q line head.Unknown operands ls k g = absurd (cc)

parts_small : (p q : Progress) (line : ℕ) (parts : Parts) (ls : List (List ℕ)) → AreSmall p → take_parts p line parts ls ≡ Ok q → AreSmall q
parts_small p q line parts ls k h =
    let twice = cond (is_twice p.scope.labels line parts.label) (Err kind.LabelTwice) (take_item p line parts.head parts.operands ls) in
    let a = if_ok (has_bad_label parts) (cond (wants_thread parts && not p.has_begun) (Err kind.NoThread) twice) kind.Label q h in
    let b = if_ok (wants_thread parts && not p.has_begun) twice kind.NoThread q a.1 in
    item_small p q line parts.head parts.operands ls k (if_ok (is_twice p.scope.labels line parts.label) (take_item p line parts.head parts.operands ls) kind.LabelTwice q b.1).1

line_small : (p q : Progress) (n : ℕ) (l : List ℕ) (ls : List (List ℕ)) → AreSmall p → take_line p n l ls ≡ Ok q → AreSmall q
line_small p q n l ls k h = parts_small p q n (parts_of l) ls k (if_ok (not (is_plain l)) (take_parts p n (parts_of l) ls) kind.NotAscii q h).1

-- a program's numbers, but the targets
record HasSmall (p : ProgramValue) : Type 0 where
  words : All FitsWord p.words
  threads : All (All IsSmall) p.threads

from_small : (p : Progress) (n : ℕ) (ls : List (List ℕ)) (q : ProgramValue) → AreSmall p → assembled_from p n ls ≡ Ok q → HasSmall q
from_small p n [] q k h =
    let s = then_ok p.has_begun (Ok (program_of p)) (line_fault n kind.NoThread) q (sym (from_done p n) ∙ h) in
    let e : program_of p ≡ q = cc in
    let P : ProgramValue → Type 0 = λ x. HasSmall x in
    subst P e (record { words = k.words; threads = threads_small p k })
from_small p n (l ∷ ls) q k h = by (λ next_p. from_small next_p (n + 1) ls q) (take_line p n l ls) refl (sym (from_line p n l ls) ∙ h)
  where
    by : ((x : Progress) → AreSmall x → assembled_from x (n + 1) ls ≡ Ok q → HasSmall q) → (r : Result Progress AsmKind) → take_line p n l ls ≡ r → next ls n r ≡ Ok q → HasSmall q
    by rest (Err x) e g = absurd (cc)
    by rest (Ok x) e g = rest x (line_small p x n l ls k e) g

start_small : AreSmall start
start_small = record { words = All-replicate FitsWord 16 0 (omega arith); done = All-nil (All IsSmall); code = All-nil IsSmall }

-- a target is no greater than the length of its code
target_small : (len : ℕ) (i : Instr) → len ≤ 4096 → IsInstr len i → IsSmall i → FitsWord i.imm
target_small len i short rules small =
    ⊎_elim
    (λ (e : jumps i.op ≡ true).
    let within : i.imm ≤ len = ltb-false len i.imm (not-true (ltb len i.imm) (ap (λ b. not b || not (ltb len i.imm)) (sym e) ∙ rules.target)) in
    omega arith)
    (λ (e : jumps i.op ≡ false). small.imm e)
    (cases_Bool (jumps i.op))

-- the law
pub assembled_numbers : (text : List ℕ) (q : ProgramValue) → assembled text ≡ Ok q → HasNumbers q
assembled_numbers text q h =
    let rules : IsProgram q = assembled_rules text q h in
    let small = from_small start 1 (lines_of text) q start_small h in
    record {
      words = small.words;
      imms = λ k d within. λ k' d' within'.
          let code = rules.each k d within in
          target_small _ _ code.short (code.each k' d' within') (small.threads k d within k' d' within');
    }
