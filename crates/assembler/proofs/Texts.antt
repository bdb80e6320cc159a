-- A text, one line after the other.
use Rattle.std.proofs.Common.{◌≡◌, ℕ, ◌+◌, true, cond, List, [], ◌∷◌, length, Result, Ok, Err, refl, sym, ap, ◌∙◌, ◌⊎◌, inl, inr, ⊎_elim, arith}
use Rattle.machine.specs.Programs.{ProgramValue}
use Rattle.assembler.specs.declared.asm_fault.AsmFault.{AsmFault}
use Rattle.assembler.specs.declared.asm_fault.AsmKind.{AsmKind}
use Rattle.assembler.specs.declared.asm_fault.AsmKind.TheVariants as kind
use Rattle.assembler.specs.Lines.{lines_of}
use Rattle.assembler.specs.Progress.{Progress, take_line}
use Rattle.assembler.specs.Assembled.{assembled_from, finished, line_fault, fault_at, out_of_memory, program_of}

pub from_done : (p : Progress) (n : ℕ) → assembled_from p n [] ≡ finished p n
unfolding assembled_from
from_done p n = refl

abbrev pub next : List (List ℕ) → ℕ → Result Progress AsmKind → Result ProgramValue AsmFault
next lines n (Err k) = Err (line_fault n k)
next lines n (Ok p) = assembled_from p (n + 1) lines

pub from_line : (p : Progress) (n : ℕ) (l : List ℕ) (ls : List (List ℕ)) → assembled_from p n (l ∷ ls) ≡ next ls n (take_line p n l ls)
unfolding assembled_from
from_line p n l ls = refl

-- past the last line
pub text_last : (p : Progress) (n : ℕ) (text : List ℕ) (t : Result ProgramValue AsmFault) → length text ≡ 0 → assembled_from p n (lines_of text) ≡ t → finished p n ≡ t
text_last p n [] t e same = sym (from_done p n) ∙ same
text_last p n (b ∷ bs) t e same = absurd (omega arith)

-- what a line gives decides how it goes on
pub text_next : (p : Progress) (n : ℕ) (text l after : List ℕ) (t : Result ProgramValue AsmFault) (r : Result Progress AsmKind) → lines_of text ≡ l ∷ lines_of after → take_line p n l (lines_of after) ≡ r
    → assembled_from p n (lines_of text) ≡ t → next (lines_of after) n r ≡ t
text_next p n text l after t r e f same = ap (next (lines_of after) n) (sym f) ∙ sym (from_line p n l (lines_of after)) ∙ ap (assembled_from p n) (sym e) ∙ same

-- a kind that is not memory is the line's fault
pub kind_fault : (k : AsmKind) (n : ℕ) (t : Result ProgramValue AsmFault) → (k ≡ kind.Memory) ⊎ (Err (line_fault n k) ≡ t) → (fault_at n k ≡ out_of_memory) ⊎ (t ≡ Err (fault_at n k))
kind_fault kind.Memory n t h = inl refl
kind_fault kind.NotAscii n t h = ⊎_elim (λ e. absurd (cc)) (λ e. inr (sym e)) h
kind_fault kind.Mnemonic n t h = ⊎_elim (λ e. absurd (cc)) (λ e. inr (sym e)) h
kind_fault kind.Operand n t h = ⊎_elim (λ e. absurd (cc)) (λ e. inr (sym e)) h
kind_fault kind.Number n t h = ⊎_elim (λ e. absurd (cc)) (λ e. inr (sym e)) h
kind_fault kind.Label n t h = ⊎_elim (λ e. absurd (cc)) (λ e. inr (sym e)) h
kind_fault kind.LabelTwice n t h = ⊎_elim (λ e. absurd (cc)) (λ e. inr (sym e)) h
kind_fault kind.Undefined n t h = ⊎_elim (λ e. absurd (cc)) (λ e. inr (sym e)) h
kind_fault kind.TooMany n t h = ⊎_elim (λ e. absurd (cc)) (λ e. inr (sym e)) h
kind_fault kind.NoThread n t h = ⊎_elim (λ e. absurd (cc)) (λ e. inr (sym e)) h

-- a line at fault ends the text
pub text_fault : (p : Progress) (n : ℕ) (text l after : List ℕ) (t : Result ProgramValue AsmFault) (k : AsmKind) → lines_of text ≡ l ∷ lines_of after → (k ≡ kind.Memory) ⊎ (take_line p n l (lines_of after) ≡ Err k)
    → assembled_from p n (lines_of text) ≡ t → (fault_at n k ≡ out_of_memory) ⊎ (t ≡ Err (fault_at n k))
text_fault p n text l after t k e f same = kind_fault k n t (⊎_elim inl (λ g. inr (text_next p n text l after t (Err k) e g same)) f)

pub finished_begun : (p : Progress) (n : ℕ) → p.has_begun ≡ true → finished p n ≡ Ok (program_of p)
finished_begun p n e = ap (λ b. cond b (Ok (program_of p)) (Err (line_fault n kind.NoThread))) e
