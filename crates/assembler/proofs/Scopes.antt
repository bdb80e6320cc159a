-- A thread's scope, one line after the other.
use Rattle.std.proofs.Common.{◌≡◌, ℕ, ◌+◌, true, false, cond, List, [], ◌∷◌, length, refl, sym, ap, ◌∙◌, arith}
use Rattle.assembler.specs.Lines.{lines_of}
use Rattle.assembler.specs.Words.{begins_thread}
use Rattle.assembler.specs.Parts.{Parts, parts_of}
use Rattle.assembler.specs.Labels.{Scope, scope_from, with_line}

pub scope_done : (s : Scope) (n : ℕ) → scope_from s n [] ≡ s
unfolding scope_from
scope_done s n = refl

-- the next line that begins a thread ends it
pub scope_end : (s : Scope) (n : ℕ) (l : List ℕ) (ls : List (List ℕ)) → begins_thread (parts_of l).head ≡ true → scope_from s n (l ∷ ls) ≡ s
unfolding scope_from
scope_end s n l ls e = ap (λ b. cond b s (scope_from (with_line s n (parts_of l)) (n + 1) ls)) e

-- any other line adds its label and its instruction
pub scope_more : (s : Scope) (n : ℕ) (l : List ℕ) (ls : List (List ℕ)) → begins_thread (parts_of l).head ≡ false → scope_from s n (l ∷ ls) ≡ scope_from (with_line s n (parts_of l)) (n + 1) ls
unfolding scope_from
scope_more s n l ls e = ap (λ b. cond b s (scope_from (with_line s n (parts_of l)) (n + 1) ls)) e

-- the same, for the text whose first line it is, and the parts that were read
pub text_end : (s t : Scope) (n : ℕ) (p : Parts) (text l after : List ℕ) → p ≡ parts_of l → lines_of text ≡ l ∷ lines_of after → begins_thread p.head ≡ true → scope_from s n (lines_of text) ≡ t → s ≡ t
text_end s t n p text l after e f b same =
    sym (scope_end s n l (lines_of after) (ap (λ (q : Parts). begins_thread q.head) (sym e) ∙ b)) ∙ ap (scope_from s n) (sym f) ∙ same

pub text_more : (s s' t : Scope) (n : ℕ) (p : Parts) (text l after : List ℕ) → p ≡ parts_of l → lines_of text ≡ l ∷ lines_of after → begins_thread p.head ≡ false → s' ≡ with_line s n p
    → scope_from s n (lines_of text) ≡ t → scope_from s' (n + 1) (lines_of after) ≡ t
text_more s s' t n p text l after e f b g same =
    ap (λ x. scope_from x (n + 1) (lines_of after)) (g ∙ ap (with_line s n) e)
    ∙ sym (scope_more s n l (lines_of after) (ap (λ (q : Parts). begins_thread q.head) (sym e) ∙ b)) ∙ ap (scope_from s n) (sym f) ∙ same

-- past the last line
pub text_done : (s t : Scope) (n : ℕ) (text : List ℕ) → length text ≡ 0 → scope_from s n (lines_of text) ≡ t → s ≡ t
text_done s t n [] e same = sym (scope_done s n) ∙ same
text_done s t n (b ∷ bs) e same = absurd (omega arith)
