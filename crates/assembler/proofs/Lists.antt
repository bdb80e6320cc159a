-- The canonical text, one line after the other.
use Rattle.std.proofs.Common.{◌≡◌, ℕ, ◌+◌, ◌<◌, ◌≤◌, List, [], ◌∷◌, ◌++◌, length, get_or, take, drop, flat_map, All, refl, sym, ap, subst, ◌∙◌, append_assoc}
use Rattle.std.proofs.lemmas.List.{take_all, drop_more, drop_all, append-nil}
use Rattle.assembler.specs.Canonical.{init_text, init_lines}

pub lines_of_word : (n v : ℕ) (vs : List ℕ) → init_lines n (v ∷ vs) ≡ init_text n v ++ init_lines (n + 1) vs
unfolding init_lines
lines_of_word n v vs = refl

-- the next word's line, and those of the words after it
pub init_lines_more : (xs : List ℕ) (n v : ℕ) → n < length xs → v ≡ get_or xs n 0 → init_lines n (drop n xs) ≡ init_text n v ++ init_lines (n + 1) (drop (n + 1) xs)
init_lines_more xs n v h e = ap (init_lines n) (drop_more xs n 0 h) ∙ lines_of_word n (get_or xs n 0) (drop (n + 1) xs) ∙ ap (λ x. init_text n x ++ init_lines (n + 1) (drop (n + 1) xs)) (sym e)

-- past the last word there is none
pub init_lines_done : (xs : List ℕ) (n : ℕ) → length xs ≤ n → init_lines n (drop n xs) ≡ []
unfolding init_lines
init_lines_done xs n h = ap (init_lines n) (drop_all n xs h)

-- one more word is told
pub inits_more : (out new start : List ℕ) (xs : List ℕ) (n : ℕ) → n < length xs → new ≡ out ++ init_text n (get_or xs n 0) → out ++ init_lines n (drop n xs) ≡ start → new ++ init_lines (n + 1) (drop (n + 1) xs) ≡ start
inits_more out new start xs n h e f =
    ap (λ t. t ++ init_lines (n + 1) (drop (n + 1) xs)) e ∙ append_assoc out (init_text n (get_or xs n 0)) (init_lines (n + 1) (drop (n + 1) xs))
    ∙ ap (λ t. out ++ t) (sym (init_lines_more xs n (get_or xs n 0) h refl)) ∙ f

-- all words are told
pub inits_done : (out start : List ℕ) (xs : List ℕ) (n : ℕ) → length xs ≤ n → out ++ init_lines n (drop n xs) ≡ start → out ≡ start
inits_done out start xs n h e = sym (append-nil out) ∙ ap (λ t. out ++ t) (sym (init_lines_done xs n h)) ∙ e

-- what holds of each of so many items holds of all
pub all_taken : {X : Type 0} (P : X → Type 0) (xs : List X) (n : ℕ) → length xs ≤ n → All P (take n xs) → All P xs
all_taken P xs n h g = subst (All P) (take_all n xs h) g

-- one more item is written
pub item_more : {X : Type 0} (f : X → List ℕ) (out new start : List ℕ) (xs : List X) (n : ℕ) (d : X) → n < length xs → new ≡ out ++ f (get_or xs n d) → out ++ flat_map f (drop n xs) ≡ start → new ++ flat_map f (drop (n + 1) xs) ≡ start
item_more f out new start xs n d h e same =
    ap (λ t. t ++ flat_map f (drop (n + 1) xs)) e ∙ append_assoc out (f (get_or xs n d)) (flat_map f (drop (n + 1) xs))
    ∙ sym (ap (λ ys. out ++ flat_map f ys) (drop_more xs n d h)) ∙ same
