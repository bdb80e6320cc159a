-- What a cut of a list holds.
use Rattle.std.proofs.Common.{◌≡◌, ℕ, ◌+◌, ◌-◌, ◌<◌, ◌≤◌, List, length, get_or, map, drop, sym, ◌∙◌, ap, subst, arith}
use Rattle.std.specs.Prelude.{Contains}
use Rattle.std.specs.List.{range_with_len, AllPairs}
use Rattle.std.proofs.lemmas.List.{length-take, length-drop, get_or-take, get_or-drop, same_lists}
use Rattle.std.proofs.lemmas.List.FromFn.{length-map-range_with_len, get_or-map-range_with_len}
use Rattle.constraints.specs.Rows.{cut}

pub cut-length : (items : List ℕ) (a b : ℕ) → a ≤ b → b ≤ length items → length (cut items a b) ≡ b - a
cut-length items a b l m =
    let x = length-take (b - a) (drop a items) in
    let y = length-drop a items in
    omega (arith, x, y)

pub cut-at : (items : List ℕ) (a b i d : ℕ) → i < b - a → get_or (cut items a b) i d ≡ get_or items (a + i) d
cut-at items a b i d l = get_or-take (b - a) (drop a items) i d l ∙ get_or-drop a items i d

pub of_cut : (items : List ℕ) (a b x : ℕ) → a ≤ b → b ≤ length items → Contains (cut items a b) x → (k : ℕ) × (a ≤ k) × (k < b) × (get_or items k x ≡ x)
of_cut items a b x l m (i, n, e) =
    let q = cut-length items a b l m in
    let s : i < b - a = omega (arith, n, q) in
    (a + i, omega arith, omega (arith, s), sym (cut-at items a b i x s) ∙ e)

pub in_cut : (items : List ℕ) (a b x k : ℕ) → a ≤ b → b ≤ length items → a ≤ k → k < b → get_or items k x ≡ x → Contains (cut items a b) x
in_cut items a b x k l m p q e =
    let n = cut-length items a b l m in
    let s : k - a < b - a = omega (arith, p, q) in
    let r : a + (k - a) ≡ k = omega (arith, p) in
    (k - a, omega (arith, s, n), cut-at items a b (k - a) x s ∙ ap (λ j. get_or items j x) r ∙ e)

-- what holds of all pairs in the cut's range holds in the cut
pub cut-pairs : (R : ℕ → ℕ → Type 0) (items : List ℕ) (a b : ℕ) → a ≤ b → b ≤ length items →
    ((i j d : ℕ) → a ≤ i → i < j → j < b → R (get_or items i d) (get_or items j d)) → AllPairs R (cut items a b)
cut-pairs R items a b l m h i j d p q =
    let n = cut-length items a b l m in
    let t : j < b - a = omega (arith, q, n) in
    let s : i < b - a = omega (arith, p, t) in
    let x = cut-at items a b i d s in
    let y = cut-at items a b j d t in
    let F : ℕ → Type 0 = λ v. R v (get_or (cut items a b) j d) in
    let G : ℕ → Type 0 = λ v. R (get_or items (a + i) d) v in
    subst F (sym x) (subst G (sym y) (h (a + i) (a + j) d (omega arith) (omega (arith, p)) (omega (arith, t))))

-- what is made of the numbers below n, one by one
pub same_map_range : {X : Type 0} (f g : ℕ → X) (n : ℕ) → ((i : ℕ) → i < n → f i ≡ g i) → map f (range_with_len 0 n) ≡ map g (range_with_len 0 n)
same_map_range f g n h = same_lists (map f (range_with_len 0 n)) (map g (range_with_len 0 n))
    (length-map-range_with_len f 0 n ∙ sym (length-map-range_with_len g 0 n))
    (λ k d l. let m : k < n = omega (arith, l, length-map-range_with_len f 0 n) in
    get_or-map-range_with_len f 0 n k k d m (omega arith) ∙ h k m ∙ sym (get_or-map-range_with_len g 0 n k k d m (omega arith)))
