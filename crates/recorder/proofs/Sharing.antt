-- The parts of workers, as elements come to them and leave them.
use Rattle.std.proofs.Common.{◌≡◌, ◌≢◌, ℕ, zero, suc, ◌+◌, ◌<◌, ◌%◌, Bool, true, false, cond, List, [], ◌∷◌, ◌++◌, map, length, replicate, refl, sym, ◌∙◌, ap, subst, arith, inl, inr, ◌⊎◌, zero-add}
use Rattle.std.specs.Prelude.{◌==◌, slice_index_or, slice_set, All}
use Rattle.std.specs.List.{filter, range_with_len}
use Rattle.std.proofs.lemmas.Bool.{cases_eq, eq-eqb, ne_eqb}
use Rattle.std.proofs.lemmas.List.{append-nil, length-set, get_or-set_same, get_or-set_other, same_lists}
use Rattle.std.proofs.lemmas.List.Elements.{filter-append, All-filter}
use Rattle.std.proofs.lemmas.List.FromFn.{length-map-range_with_len, get_or-map-range_with_len}
use Rattle.recorder.specs.Grouped.{share, shares}

module _ {X : Type 0} (number : X → ℕ) (workers : ℕ) where
  -- no element
  pub shares-nil : shares number workers [] ≡ replicate workers []
  shares-nil = go 0 workers
    where
      go : (a n : ℕ) → map (share number workers []) (range_with_len a n) ≡ replicate n []
      go a zero = refl
      go a (suc n) = ap (λ (l : List (List X)). [] ∷ l) (go (a + 1) n)

  pub shares-count : (xs : List X) → length (shares number workers xs) ≡ workers
  shares-count xs = length-map-range_with_len (share number workers xs) 0 workers

  -- the part of one worker
  pub shares-at : (xs : List X) (w : ℕ) (d : List X) → w < workers → slice_index_or (shares number workers xs) w d ≡ share number workers xs w
  shares-at xs w d l = get_or-map-range_with_len (share number workers xs) 0 workers w w d l (zero-add w)

  share-push : (xs : List X) (x : X) (w : ℕ) → share number workers (xs ++ x ∷ []) w ≡ share number workers xs w ++ cond (number x % workers == w) (x ∷ []) []
  share-push xs x w = filter-append (λ (y : X). number y % workers == w) xs (x ∷ [])

  -- one more element comes to its worker
  pub share-own : (xs : List X) (x : X) (w : ℕ) → w ≡ number x % workers → share number workers (xs ++ x ∷ []) w ≡ share number workers xs w ++ x ∷ []
  share-own xs x w e = share-push xs x w ∙ ap (λ (b : Bool). share number workers xs w ++ cond b (x ∷ []) []) (eq-eqb (number x % workers) w (sym e))

  share-other : (xs : List X) (x : X) (w : ℕ) → (number x % workers ≡ w → ⊥) → share number workers (xs ++ x ∷ []) w ≡ share number workers xs w
  share-other xs x w ne = share-push xs x w ∙ ap (λ (b : Bool). share number workers xs w ++ cond b (x ∷ []) []) (ne_eqb (number x % workers) w ne) ∙ append-nil (share number workers xs w)

  pub shares-push : (xs : List X) (x : X) (i : ℕ) → i ≡ number x % workers → i < workers →
      shares number workers (xs ++ x ∷ []) ≡ slice_set (shares number workers xs) i (share number workers xs i ++ x ∷ [])
  shares-push xs x i own there =
      same_lists (shares number workers (xs ++ x ∷ [])) (slice_set (shares number workers xs) i (share number workers xs i ++ x ∷ []))
      (shares-count (xs ++ x ∷ []) ∙ sym (length-set (shares number workers xs) i (share number workers xs i ++ x ∷ []) ∙ shares-count xs))
      (λ k d l. let n = shares-count (xs ++ x ∷ []) in go k d (omega (arith, n, l)) (cases_eq k i))
    where
      go : (k : ℕ) (d : List X) → k < workers → (k ≡ i) ⊎ (k ≢ i) → slice_index_or (shares number workers (xs ++ x ∷ [])) k d ≡ slice_index_or (slice_set (shares number workers xs) i (share number workers xs i ++ x ∷ [])) k d
      go k d l (inl e) =
          shares-at (xs ++ x ∷ []) k d l ∙ share-own xs x k (e ∙ own) ∙ ap (λ (w : ℕ). share number workers xs w ++ x ∷ []) e ∙
          sym (ap (λ (w : ℕ). slice_index_or (slice_set (shares number workers xs) i (share number workers xs i ++ x ∷ [])) w d) e ∙
          get_or-set_same (shares number workers xs) i (share number workers xs i ++ x ∷ []) d (let n = shares-count xs in omega (arith, n, there)))
      go k d l (inr ne) =
          shares-at (xs ++ x ∷ []) k d l ∙ share-other xs x k (λ e. ne (sym e ∙ sym own)) ∙
          sym (get_or-set_other (shares number workers xs) i k (share number workers xs i ++ x ∷ []) d ne ∙ shares-at xs k d l)

  -- a fact of each element
  pub shares-all : (P : X → Type 0) (xs : List X) → All P xs → All (λ part. All P part) (shares number workers xs)
  shares-all P xs all w d l =
      let n = shares-count xs in
      subst (λ (part : List X). All P part) (sym (shares-at xs w d (omega (arith, n, l)))) (All-filter (λ (x : X). number x % workers == w) P xs all)

-- the images of what a filter keeps
filter_image : {X Y : Type 0} (f : X → Y) (p : Y → Bool) (xs : List X) → map f (filter (λ (x : X). p (f x)) xs) ≡ filter p (map f xs)
filter_image f p [] = refl
filter_image {X} {Y} f p (x ∷ xs) = go (p (f x)) (filter_image f p xs)
  where
    go : (b : Bool) → map f (filter (λ (x : X). p (f x)) xs) ≡ filter p (map f xs) → map f (cond b (x ∷ filter (λ (x : X). p (f x)) xs) (filter (λ (x : X). p (f x)) xs)) ≡ cond b (f x ∷ filter p (map f xs)) (filter p (map f xs))
    go true rest = ap (λ (l : List Y). f x ∷ l) rest
    go false rest = rest

-- the images of the parts
pub shares-image : {X Y : Type 0} (f : X → Y) (number : Y → ℕ) (workers : ℕ) (xs : List X) → map (map f) (shares (λ (x : X). number (f x)) workers xs) ≡ shares number workers (map f xs)
shares-image {X} {Y} f number workers xs = go 0 workers
  where
    go : (a n : ℕ) → map (map f) (map (share (λ (x : X). number (f x)) workers xs) (range_with_len a n)) ≡ map (share number workers (map f xs)) (range_with_len a n)
    go a zero = refl
    go a (suc n) = (λ i. filter_image f (λ (y : Y). number y % workers == a) xs i ∷ go (a + 1) n i)
