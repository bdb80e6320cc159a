-- The first element of a list that passes a test.
use Rattle.std.proofs.Common.{◌≡◌, ℕ, ◌<◌, ◌≤◌, Bool, true, false, Some, None, List, length, get_or, refl, sym, ◌∙◌, ap, arith, inl, inr, ◌⊎◌}
use Rattle.std.specs.Prelude.{position, nat_lt}
use Rattle.std.specs.List.{enumerate_from, position_or_len}
use Rattle.std.proofs.lemmas.Bool.{cases_lt, lt-ltb, le-ltb}
use Rattle.std.proofs.lemmas.List.FromFn.{get_or-enumerate_from, length-enumerate_from}
use Rattle.std.proofs.lemmas.List.Sums.{position_or_len_is, fails_before_first}

-- the element at k passes, and none before it
pub record IsFirst {X : Type 0} (p : X → Bool) (xs : List X) (d : X) (k : ℕ) : Type 0 where
  pub below : k < length xs
  pub passes : p (get_or xs k d) ≡ true
  pub before : (m : ℕ) → m < k → p (get_or xs m d) ≡ false

-- no element passes
abbrev pub NonePasses : {X : Type 0} → (X → Bool) → List X → X → Type 0
NonePasses p xs d = (m : ℕ) → m < length xs → p (get_or xs m d) ≡ false

pub first_place : {X : Type 0} (p : X → Bool) (xs : List X) (d : X) (k : ℕ) → IsFirst p xs d k → position_or_len p xs ≡ k
first_place p xs d k f = position_or_len_is p xs k d (let l = f.below in omega (arith, l)) f.before (λ l. f.passes)

pub first-position : {X : Type 0} (p : X → Bool) (xs : List X) (d : X) (k : ℕ) → IsFirst p xs d k → position p xs ≡ Some k
first-position p xs d k f =
    let e : position_or_len p xs ≡ k = first_place p xs d k f in
    let t : nat_lt k (length xs) ≡ true = lt-ltb k (length xs) f.below in
    rw (e, t) refl

pub none-position : {X : Type 0} (p : X → Bool) (xs : List X) (d : X) → NonePasses p xs d → position p xs ≡ None
none-position p xs d f =
    let e : position_or_len p xs ≡ length xs = position_or_len_is p xs (length xs) d (omega arith) f (λ l. absurd (omega (arith, l))) in
    let t : nat_lt (length xs) (length xs) ≡ false = le-ltb (length xs) (length xs) (omega arith) in
    rw (e, t) refl

-- where there is no first one, none passes
pub position-none : {X : Type 0} (p : X → Bool) (xs : List X) (d : X) → position p xs ≡ None → NonePasses p xs d
position-none p xs d h m l = go (cases_lt (position_or_len p xs) (length xs))
  where
    go : (position_or_len p xs < length xs) ⊎ (length xs ≤ position_or_len p xs) → p (get_or xs m d) ≡ false
    go (inl k) = let t : nat_lt (position_or_len p xs) (length xs) ≡ true = lt-ltb (position_or_len p xs) (length xs) k in absurd (some (rw t at h))
      where
        some : Some (position_or_len p xs) ≡ None → ⊥
        some e = cc
    go (inr k) = fails_before_first p xs m d (omega (arith, l, k))

-- the same for a test of elements with their numbers
pub record IsFirstAt {X : Type 0} (p : ℕ × X → Bool) (xs : List X) (d : X) (k : ℕ) : Type 0 where
  pub below : k < length xs
  pub passes : p (k, get_or xs k d) ≡ true
  pub before : (m : ℕ) → m < k → p (m, get_or xs m d) ≡ false

abbrev pub NonePassesAt : {X : Type 0} → (ℕ × X → Bool) → List X → X → Type 0
NonePassesAt p xs d = (m : ℕ) → m < length xs → p (m, get_or xs m d) ≡ false

numbered : {X : Type 0} (xs : List X) (d : X) (k : ℕ) → k < length xs → get_or (enumerate_from 0 xs) k (0, d) ≡ (k, get_or xs k d)
numbered {X} xs d k l = get_or-enumerate_from 0 xs k (0, d) l ∙ ap (λ (n : ℕ). (n, get_or xs k d)) (omega arith)

pub first_at-position : {X : Type 0} (p : ℕ × X → Bool) (xs : List X) (d : X) (k : ℕ) → IsFirstAt p xs d k → position p (enumerate_from 0 xs) ≡ Some k
first_at-position p xs d k f = first-position p (enumerate_from 0 xs) (0, d) k (record {
  below = let l = f.below in let c = length-enumerate_from 0 xs in omega (arith, l, c);
  passes = ap p (numbered xs d k f.below) ∙ f.passes;
  before = λ m l. ap p (numbered xs d m (let k = f.below in omega (arith, l, k))) ∙ f.before m l;
})

pub none_at-position : {X : Type 0} (p : ℕ × X → Bool) (xs : List X) (d : X) → NonePassesAt p xs d → position p (enumerate_from 0 xs) ≡ None
none_at-position p xs d f = none-position p (enumerate_from 0 xs) (0, d) (λ m l. let c = length-enumerate_from 0 xs in let k : m < length xs = omega (arith, l, c) in ap p (numbered xs d m k) ∙ f m k)

pub position-none_at : {X : Type 0} (p : ℕ × X → Bool) (xs : List X) (d : X) → position p (enumerate_from 0 xs) ≡ None → NonePassesAt p xs d
position-none_at p xs d h m l =
    sym (ap p (numbered xs d m l)) ∙ position-none p (enumerate_from 0 xs) (0, d) h m (let c = length-enumerate_from 0 xs in omega (arith, l, c))
