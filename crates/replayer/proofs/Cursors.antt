-- The steps whose writes are made, as the thread goes on.
use Rattle.std.proofs.Common.{◌≡◌, ℕ, zero, suc, ◌+◌, ◌<◌, Bool, true, false, List, [], ◌∷◌, refl, sym, ◌∙◌, subst, arith, inl, inr, ◌⊎◌}
use Rattle.std.specs.Prelude.{◌≢◌, slice_index, Contains, drop}
use Rattle.std.specs.List.Sorted.{IsStrictlyIncreasing}
use Rattle.std.proofs.lemmas.Bool.{eq-eqb, ne_eqb, cases_eq, cond-true, cond-false}
use Rattle.replay_model.specs.Logs.{Log}
use Rattle.replay_model.specs.Events.{keeps}
use Rattle.replayer.specs.KeptSteps.{begins_with, past, event_at, AreLeft}

-- a rise goes on behind its first number
rise-rest : (n m : ℕ) (steps : List ℕ) → IsStrictlyIncreasing (n ∷ m ∷ steps) → IsStrictlyIncreasing (m ∷ steps)
rise-rest n m steps rise k l =
    let z : k + 1 + 1 ≡ suc (k + 1) = omega arith in
    let y : k + 1 ≡ suc k = omega arith in
    let Q : ℕ → Type 0 = λ (j : ℕ). slice_index (n ∷ m ∷ steps) j < slice_index (m ∷ steps) (k + 1) in
    let P : ℕ → Type 0 = λ (j : ℕ). slice_index (n ∷ m ∷ steps) (k + 1) < slice_index (n ∷ m ∷ steps) j in
    subst Q y (subst P z (rise (k + 1) (omega arith)))

-- with another number in front that is less than the second
rise-front : (n x m : ℕ) (steps : List ℕ) → x < m → IsStrictlyIncreasing (n ∷ m ∷ steps) → IsStrictlyIncreasing (x ∷ m ∷ steps)
rise-front n x m steps l rise zero h = l
rise-front n x m steps l rise (suc k) h =
    let z : suc k + 1 ≡ suc (k + 1) = omega arith in
    let P : ℕ → Type 0 = λ (j : ℕ). slice_index (n ∷ m ∷ steps) (suc k) < slice_index (n ∷ m ∷ steps) j in
    let Q : ℕ → Type 0 = λ (j : ℕ). slice_index (x ∷ m ∷ steps) (suc k) < slice_index (x ∷ m ∷ steps) j in
    let r : slice_index (m ∷ steps) k < slice_index (m ∷ steps) (k + 1) = subst P z (rise (suc k) h) in
    subst Q (sym z) r

-- each later number is greater than the first
rise-above : (steps : List ℕ) (n m : ℕ) → IsStrictlyIncreasing (n ∷ steps) → Contains steps m → n < m
rise-above [] n m rise (k, l, at) = absurd (omega arith)
rise-above (x ∷ steps) n m rise (zero, l, at) = let r = rise 0 (omega arith) in omega (arith, r, at)
rise-above (x ∷ steps) n m rise (suc k, l, at) =
    let r = rise 0 (omega arith) in
    let h = rise-above steps x m (rise-rest n x steps rise) (k, omega arith, at) in
    omega (arith, r, h)

-- a number of steps behind the first one
later : (m n : ℕ) (steps : List ℕ) → m ≢ n → Contains (n ∷ steps) m → Contains steps m
later m n steps ne (zero, l, at) = absurd (ne (sym at))
later m n steps ne (suc k, l, at) = (k, omega arith, at)

earlier : (m n : ℕ) (steps : List ℕ) → Contains steps m → Contains (n ∷ steps) m
earlier m n steps (k, l, at) = (suc k, omega arith, at)

false-unless : (b : Bool) → (b ≡ true → ⊥) → b ≡ false
false-unless true h = absurd (h refl)
false-unless false h = refl

-- what is told of the next step, and what is left after it
pub record Advances (log : Log) (t n : ℕ) (steps : List ℕ) : Type 0 where
  pub tells : begins_with (n + 1) steps ≡ keeps log (event_at t (n + 1))
  pub left : AreLeft log t (n + 1) (past (n + 1) steps)

-- the next step is none of those left
passes : (log : Log) (t n : ℕ) (steps : List ℕ) → AreLeft log t n steps → IsStrictlyIncreasing ((n + 1) ∷ steps) → begins_with (n + 1) steps ≡ false → Advances log t n steps
passes log t n steps is rising other = record {
  tells = other ∙ sym (false-unless (keeps log (event_at t (n + 1))) (λ k. absurd (let l = rise-above steps (n + 1) (n + 1) rising ((is.named (n + 1) (omega arith)).1 k) in omega arith)));
  left = subst (AreLeft log t (n + 1)) (sym (cond-false (begins_with (n + 1) steps) (drop 1 steps) steps other)) (record { rising = rising; named = λ m above. is.named m (omega arith) });
}

-- it is the first of them
takes : (log : Log) (t n x : ℕ) (steps : List ℕ) → AreLeft log t n (x ∷ steps) → x ≡ n + 1 → Advances log t n (x ∷ steps)
takes log t n x steps is e = record {
  tells = eq-eqb x (n + 1) e ∙ sym ((is.named (n + 1) (omega arith)).0 (zero, omega arith, e));
  left = subst (AreLeft log t (n + 1)) (sym (cond-true (begins_with (n + 1) (x ∷ steps)) (drop 1 (x ∷ steps)) (x ∷ steps) (eq-eqb x (n + 1) e))) (record {
    rising = subst (λ (y : ℕ). IsStrictlyIncreasing (y ∷ steps)) e (rise-rest n x steps is.rising);
    named = λ m above. (λ has. (is.named m (omega arith)).0 (earlier m x steps has), λ k. later m x steps (λ same. absurd (omega arith)) ((is.named m (omega arith)).1 k));
  });
}

pub left-step : (log : Log) (t n : ℕ) (steps : List ℕ) → AreLeft log t n steps → Advances log t n steps
left-step log t n [] is = passes log t n [] is (λ k l. absurd (omega arith)) refl
left-step log t n (x ∷ steps) is = go (cases_eq x (n + 1))
  where
    go : (x ≡ n + 1) ⊎ (x ≡ n + 1 → ⊥) → Advances log t n (x ∷ steps)
    go (inl e) = takes log t n x steps is e
    go (inr ne) =
        let r = is.rising 0 (omega arith) in
        passes log t n (x ∷ steps) is (rise-front n (n + 1) x steps (let d : x ≢ n + 1 = ne in omega arith) is.rising) (ne_eqb x (n + 1) ne)
