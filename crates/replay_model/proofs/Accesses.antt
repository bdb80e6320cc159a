-- The steps as they are told, after one more.
use Rattle.std.proofs.Common.{◌≡◌, ℕ, suc, ◌+◌, List, [], ◌∷◌, ◌++◌, length, ◌∙◌, ap, arith}
use Rattle.replay_model.specs.Steps.{Access, Step, access_of, accesses_from}

pub accesses_from-push : (n : ℕ) (steps : List Step) (step : Step) → accesses_from n (steps ++ step ∷ []) ≡ accesses_from n steps ++ access_of (n + length steps) step ∷ []
accesses_from-push n [] step = let z : n ≡ n + 0 = omega arith in ap (λ (k : ℕ). access_of k step ∷ []) z
accesses_from-push n (s ∷ steps) step =
    let z : (n + 1) + length steps ≡ n + suc (length steps) = omega arith in
    ap (λ (a : List Access). access_of n s ∷ a)
    (accesses_from-push (n + 1) steps step ∙ ap (λ (k : ℕ). accesses_from (n + 1) steps ++ access_of k step ∷ []) z)
