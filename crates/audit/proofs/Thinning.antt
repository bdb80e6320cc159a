-- The pairs of a placing are all pairs of writes without those that ask for nothing.
use Rattle.std.proofs.Common.{◌≡◌, ℕ, Bool, true, false, cond, List, [], ◌∷◌, length, map, refl, sym, subst, inl, inr, ◌⊎◌}
use Rattle.std.specs.Prelude.{filter}
use Rattle.std.specs.List.{flat_map, range_with_len}
use Rattle.std.proofs.lemmas.Bool.{cases_Bool}
use Rattle.plain_search.specs.Searches.{Pair, problem_of}
use Rattle.replay_model.specs.Steps.{Step}
use Rattle.replay_model.specs.Logs.{Log}
use Rattle.constraints.specs.Constraints.{pairs_among}
use Rattle.audit_laws.specs.IdlePairs.{idle, IsThinned}
use Rattle.audit_laws.proofs.IdlePairs.{idle_same, thin-append}
use Rattle.order_solver.specs.Rivals.{pairs_where}
use Rattle.audit.specs.Constraints.{writes_to, pair_of, one_is_read, pairs_at, pairs_of, pair_or_idle, pairs_with_idle, placing_problem}
use Rattle.audit.specs.PlacingLaws.{IdlePairsMayStay}

module _ (test : ℕ → ℕ → Bool) (pair : ℕ → ℕ → Pair) where
  -- a row of pairs
  row : (s : ℕ) (ts : List ℕ) → IsThinned (map (λ t. cond (test s t) (pair s t) (idle s)) ts) (map (pair s) (filter (test s) ts))
  row s [] = refl
  row s (t ∷ ts) = go (cases_Bool (test s t)) (row s ts)
    where
      go : (test s t ≡ true) ⊎ (test s t ≡ false) → IsThinned (map (λ t. cond (test s t) (pair s t) (idle s)) ts) (map (pair s) (filter (test s) ts)) →
          IsThinned (cond (test s t) (pair s t) (idle s) ∷ map (λ t. cond (test s t) (pair s t) (idle s)) ts) (map (pair s) (cond (test s t) (t ∷ filter (test s) ts) (filter (test s) ts)))
      go (inl h) rest =
          let P : Bool → Type 0 = λ b. IsThinned (cond b (pair s t) (idle s) ∷ map (λ t. cond (test s t) (pair s t) (idle s)) ts) (map (pair s) (cond b (t ∷ filter (test s) ts) (filter (test s) ts))) in
          subst P (sym h) (inr (map (pair s) (filter (test s) ts), refl, rest))
      go (inr h) rest =
          let P : Bool → Type 0 = λ b. IsThinned (cond b (pair s t) (idle s) ∷ map (λ t. cond (test s t) (pair s t) (idle s)) ts) (map (pair s) (cond b (t ∷ filter (test s) ts) (filter (test s) ts))) in
          subst P (sym h) (inl (s, refl, rest))

  -- the pairs of a list
  among : (xs : List ℕ) → IsThinned (pairs_among (λ s t. cond (test s t) (pair s t) (idle s)) xs) (pairs_where test pair xs)
  among [] = refl
  among (s ∷ xs) = thin-append (map (λ t. cond (test s t) (pair s t) (idle s)) xs) (map (pair s) (filter (test s) xs))
      (pairs_among (λ s t. cond (test s t) (pair s t) (idle s)) xs) (pairs_where test pair xs) (row s xs) (among xs)

-- those of several words
words : (log : Log) (runs : List (List Step)) (ws : List ℕ) →
    IsThinned (flat_map (λ word. pairs_among (pair_or_idle log runs) (writes_to log runs word)) ws) (flat_map (pairs_at log runs) ws)
words log runs [] = refl
words log runs (w ∷ ws) = thin-append (pairs_among (pair_or_idle log runs) (writes_to log runs w)) (pairs_at log runs w)
    (flat_map (λ word. pairs_among (pair_or_idle log runs) (writes_to log runs word)) ws) (flat_map (pairs_at log runs) ws)
    (among (one_is_read log runs) (pair_of log runs) (writes_to log runs w)) (words log runs ws)

pub idle_pairs_may_stay : IdlePairsMayStay
unfolding pairs_of pairs_with_idle
idle_pairs_may_stay log runs =
    idle_same (problem_of (placing_problem log runs).edges (pairs_with_idle log runs)) (pairs_of log runs) (words log runs (range_with_len 0 (length log.last_tags)))
