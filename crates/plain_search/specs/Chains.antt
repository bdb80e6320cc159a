-- Chains: numbers that stand one before the next, thread after thread.
use Rattle.std.specs.Prelude.{ℕ, zero, suc, ◌+◌, ◌-◌, List, [], ◌∷◌, ◌++◌}
use Rattle.plain_search.specs.declared.Edge.{Edge}

abbrev pub arrow : ℕ → ℕ → Edge
arrow u v = record { from = u; to = v }

-- so many edges from number n on, each to the next number
abbrev pub links : ℕ → ℕ → List Edge
links n zero = []
links n (suc count) = arrow n (n + 1) ∷ links (n + 1) count

-- the chains of threads with so many numbers each, from number n on
abbrev pub chains_from : ℕ → List ℕ → List Edge
chains_from n [] = []
chains_from n (count ∷ counts) = links n (count - 1) ++ chains_from (n + count) counts
