-- The edges of the longer sides of rival pairs, counted by the sources' numbers of last reads.
use Rattle.std.specs.Prelude.{ℕ, ◌+◌, ◌-◌, ◌*◌, ◌/◌, Bool, ◌&&◌, ◌||◌, ◌==◌, nat_lt, nat_le, max, List, [], ◌∷◌, length}
use Rattle.std.specs.List.{sum_by, count_by, list_any}
use Rattle.replay_model.specs.Logs.{Log}
use Rattle.constraints.specs.Constraints.{sources_of, last_reads_from}

-- how many pairs so many things make
abbrev pub pair_count : ℕ → ℕ
pair_count n = n * (n - 1) / 2

-- the sum over each of a list with each later one
abbrev pub sum_pairs : (ℕ → ℕ → ℕ) → List ℕ → ℕ
sum_pairs f [] = 0
sum_pairs f (s ∷ sources) = sum_by (f s) sources + sum_pairs f sources

abbrev pub has : List ℕ → ℕ → Bool
has xs n = list_any (λ x. x == n) xs

-- how many of the sources have at most so many last reads
abbrev pub count_up_to : (ℕ → List ℕ) → List ℕ → ℕ → ℕ
count_up_to last_reads sources most = count_by (λ s. nat_le (length (last_reads s)) most) sources

-- the last reads of one of two sources, the one that has more
abbrev pub more_reads : (ℕ → List ℕ) → ℕ → ℕ → ℕ
more_reads last_reads s t = max (length (last_reads s)) (length (last_reads t))

-- whether source t, where it is a last read of source s, takes an edge from the longer side of the two; each of them is given with its
-- last reads. Where both sides lose an edge to the other source, the lesser one takes it
abbrev pub shortens : List ℕ → ℕ → List ℕ → ℕ → Bool
shortens reads s others t = nat_lt (length others) (length reads) || ((length others == length reads) && (nat_lt s t && has others s))

-- how many of the last reads of source s are sources too that do so
abbrev pub shortening : (ℕ → List ℕ) → List ℕ → ℕ → ℕ
shortening last_reads sources s = count_by (λ t. has sources t && shortens (last_reads s) s (last_reads t) t) (last_reads s)
