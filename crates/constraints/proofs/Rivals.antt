-- Which pairs are rival pairs.
use Rattle.std.proofs.Common.{◌≡◌, ℕ, ◌<◌, List, [], ◌∷◌, ◌++◌, length, map, subst, arith, inl, inr, ◌⊎◌}
use Rattle.std.specs.Prelude.{Contains}
use Rattle.std.specs.List.{range_with_len}
use Rattle.std.proofs.lemmas.List.Elements.{Contains-append_left, Contains-append_right, Contains-append_cases, All-contains}
use Rattle.replay_model.specs.Logs.{Log}
use Rattle.plain_search.specs.Searches.{Pair}
use Rattle.constraints.specs.Constraints.{is_source_of, sources_of, pair_of, pairs_among, pairs_of}
use Rattle.constraints.proofs.Members.{Rising, contains_none, contains_here, contains_next, contains_cases, of_map, in_map, of_flat_map, in_flat_map, in_range, AllPairs-head, AllPairs-tail}
use Rattle.constraints.proofs.Listed.{positions-rising}

pub of_among : (f : ℕ → ℕ → Pair) (xs : List ℕ) (p : Pair) → Rising xs → Contains (pairs_among f xs) p → (s : ℕ) × (t : ℕ) × Contains xs s × Contains xs t × (s < t) × (f s t ≡ p)
of_among f [] p r c = absurd (contains_none p c)
of_among f (x ∷ xs) p r c = go (of_among f xs p (AllPairs-tail (λ a b. a < b) x xs r)) (Contains-append_cases (map (f x) xs) (pairs_among f xs) p c)
  where
    go : (Contains (pairs_among f xs) p → (s : ℕ) × (t : ℕ) × Contains xs s × Contains xs t × (s < t) × (f s t ≡ p)) →
        Contains (map (f x) xs) p ⊎ Contains (pairs_among f xs) p → (s : ℕ) × (t : ℕ) × Contains (x ∷ xs) s × Contains (x ∷ xs) t × (s < t) × (f s t ≡ p)
    go ih (inl m) =
        let (t, d, e) = of_map (f x) xs p m in
        (x, t, contains_here x xs, contains_next x xs t d, All-contains (λ b. x < b) xs t (AllPairs-head (λ a b. a < b) x xs r) d, e)
    go ih (inr m) = let (s, t, d, e, l, q) = ih m in (s, t, contains_next x xs s d, contains_next x xs t e, l, q)

pub in_among : (f : ℕ → ℕ → Pair) (xs : List ℕ) (s t : ℕ) → Rising xs → Contains xs s → Contains xs t → s < t → Contains (pairs_among f xs) (f s t)
in_among f [] s t r c d l = absurd (contains_none s c)
in_among f (x ∷ xs) s t r c d l = go (in_among f xs s t (AllPairs-tail (λ a b. a < b) x xs r)) (contains_cases x xs s c) (contains_cases x xs t d)
  where
    above : (n : ℕ) → Contains xs n → x < n
    above n m = All-contains (λ b. x < b) xs n (AllPairs-head (λ a b. a < b) x xs r) m

    go : (Contains xs s → Contains xs t → s < t → Contains (pairs_among f xs) (f s t)) → (x ≡ s) ⊎ Contains xs s → (x ≡ t) ⊎ Contains xs t → Contains (map (f x) xs ++ pairs_among f xs) (f s t)
    go ih (inl e) (inl q) = absurd (omega (arith, l, e, q))
    go ih (inl e) (inr m) = Contains-append_left (map (f x) xs) (pairs_among f xs) (f s t)
        (let P : ℕ → Type 0 = λ k. Contains (map (f x) xs) (f k t) in subst P e (in_map (f x) xs t m))
    go ih (inr m) (inl q) = let k = above s m in absurd (omega (arith, l, k, q))
    go ih (inr m) (inr k) = Contains-append_right (map (f x) xs) (pairs_among f xs) (f s t) (ih m k l)

pub sources-rising : (log : Log) (word : ℕ) → Rising (sources_of log word)
unfolding sources_of
sources-rising log word = positions-rising log (is_source_of log word)

-- a rival pair is of two sources of a word
pub of_pairs : (log : Log) (p : Pair) → Contains (pairs_of log) p →
    (word : ℕ) × (s : ℕ) × (t : ℕ) × Contains (sources_of log word) s × Contains (sources_of log word) t × (s < t) × (pair_of log word s t ≡ p)
unfolding pairs_of
of_pairs log p c =
    let (word, m, d) = of_flat_map (λ word. pairs_among (pair_of log word) (sources_of log word)) (range_with_len 0 (length log.last_tags)) p c in
    let (s, t, a, b, l, q) = of_among (pair_of log word) (sources_of log word) p (sources-rising log word) d in
    (word, s, t, a, b, l, q)

pub in_pairs : (log : Log) (word s t : ℕ) → word < length log.last_tags → Contains (sources_of log word) s → Contains (sources_of log word) t → s < t → Contains (pairs_of log) (pair_of log word s t)
unfolding pairs_of
in_pairs log word s t w c d l =
    in_flat_map (λ word. pairs_among (pair_of log word) (sources_of log word)) (range_with_len 0 (length log.last_tags)) word (pair_of log word s t) (in_range 0 (length log.last_tags) word (omega arith) (omega (arith, w)))
    (in_among (pair_of log word) (sources_of log word) s t (sources-rising log word) c d l)
