-- The pairs of all words.
use Rattle.std.proofs.Common.{◌≡◌, ℕ, zero, suc, ◌+◌, ◌≤◌, false, List, [], ◌∷◌, ◌++◌, length, map, take, refl, sym, ◌∙◌, ap, subst, arith}
use Rattle.std.specs.Prelude.{filter, Option, None, MatchOption}
use Rattle.std.specs.List.{flat_map, range_with_len}
use Rattle.std.proofs.lemmas.List.{length-append}
use Rattle.std.proofs.lemmas.List.Sums.{sum_by-append}
use Rattle.plain_search.specs.declared.Edge.{Edge}
use Rattle.plain_search.specs.Edges.{is_acyclic}
use Rattle.plain_search.specs.Searches as abstract
use Rattle.plain_search.specs.Searches.{is_open}
use Rattle.plain_search.specs.Openness.{is_forced, is_stuck}
use Rattle.plain_search.proofs.Decided.{counted, cyclic_is_stuck, cyclic-shut}
use Rattle.order_graph.specs.Graphs.{GraphState}
use Rattle.replay_model.specs.Logs.{Log}
use Rattle.constraints.specs.Constraints.{pair_of, pairs_at, pairs_of, sources_of}
use Rattle.constraints.specs.SideEdges.{pair_count}
use Rattle.constraints.proofs.Naming.{flat_map_range_more}
use Rattle.constraints.proofs.Points.{count-all}
use Rattle.races.specs.declared.open.Open.{Open}
use Rattle.races.specs.declared.pair.Pair.{Pair}
use Rattle.races.specs.declared.tally.Tally.{Tally}
use Rattle.races.specs.Shut.{base_edges}
use Rattle.races.specs.Openings.{IsTally, IsOpen, both, couples, open_at, is_open_couple, pair_at}
use Rattle.races.proofs.Ranges.{bit}
use Rattle.races.proofs.Listing.{take-twice}
use Rattle.races.proofs.Totals.{pairs-number}

-- the pairs of so many words
abbrev pub pairs_below : Log → ℕ → List abstract.Pair
pairs_below log n = flat_map (pairs_at log) (range_with_len 0 n)

pub pairs-all : (log : Log) (n : ℕ) → n ≡ length log.last_tags → pairs_below log n ≡ pairs_of log
unfolding pairs_of
pairs-all log n e = ap (pairs_below log) e

abbrev pub open_below : Log → ℕ → List Pair
open_below log n = flat_map (open_at log) (range_with_len 0 n)

-- how many pairs one more word has
pub number-more : (log : Log) (n total sources : ℕ) → total ≡ length (pairs_below log n) → sources ≡ length (sources_of log n) → total + pair_count sources ≡ length (pairs_below log (n + 1))
number-more log n total sources e q =
    let a = ap (λ (xs : List abstract.Pair). length xs) (flat_map_range_more (pairs_at log) n) in
    let b = length-append (pairs_below log n) (pairs_at log n) in
    let c = pairs-number log n in
    let d = ap pair_count q in
    omega (arith, a, b, c, d, e)

tally-join : (edges : List Edge) (xs ys : List abstract.Pair) (one other : Tally) → IsTally edges xs one → IsTally edges ys other → IsTally edges (xs ++ ys) (both one other)
tally-join edges xs ys one other p q = record {
  pairs = (let a = length-append xs ys in let b = p.pairs in let c = q.pairs in omega (arith, a, b, c));
  left_open = (let a = sum_by-append (λ x. bit (is_open edges x)) xs ys in let b = p.left_open in let c = q.left_open in omega (arith, a, b, c));
  forced = (let a = sum_by-append (λ x. bit (is_forced edges x)) xs ys in let b = p.forced in let c = q.forced in omega (arith, a, b, c));
  stuck = (let a = sum_by-append (λ x. bit (is_stuck edges x)) xs ys in let b = p.stuck in let c = q.stuck in omega (arith, a, b, c));
}

pub tally-more : (log : Log) (n : ℕ) (one other new : Tally) → IsTally (base_edges log) (pairs_below log n) one → IsTally (base_edges log) (pairs_at log n) other → new ≡ both one other →
    IsTally (base_edges log) (pairs_below log (n + 1)) new
tally-more log n one other new p q e =
    subst (IsTally (base_edges log) (pairs_below log (n + 1))) (sym e)
    (subst (λ xs. IsTally (base_edges log) xs (both one other)) (sym (flat_map_range_more (pairs_at log) n)) (tally-join (base_edges log) (pairs_below log n) (pairs_at log n) one other p q))

-- there are no more of a kind than there are
pub record IsSmall (tally : Tally) : Type 0 where
  pub left_open : tally.left_open ≤ tally.pairs
  pub forced : tally.forced ≤ tally.pairs
  pub stuck : tally.stuck ≤ tally.pairs

pub tally-small : (edges : List Edge) (xs : List abstract.Pair) (tally : Tally) → IsTally edges xs tally → IsSmall tally
tally-small edges xs tally t =
    let k = counted edges xs in
    let a = t.pairs in
    let b = t.left_open in
    let c = t.forced in
    let d = t.stuck in
    record { left_open = omega (arith, k, a, b); forced = omega (arith, k, a, c); stuck = omega (arith, k, a, d) }

pub list-more : (log : Log) (n most : ℕ) (xs new : List Pair) → xs ≡ take most (open_below log n) → new ≡ take most (xs ++ open_at log n) → new ≡ take most (open_below log (n + 1))
list-more log n most xs new e q =
    q ∙ ap (λ ys. take most (ys ++ open_at log n)) e ∙ take-twice most (open_below log n) (open_at log n) ∙ ap (take most) (sym (flat_map_range_more (open_at log) n))

pub all-open : (log : Log) (n most : ℕ) (tally : Tally) (result : Open) → n ≡ length log.last_tags → IsTally (base_edges log) (pairs_below log n) tally → result.first.items ≡ take most (open_below log n) →
    result.pairs ≡ tally.pairs → result.left_open ≡ tally.left_open → result.forced ≡ tally.forced → result.stuck ≡ tally.stuck → IsOpen log most result
all-open log n most tally result e t l a b c d =
    let s : IsTally (base_edges log) (pairs_of log) tally = subst (λ xs. IsTally (base_edges log) xs tally) (pairs-all log n e) t in
    record {
      pairs = a ∙ s.pairs;
      left_open = b ∙ s.left_open;
      forced = c ∙ s.forced;
      stuck = d ∙ s.stuck;
      first = l ∙ ap (λ k. take most (open_below log k)) e;
    }

-- where the base edges have a cycle all are stuck
cyclic-closed : (log : Log) (word : ℕ) (couple : ℕ × ℕ) → is_acyclic (base_edges log) ≡ false → is_open_couple log word couple ≡ false
cyclic-closed log word couple c = let e = cyclic-shut (base_edges log) (pair_of log word couple.0 couple.1).lesser c in rw e refl

cyclic-none : (log : Log) (word : ℕ) → is_acyclic (base_edges log) ≡ false → open_at log word ≡ []
cyclic-none log word c = ap (map (pair_at log word)) (none (couples (sources_of log word)))
  where
    none : (xs : List (ℕ × ℕ)) → filter (is_open_couple log word) xs ≡ []
    none [] = refl
    none (x ∷ xs) = let e = cyclic-closed log word x c in rw e (none xs)

cyclic-list : (log : Log) (words : List ℕ) → is_acyclic (base_edges log) ≡ false → flat_map (open_at log) words ≡ []
cyclic-list log [] c = refl
cyclic-list log (w ∷ words) c = ap (λ xs. xs ++ flat_map (open_at log) words) (cyclic-none log w c) ∙ cyclic-list log words c

take-none : (n : ℕ) → [] ≡ take {A = Pair} n []
take-none zero = refl
take-none (suc n) = refl

pub cyclic-open : (log : Log) (most : ℕ) (result : Open) → is_acyclic (base_edges log) ≡ false → result.pairs ≡ length (pairs_of log) → result.left_open ≡ 0 → result.forced ≡ 0 → result.stuck ≡ result.pairs →
    result.first.items ≡ [] → IsOpen log most result
cyclic-open log most result c p a b d e =
    let k = counted (base_edges log) (pairs_of log) in
    let s = count-all (is_stuck (base_edges log)) (pairs_of log) (λ x m. cyclic_is_stuck (base_edges log) x c) in
    record {
      pairs = p;
      left_open = omega (arith, k, s, a);
      forced = omega (arith, k, s, b);
      stuck = omega (arith, s, d, p);
      first = e ∙ take-none most ∙ ap (take most) (sym (cyclic-list log (range_with_len 0 (length log.last_tags)) c));
    }

-- the base edges have a cycle where there is no graph of them
pub none-cyclic : (edges : List Edge) (P : GraphState → Type 0) (found : Option GraphState) → MatchOption found (is_acyclic edges ≡ false) P → found ≡ None → is_acyclic edges ≡ false
none-cyclic edges P found h e = subst (λ (x : Option GraphState). MatchOption x (is_acyclic edges ≡ false) P) e h
