-- Chains whose places rise, one after the other.
use Rattle.std.proofs.Common.{◌≡◌, ℕ, zero, suc, ◌+◌, ◌-◌, ◌<◌, ◌≤◌, ◌↔◌, List, ◌∷◌, ◌++◌, length, take, drop, sum, get_or, refl, sym, ◌∙◌, ap, subst, arith}
use Rattle.std.specs.Prelude.{All, slice_index}
use Rattle.std.proofs.lemmas.List.{get_or-take, get_or-drop, length-take-le, length-drop, drop-drop, drop_more, drop_all}
use Rattle.std.proofs.lemmas.List.Elements.{All-nil, All-cons, All-head, All-tail, All-append, All-contains, Contains-get_or, Contains-append_left, Contains-append_right}
use Rattle.std.proofs.lemmas.List.Sums.{sum_by-drop_more}
use Rattle.plain_search.specs.declared.Edge.{Edge}
use Rattle.plain_search.specs.Chains.{arrow, links, chains_from}
use Rattle.plain_search.specs.Edges.{Holds}

-- the chains before this one rise, and the others have their places in the rest
pub record AreRisen (counts places : List ℕ) (index : ℕ) (rest : List ℕ) : Type 0 where
  pub from : ℕ
  pub first : from + sum (drop index counts) ≤ length places
  pub left : rest ≡ drop from places
  pub risen : Holds (slice_index places) (chains_from from (drop index counts)) ↔ Holds (slice_index places) (chains_from 0 counts)

all-left : (P : Edge → Type 0) (xs ys : List Edge) → All P (xs ++ ys) → All P xs
all-left P xs ys h = λ k d l. All-contains P (xs ++ ys) (get_or xs k d) h (Contains-append_left xs ys (get_or xs k d) (Contains-get_or xs k d l))

all-right : (P : Edge → Type 0) (xs ys : List Edge) → All P (xs ++ ys) → All P ys
all-right P xs ys h = λ k d l. All-contains P (xs ++ ys) (get_or ys k d) h (Contains-append_right xs ys (get_or ys k d) (Contains-get_or ys k d l))

abbrev pub Rises : (ℕ → ℕ) → Edge → Type 0
Rises rank e = rank e.from < rank e.to

-- so many edges, each to the next number, hold where each of so many ranks is below the next
pub links-hold : (rank : ℕ → ℕ) (n m : ℕ) → ((i : ℕ) → i < m → rank (n + i) < rank (n + i + 1)) → Holds rank (links n m)
links-hold rank n zero h = All-nil (Rises rank)
links-hold rank n (suc m) h =
    All-cons (Rises rank) (arrow n (n + 1)) (links (n + 1) m)
    (let P : ℕ → Type 0 = λ k. rank k < rank (k + 1) in subst P (omega arith) (h 0 (omega arith)))
    (links-hold rank (n + 1) m (λ i l. let P : ℕ → Type 0 = λ k. rank k < rank (k + 1) in subst P (omega arith) (h (i + 1) (omega (arith, l)))))

pub hold-links : (rank : ℕ → ℕ) (n m : ℕ) → Holds rank (links n m) → (i : ℕ) → i < m → rank (n + i) < rank (n + i + 1)
hold-links rank n zero h i l = absurd (omega (arith, l))
hold-links rank n (suc m) h zero l =
    let P : ℕ → Type 0 = λ k. rank k < rank (k + 1) in
    subst P (omega arith) (All-head (Rises rank) (arrow n (n + 1)) (links (n + 1) m) h)
hold-links rank n (suc m) h (suc i) l =
    let P : ℕ → Type 0 = λ k. rank k < rank (k + 1) in
    subst P (omega arith) (hold-links rank (n + 1) m (All-tail (Rises rank) (arrow n (n + 1)) (links (n + 1) m) h) i (omega (arith, l)))

abbrev pub RisesHere : List ℕ → Type 0
RisesHere chain = (k : ℕ) → k + 1 < length chain → get_or chain k 0 < get_or chain (k + 1) 0

-- the chain with its places at the front of the rest rises where those places do
pub chain-links : (places rest : List ℕ) (from count : ℕ) → rest ≡ drop from places → count ≤ length rest → RisesHere (take count rest) ↔ Holds (slice_index places) (links from (count - 1))
chain-links places rest from count e fits = (to, back)
  where
    size : length (take count rest) ≡ count
    size = length-take-le count rest fits

    at : (k : ℕ) → k < count → get_or (take count rest) k 0 ≡ get_or places (from + k) 0
    at k l = get_or-take count rest k 0 l ∙ ap (λ (xs : List ℕ). get_or xs k 0) e ∙ get_or-drop from places k 0

    to : RisesHere (take count rest) → Holds (slice_index places) (links from (count - 1))
    to h = links-hold (slice_index places) from (count - 1)
        (λ i l.
        let a = at i (omega (arith, l)) in
        let b = at (i + 1) (omega (arith, l)) in
        let c = h i (omega (arith, l, size)) in
        let d : get_or places (from + (i + 1)) 0 ≡ get_or places (from + i + 1) 0 = ap (λ (n : ℕ). get_or places n 0) (omega arith) in
        omega (arith, a, b, c, d))

    back : Holds (slice_index places) (links from (count - 1)) → RisesHere (take count rest)
    back h k l =
        let a = at k (omega (arith, l, size)) in
        let b = at (k + 1) (omega (arith, l, size)) in
        let c = hold-links (slice_index places) from (count - 1) h k (omega (arith, l, size)) in
        let d : get_or places (from + (k + 1)) 0 ≡ get_or places (from + k + 1) 0 = ap (λ (n : ℕ). get_or places n 0) (omega arith) in
        omega (arith, a, b, c, d)

pub risen-none : (counts places : List ℕ) → sum counts ≤ length places → AreRisen counts places 0 places
risen-none counts places fits = record { from = 0; first = omega (arith, fits); left = refl; risen = (λ h. h, λ h. h) }

-- the next chain has its places at the front of the rest
pub risen-fits : (counts places : List ℕ) (index : ℕ) (rest : List ℕ) → AreRisen counts places index rest → index < length counts → get_or counts index 0 ≤ length rest
risen-fits counts places index rest r l =
    let s = sum_by-drop_more (λ (n : ℕ). n) counts index 0 l in
    let f = r.first in
    let e = ap length r.left ∙ length-drop r.from places in
    omega (arith, s, f, e)

-- the next chain rises too
pub risen-more : (counts places : List ℕ) (index : ℕ) (rest : List ℕ) → AreRisen counts places index rest → index < length counts → RisesHere (take (get_or counts index 0) rest) →
    AreRisen counts places (index + 1) (drop (get_or counts index 0) rest)
risen-more counts places index rest r l h = record {
  from = r.from + get_or counts index 0;
  first = let s = sum_by-drop_more (λ (n : ℕ). n) counts index 0 l in let f = r.first in omega (arith, s, f);
  left = ap (drop (get_or counts index 0)) r.left ∙ drop-drop (get_or counts index 0) r.from places;
  risen = (
    λ k. r.risen.0 (subst (λ (cs : List ℕ). Holds (slice_index places) (chains_from r.from cs)) (sym next) (All-append (Rises (slice_index places)) (links r.from (get_or counts index 0 - 1)) _ here k)),
    λ k. all-right (Rises (slice_index places)) (links r.from (get_or counts index 0 - 1)) _ (subst (λ (cs : List ℕ). Holds (slice_index places) (chains_from r.from cs)) next (r.risen.1 k)),
  );
}
  where
    next : drop index counts ≡ get_or counts index 0 ∷ drop (index + 1) counts
    next = drop_more counts index 0 l

    here : Holds (slice_index places) (links r.from (get_or counts index 0 - 1))
    here = (chain-links places rest r.from (get_or counts index 0) r.left (risen-fits counts places index rest r l)).0 h

-- the next chain does not rise
pub risen-not : (counts places : List ℕ) (index : ℕ) (rest : List ℕ) → AreRisen counts places index rest → index < length counts → (RisesHere (take (get_or counts index 0) rest) → ⊥) →
    Holds (slice_index places) (chains_from 0 counts) → ⊥
risen-not counts places index rest r l never h =
    never ((chain-links places rest r.from (get_or counts index 0) r.left (risen-fits counts places index rest r l)).1
    (all-left (Rises (slice_index places)) (links r.from (get_or counts index 0 - 1)) (chains_from (r.from + get_or counts index 0) (drop (index + 1) counts))
    (subst (λ (cs : List ℕ). Holds (slice_index places) (chains_from r.from cs)) (drop_more counts index 0 l) (r.risen.1 h))))

-- all chains rise
pub risen-all : (counts places : List ℕ) (rest : List ℕ) → AreRisen counts places (length counts) rest → Holds (slice_index places) (chains_from 0 counts)
risen-all counts places rest r =
    r.risen.0 (subst (λ (cs : List ℕ). Holds (slice_index places) (chains_from r.from cs)) (sym (drop_all (length counts) counts (omega arith))) (All-nil (Rises (slice_index places))))

-- edges hold together where each part of them does
pub holds-append : (rank : ℕ → ℕ) (xs ys : List Edge) → Holds rank (xs ++ ys) ↔ (Holds rank xs × Holds rank ys)
holds-append rank xs ys = (λ h. (all-left (Rises rank) xs ys h, all-right (Rises rank) xs ys h), λ (a, b). All-append (Rises rank) xs ys a b)
