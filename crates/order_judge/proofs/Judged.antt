-- What apart live ranges say of the order that their places come from.
use Rattle.std.proofs.Common.{◌≡◌, ℕ, zero, suc, ◌+◌, ◌-◌, ◌<◌, ◌≤◌, List, [], ◌∷◌, ◌++◌, length, map, sum, get_or, refl, sym, ◌∙◌, ap, subst, arith, inl, inr, ◌⊎◌}
use Rattle.std.specs.Prelude.{◌≢◌, All, Contains, slice_index}
use Rattle.std.proofs.lemmas.Bool.{cases_lt, cases_order}
use Rattle.std.proofs.lemmas.List.{get_or-map, length-map}
use Rattle.std.proofs.lemmas.List.Elements.{All-nil, All-cons, All-contains, All-append, Contains-get_or}
use Rattle.std.proofs.lemmas.List.Sums.{sum_by-cons}
use Rattle.plain_search.specs.declared.Edge.{Edge}
use Rattle.plain_search.specs.Chains.{arrow, links, chains_from}
use Rattle.plain_search.specs.Edges.{Holds}
use Rattle.order_judge.specs.declared.judging.Read.{Read}
use Rattle.order_judge.specs.declared.live_ranges.LiveRange.{LiveRange}
use Rattle.order_judge.specs.LiveRanges.{BeginsInside, Overlap, AreApart}
use Rattle.order_judge.specs.Places.{place, IsOrder, ArePlaces}
use Rattle.order_judge.specs.Judging.{IsOver, Respects, no_read, range_of, TakeTurns}
use Rattle.order_judge.proofs.Filling.{same_place}

abbrev pub EdgeFits : ℕ → Edge → Type 0
EdgeFits nodes e = (e.from < nodes) × (e.to < nodes)

-- ranks that agree on the ends of the edges hold the same edges
holds-same : (nodes : ℕ) (f g : ℕ → ℕ) → ((x : ℕ) → x < nodes → f x ≡ g x) → (edges : List Edge) → All (EdgeFits nodes) edges → Holds f edges → Holds g edges
holds-same nodes f g same edges fits h = λ k d l.
    let (a, b) = fits k d l in
    let x = same (get_or edges k d).from a in
    let y = same (get_or edges k d).to b in
    let z = h k d l in omega (arith, x, y, z)

abbrev pub ReadFits : ℕ → Read → Type 0
ReadFits nodes r = (r.source < nodes) × (r.last < nodes)

-- what is known of an order whose places are these
pub record IsPlaced (nodes : ℕ) (reads : List Read) (order places : List ℕ) : Type 0 where
  pub is_order : IsOrder nodes order
  pub places_of : ArePlaces nodes order places
  pub fits : All (ReadFits nodes) reads

read-place : (nodes : ℕ) (reads : List Read) (order places : List ℕ) → IsPlaced nodes reads order places → (r : Read) → Contains reads r →
    (slice_index places r.source ≡ place order r.source) × (slice_index places r.last ≡ place order r.last)
read-place nodes reads order places p r c =
    let (a, b) = All-contains (ReadFits nodes) reads r p.fits c in
    (p.places_of.same r.source a, p.places_of.same r.last b)

-- the live ranges of two reads are among those of all
range-contained : (places : List ℕ) (reads : List Read) (r : Read) → Contains reads r → Contains (map (range_of places) reads) (range_of places r)
range-contained places reads r (k, l, e) =
    let m : k < length (map (range_of places) reads) = let c = length-map reads (range_of places) in omega (arith, l, c) in
    (k, m, get_or-map (range_of places) reads k r (range_of places r) l ∙ ap (range_of places) e)

contained-range : (places : List ℕ) (reads : List Read) (a : LiveRange) (d : Read) → Contains (map (range_of places) reads) a → (r : Read) × Contains reads r × (a ≡ range_of places r)
contained-range places reads a d (k, l, e) =
    let m : k < length reads = let c = length-map reads (range_of places) in omega (arith, l, c) in
    (get_or reads k d, Contains-get_or reads k d m, sym (sym (get_or-map (range_of places) reads k d a m) ∙ e))

-- apart live ranges: of two writers the one that comes first is read for the last time before the other
pub apart-turns : (nodes : ℕ) (reads : List Read) (order places : List ℕ) → IsPlaced nodes reads order places → AreApart (map (range_of places) reads) →
    (r s : Read) → Contains reads r → Contains reads s → r.word ≡ s.word → r.source ≢ s.source → IsOver reads order r s ⊎ IsOver reads order s r
apart-turns nodes reads order places p h r s c d w n = go (cases_order (place order r.source) (place order s.source))
  where
    over : (r s : Read) → Contains reads s → r.word ≡ s.word → place order r.source < place order s.source → IsOver reads order r s
    over r s d w less x c v e = most (cases_order (place order x.last) (place order s.source))
      where
        xs : (slice_index places x.source ≡ place order x.source) × (slice_index places x.last ≡ place order x.last)
        xs = read-place nodes reads order places p x c

        ss : (slice_index places s.source ≡ place order s.source) × (slice_index places s.last ≡ place order s.last)
        ss = read-place nodes reads order places p s d

        starts : place order x.source ≡ place order r.source
        starts = ap (place order) e

        most : (place order x.last ≡ place order s.source) ⊎ ((place order x.last < place order s.source) ⊎ (place order s.source < place order x.last)) → place order x.last ≤ place order s.source
        most (inl e) = omega (arith, e)
        most (inr (inl l)) = omega (arith, l)
        most (inr (inr l)) =
            absurd (h (range_of places s) (range_of places x) (range-contained places reads s d) (range-contained places reads x c)
            (inl (record {
              word = sym (v ∙ w);
              after = let a = xs.0 in let b = ss.0 in let q = starts in omega (arith, a, b, q, less);
              before = let a = xs.1 in let b = ss.0 in omega (arith, a, b, l);
            })))

    go : (place order r.source ≡ place order s.source) ⊎ ((place order r.source < place order s.source) ⊎ (place order s.source < place order r.source)) → IsOver reads order r s ⊎ IsOver reads order s r
    go (inl e) = absurd (n (same_place nodes order p.is_order r.source s.source (All-contains (ReadFits nodes) reads r p.fits c).0 (All-contains (ReadFits nodes) reads s p.fits d).0 e))
    go (inr (inl l)) = inl (over r s d w l)
    go (inr (inr l)) = inr (over s r c (sym w) l)

-- writers that take turns have apart live ranges, where no last read comes before its source
pub turns-apart : (nodes : ℕ) (reads : List Read) (order places : List ℕ) → IsPlaced nodes reads order places → All (λ (r : Read). place order r.source ≤ place order r.last) reads →
    ((r s : Read) → Contains reads r → Contains reads s → r.word ≡ s.word → r.source ≢ s.source → IsOver reads order r s ⊎ IsOver reads order s r) → AreApart (map (range_of places) reads)
turns-apart nodes reads order places p later turns a b c d o = go (contained-range places reads a no_read c) (contained-range places reads b no_read d) o
  where
    Later : Read → Type 0
    Later r = place order r.source ≤ place order r.last

    never : (r s : Read) → Contains reads r → Contains reads s → BeginsInside (range_of places r) (range_of places s) → ⊥
    never r s c d i = choose (turns r s c d i.word other)
      where
        rs : (slice_index places r.source ≡ place order r.source) × (slice_index places r.last ≡ place order r.last)
        rs = read-place nodes reads order places p r c

        ss : (slice_index places s.source ≡ place order s.source) × (slice_index places s.last ≡ place order s.last)
        ss = read-place nodes reads order places p s d

        after : place order s.source < place order r.source
        after = let x = rs.0 in let y = ss.0 in let z = i.after in omega (arith, x, y, z)

        other : r.source ≢ s.source
        other e = let q : place order r.source ≡ place order s.source = ap (place order) e in let l = after in omega (arith, q, l)

        choose : IsOver reads order r s ⊎ IsOver reads order s r → ⊥
        choose (inl f) = let x = f r c refl refl in let y = All-contains Later reads r later c in let l = after in omega (arith, x, y, l)
        choose (inr f) = let x = f s d refl refl in let y = ss.1 in let z = rs.0 in let l = i.before in omega (arith, x, y, z, l)

    go : ((r : Read) × Contains reads r × (a ≡ range_of places r)) → ((r : Read) × Contains reads r × (b ≡ range_of places r)) → Overlap a b → ⊥
    go (r, c, e) (s, d, f) (inl h) = never r s c d (subst (BeginsInside (range_of places r)) f (let P : LiveRange → Type 0 = λ x. BeginsInside x b in subst P e h))
    go (r, c, e) (s, d, f) (inr h) = never s r d c (subst (BeginsInside (range_of places s)) e (let P : LiveRange → Type 0 = λ x. BeginsInside x a in subst P f h))

-- the judge's three tests say that the order respects edges and reads
pub judged-respects : (counts : List ℕ) (edges : List Edge) (reads : List Read) (order places : List ℕ) → IsPlaced (sum counts) reads order places →
    All (EdgeFits (sum counts)) (chains_from 0 counts ++ edges) → Holds (slice_index places) (chains_from 0 counts ++ edges) → TakeTurns places reads → Respects counts edges reads order
judged-respects counts edges reads order places p fits rising (later, apart) = record {
  each_once = p.is_order;
  rising = holds-same (sum counts) (slice_index places) (place order) p.places_of.same (chains_from 0 counts ++ edges) fits rising;
  later = λ k d l.
      let (a, b) = read-place (sum counts) reads order places p (get_or reads k d) (Contains-get_or reads k d l) in
      let h = later k d l in omega (arith, a, b, h);
  turns = apart-turns (sum counts) reads order places p apart;
}

-- and each of them is met by an order that does
pub respects-rising : (counts : List ℕ) (edges : List Edge) (reads : List Read) (order places : List ℕ) → IsPlaced (sum counts) reads order places →
    All (EdgeFits (sum counts)) (chains_from 0 counts ++ edges) → Respects counts edges reads order → Holds (slice_index places) (chains_from 0 counts ++ edges)
respects-rising counts edges reads order places p fits r =
    holds-same (sum counts) (place order) (slice_index places) (λ x l. sym (p.places_of.same x l)) (chains_from 0 counts ++ edges) fits r.rising

pub respects-turns : (counts : List ℕ) (edges : List Edge) (reads : List Read) (order places : List ℕ) → IsPlaced (sum counts) reads order places → Respects counts edges reads order → TakeTurns places reads
respects-turns counts edges reads order places p r = (
  (λ k d l.
      let (a, b) = read-place (sum counts) reads order places p (get_or reads k d) (Contains-get_or reads k d l) in
      let h = r.later k d l in omega (arith, a, b, h)),
  turns-apart (sum counts) reads order places p r.later r.turns,
)

-- the chains of nodes are between nodes
links-fit : (nodes n m : ℕ) → (n + m < nodes) ⊎ (m ≡ 0) → All (EdgeFits nodes) (links n m)
links-fit nodes n zero h = All-nil (EdgeFits nodes)
links-fit nodes n (suc m) (inl l) =
    All-cons (EdgeFits nodes) (arrow n (n + 1)) (links (n + 1) m) (omega (arith, l), omega (arith, l)) (links-fit nodes (n + 1) m (inl (omega (arith, l))))
links-fit nodes n (suc m) (inr e) = absurd (omega (arith, e))

pub chains-fit : (nodes n : ℕ) (counts : List ℕ) → n + sum counts ≤ nodes → All (EdgeFits nodes) (chains_from n counts)
chains-fit nodes n [] l = All-nil (EdgeFits nodes)
chains-fit nodes n (count ∷ counts) l =
    let s = sum_by-cons (λ (x : ℕ). x) count counts in
    All-append (EdgeFits nodes) (links n (count - 1)) (chains_from (n + count) counts) (links-fit nodes n (count - 1) (short (cases_lt 0 count)))
    (chains-fit nodes (n + count) counts (omega (arith, l, s)))
  where
    short : (0 < count) ⊎ (count ≤ 0) → (n + (count - 1) < nodes) ⊎ (count - 1 ≡ 0)
    short (inl p) = let s = sum_by-cons (λ (x : ℕ). x) count counts in inl (omega (arith, l, s, p))
    short (inr z) = inr (omega (arith, z))

-- edges among nodes, those of chains too
pub edges-fit : (counts : List ℕ) (edges : List Edge) → All (EdgeFits (sum counts)) edges → All (EdgeFits (sum counts)) (chains_from 0 counts ++ edges)
edges-fit counts edges h = All-append (EdgeFits (sum counts)) (chains_from 0 counts) edges (chains-fit (sum counts) 0 counts (omega arith)) h
