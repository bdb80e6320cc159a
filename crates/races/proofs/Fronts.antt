-- What the fronts of a table say of the pairs of one source.
use Rattle.std.proofs.Common.{◌≡◌, ℕ, ◌+◌, ◌-◌, ◌*◌, ◌<◌, ◌≤◌, Bool, true, false, length, get_or, refl, sym, ◌∙◌, ap, subst, arith, inl, inr, ◌⊎◌}
use Rattle.std.specs.Prelude.{not, max}
use Rattle.std.proofs.lemmas.Bool.{cases_lt, cases_Bool}
use Rattle.std.proofs.lemmas.List.{get_or_default}
use Rattle.std.proofs.Math.Nat.{max-eq_left, max-eq_right}
use Rattle.replay_model.specs.Logs.{Log}
use Rattle.constraints.specs.Constraints.{sources_of, group_of}
use Rattle.races.specs.declared.table.Table.{Table}
use Rattle.races.specs.declared.table.Row.{Row}
use Rattle.races.specs.Shut.{IsFront, shuts}
use Rattle.races.specs.Tables.{IsTable, IsRow, IsStretch, IsNext, opens, sticks}
use Rattle.races.specs.Bounds.{IsOrdered}
use Rattle.races.proofs.Ranges.{counted, counted-join, counted-none, counted-same}
use Rattle.races.proofs.Shuts.{group-within}
use Rattle.races.proofs.Tabled.{row-below}

pub front-at : (log : Log) (word i t : ℕ) (table : Table) → IsTable log word table → i < length (sources_of log word) → t < table.threads →
    IsFront (shuts log word i) (group_of log word t).0 (group_of log word t).1 (get_or table.ends.items (i * table.threads + t) 0)
front-at log word i t table tab l m = tab.ends.fronts i (let n = tab.sources in omega (arith, l, n)) t m

-- an end that was read is that of the front
pub end-at : (log : Log) (word i t : ℕ) (table : Table) (end : ℕ) → IsTable log word table → i < length (sources_of log word) → t < table.threads →
    end ≡ get_or table.ends.items (i * table.threads + t) end → IsFront (shuts log word i) (group_of log word t).0 (group_of log word t).1 end
end-at log word i t table end tab l m e =
    let b = row-below i table.sources table.threads t (let n = tab.sources in omega (arith, l, n)) m in
    let z = tab.ends.size in
    subst (IsFront (shuts log word i) (group_of log word t).0 (group_of log word t).1) (sym (e ∙ get_or_default table.ends.items (i * table.threads + t) end 0 (omega (arith, b, z)))) (front-at log word i t table tab l m)

-- a source is one of the word's
pub row-in : (log : Log) (row : Row) → IsRow log row → row.place < length (sources_of log row.word)
row-in log row r = let a = group-within log row.word row.thread in let b = r.end in omega (arith, a, b)

-- whether one source may not come before the row's
pub back-yes : (log : Log) (row : Row) (table : Table) (j end : ℕ) → IsTable log row.word table → IsRow log row → j < length (sources_of log row.word) →
    end ≡ get_or table.ends.items (j * table.threads + row.thread) end → row.place < end → shuts log row.word j row.place ≡ true
back-yes log row table j end tab r l e m =
    (end-at log row.word j row.thread table end tab l (let a = tab.threads in let b = r.thread in omega (arith, a, b)) e).before row.place r.begin m

pub back-no : (log : Log) (row : Row) (table : Table) (j end : ℕ) → IsTable log row.word table → IsRow log row → j < length (sources_of log row.word) →
    end ≡ get_or table.ends.items (j * table.threads + row.thread) end → end ≤ row.place → shuts log row.word j row.place ≡ false
back-no log row table j end tab r l e m =
    (end-at log row.word j row.thread table end tab l (let a = tab.threads in let b = r.thread in omega (arith, a, b)) e).after row.place m r.end

-- two places of a stretch are rows of one block
ordered : (log : Log) (word : ℕ) (table : Table) (from to i j : ℕ) → IsTable log word table → (s : IsStretch log word from to) → from ≤ i → i ≤ j → j < to → IsOrdered table.threads table.starts.items s.0 i j
ordered log word table from to i j tab s l m n = record {
  block = (let k = tab.threads in let b = s.1 in omega (arith, k, b));
  begin = (let x = tab.starts.begin s.0 s.1 in let y = s.2 in omega (arith, x, y, l));
  order = m;
  end = (let x = tab.starts.end s.0 s.1 in let y = s.3 in omega (arith, x, y, n));
}

-- a start that was read
pub start-at : (log : Log) (word t : ℕ) (table : Table) (start : ℕ) → IsTable log word table → t < table.threads → start ≡ get_or table.starts.items t start → start ≡ (group_of log word t).0
start-at log word t table start tab m e =
    let n = tab.threads in
    let z = tab.starts.size in
    e ∙ get_or_default table.starts.items t start 0 (omega (arith, m, n, z)) ∙ tab.starts.begin t (omega (arith, m, n))

pub next-at : (log : Log) (word t : ℕ) (table : Table) (next : ℕ) → IsTable log word table → t < table.threads → next ≡ get_or table.starts.items (t + 1) next → next ≡ (group_of log word t).1
next-at log word t table next tab m e =
    let n = tab.threads in
    let z = tab.starts.size in
    e ∙ get_or_default table.starts.items (t + 1) next 0 (omega (arith, m, n, z)) ∙ tab.starts.end t (omega (arith, m, n))

-- the sources of the last thread are the last ones
pub all-at : (log : Log) (word t : ℕ) (table : Table) → IsTable log word table → t ≡ table.threads → get_or table.starts.items t 0 ≡ length (sources_of log word)
all-at log word t table tab e = ap (λ k. get_or table.starts.items k 0) (e ∙ tab.threads) ∙ tab.starts.last

-- past the front no pair is stuck
stick-none : (log : Log) (word i j : ℕ) → shuts log word i j ≡ false → sticks log word i j ≡ false
stick-none log word i j f = rw f refl

stick-back : (log : Log) (word i j : ℕ) → shuts log word i j ≡ true → sticks log word i j ≡ shuts log word j i
stick-back log word i j f = rw f refl

-- the stuck pairs with the sources of one thread, from some place on, are those of the front
pub sticks-then : (log : Log) (word i low from from' next begin end count back new : ℕ) → IsFront (shuts log word i) begin next end → begin ≤ from → low ≤ from → from < end →
    count ≡ counted (sticks log word i) low from → back ≡ counted (λ j. shuts log word j i) from end → from' ≡ max from next → new ≡ count + back → new ≡ counted (sticks log word i) low from'
sticks-then log word i low from from' next begin end count back new f b w l c k e n =
    let h = f.high in
    let q : from' ≡ next = e ∙ max-eq_right (omega (arith, l, h)) in
    let p = ap (counted (sticks log word i) low) q in
    let s = counted-join (sticks log word i) low from next w (omega (arith, l, h)) in
    let t = counted-join (sticks log word i) from end next (omega (arith, l)) h in
    let u = counted-same (sticks log word i) (λ j. shuts log word j i) from end (λ j x y. stick-back log word i j (f.before j (omega (arith, b, x)) y)) in
    let v = counted-none (sticks log word i) end next (λ j x y. stick-none log word i j (f.after j x y)) in
    omega (arith, p, s, t, u, v, c, k, n)

pub sticks-else : (log : Log) (word i low from from' next begin end count new : ℕ) → IsFront (shuts log word i) begin next end → low ≤ from → end ≤ from →
    count ≡ counted (sticks log word i) low from → from' ≡ max from next → new ≡ count → new ≡ counted (sticks log word i) low from'
sticks-else log word i low from from' next begin end count new f w l c e n = go (cases_lt from next)
  where
    go : (from < next) ⊎ (next ≤ from) → new ≡ counted (sticks log word i) low from'
    go (inl m) =
        let q : from' ≡ next = e ∙ max-eq_right (omega (arith, m)) in
        let p = ap (counted (sticks log word i) low) q in
        let s = counted-join (sticks log word i) low from next w (omega (arith, m)) in
        let v = counted-none (sticks log word i) from next (λ j x y. stick-none log word i j (f.after j (omega (arith, l, x)) y)) in
        omega (arith, p, s, v, c, n)
    go (inr m) =
        let q : from' ≡ from = e ∙ max-eq_left m in
        let p = ap (counted (sticks log word i) low) q in
        omega (arith, p, c, n)

-- a pair with a side that is shut isn't open
open-not : (log : Log) (word i j : ℕ) → shuts log word i j ≡ true → opens log word i j ≡ false
open-not log word i j t = rw t refl

open-back : (log : Log) (word i j : ℕ) → not (shuts log word j i) ≡ false → opens log word i j ≡ false
open-back log word i j t = go (cases_Bool (shuts log word i j))
  where
    go : (shuts log word i j ≡ true) ⊎ (shuts log word i j ≡ false) → opens log word i j ≡ false
    go (inl a) = rw a refl
    go (inr a) = rw a (rw t refl)

-- up to the next source that may come first none is an open pair
pub opens-none : (log : Log) (word i at next begin end found start : ℕ) → IsFront (shuts log word i) begin next end → begin ≤ at → start ≡ max at end → IsNext (λ j. not (shuts log word j i)) start next found →
    (j : ℕ) → at ≤ j → j < found → opens log word i j ≡ false
opens-none log word i at next begin end found start f b e n j l m = go (cases_lt j end)
  where
    go : (j < end) ⊎ (end ≤ j) → opens log word i j ≡ false
    go (inl k) = open-not log word i j (f.before j (omega (arith, b, l)) k)
    go (inr k) = open-back log word i j (n.none j (let q = e in first q (cases_lt at end)) m)
      where
        first : start ≡ max at end → (at < end) ⊎ (end ≤ at) → start ≤ j
        first q (inl x) = let r = max-eq_right (let y : at ≤ end = omega (arith, x) in y) in omega (arith, q, r, k)
        first q (inr x) = let r = max-eq_left x in omega (arith, q, r, l)

-- and it is one
pub opens-there : (log : Log) (word i at next begin end found start : ℕ) → IsFront (shuts log word i) begin next end → start ≡ max at end → IsNext (λ j. not (shuts log word j i)) start next found → found < next →
    opens log word i found ≡ true
opens-there log word i at next begin end found start f e n l =
    let w = n.low in
    let g : end ≤ found = first e (cases_lt at end) in
    let a : shuts log word i found ≡ false = f.after found g l in
    rw a (n.found l)
  where
    first : start ≡ max at end → (at < end) ⊎ (end ≤ at) → end ≤ found
    first q (inl x) = let r = max-eq_right (let y : at ≤ end = omega (arith, x) in y) in let w = n.low in omega (arith, q, r, w)
    first q (inr x) = let r = max-eq_left x in let w = n.low in omega (arith, q, r, w, x)

pub none-join : (test : ℕ → Bool) (from middle to : ℕ) → ((j : ℕ) → from ≤ j → j < middle → test j ≡ false) → ((j : ℕ) → middle ≤ j → j < to → test j ≡ false) → (j : ℕ) → from ≤ j → j < to → test j ≡ false
none-join test from middle to one two j l m = go (cases_lt j middle)
  where
    go : (j < middle) ⊎ (middle ≤ j) → test j ≡ false
    go (inl k) = one j l k
    go (inr k) = two j k m

-- the next source that may come first is an open pair's, and none before it is
pub opens-next : (log : Log) (word i from at next begin end found start : ℕ) → IsFront (shuts log word i) begin next end → begin ≤ at → from ≤ at → start ≡ max at end → at < next → next ≤ length (sources_of log word) →
    IsNext (λ j. not (shuts log word j i)) start next found → ((j : ℕ) → from ≤ j → j < at → opens log word i j ≡ false) → found < next → IsNext (opens log word i) from (length (sources_of log word)) found
opens-next log word i from at next begin end found start f b a e l h n none k = record {
  low = (let w = n.low in omega (arith, a, e, w));
  high = omega (arith, k, h);
  none = none-join (opens log word i) from at found none (opens-none log word i at next begin end found start f b e n);
  found = λ m. opens-there log word i at next begin end found start f e n k;
}

-- none of the thread's sources is
pub opens-past : (log : Log) (word i from at next begin end found start : ℕ) → IsFront (shuts log word i) begin next end → begin ≤ at → start ≡ max at end →
    IsNext (λ j. not (shuts log word j i)) start next found → ((j : ℕ) → from ≤ j → j < at → opens log word i j ≡ false) → (j : ℕ) → from ≤ j → j < found → opens log word i j ≡ false
opens-past log word i from at next begin end found start f b e n none = none-join (opens log word i) from at found none (opens-none log word i at next begin end found start f b e n)

-- the ends of a stretch against the row's thread, bounded by the last one's top
pub stretch-none : (log : Log) (row : Row) (table : Table) (from to top : ℕ) → IsTable log row.word table → IsRow log row → IsStretch log row.word from to → from < to →
    top ≡ get_or table.tops.items ((to - 1) * table.threads + row.thread) top → top ≤ row.place → (j : ℕ) → from ≤ j → j < to → shuts log row.word j row.place ≡ false
stretch-none log row table from to top tab r s some e le j l m =
    let k = tab.threads in
    let a = r.thread in
    let n = tab.sources in
    let g = group-within log row.word s.0 in
    let q = s.3 in
    let i : j < length (sources_of log row.word) = omega (arith, m, q, g) in
    let c : row.thread < table.threads = omega (arith, k, a) in
    let b = tab.tops.bound s.0 j (to - 1) row.thread c (ordered log row.word table from to j (to - 1) tab s (omega (arith, l)) (omega (arith, m)) (omega (arith, some))) in
    let d = row-below (to - 1) table.sources table.threads row.thread (omega (arith, some, q, g, n)) c in
    let z = tab.tops.size in
    let y = tab.ends.size in
    let v = e ∙ get_or_default table.tops.items ((to - 1) * table.threads + row.thread) top 0 (omega (arith, d, z, y)) in
    (front-at log row.word j row.thread table tab i c).after row.place (omega (arith, b, v, le)) r.end

-- and by the first one's floor
pub stretch-all : (log : Log) (row : Row) (table : Table) (from to floor : ℕ) → IsTable log row.word table → IsRow log row → IsStretch log row.word from to → from < to →
    floor ≡ get_or table.floors.items (from * table.threads + row.thread) floor → row.place < floor → (j : ℕ) → from ≤ j → j < to → shuts log row.word j row.place ≡ true
stretch-all log row table from to floor tab r s some e lt j l m =
    let k = tab.threads in
    let a = r.thread in
    let n = tab.sources in
    let g = group-within log row.word s.0 in
    let q = s.3 in
    let i : j < length (sources_of log row.word) = omega (arith, m, q, g) in
    let c : row.thread < table.threads = omega (arith, k, a) in
    let b = tab.floors.bound s.0 from j row.thread c (ordered log row.word table from to from j tab s (omega arith) l m) in
    let d = row-below from table.sources table.threads row.thread (omega (arith, some, q, g, n)) c in
    let z = tab.floors.size in
    let y = tab.ends.size in
    let v = e ∙ get_or_default table.floors.items (from * table.threads + row.thread) floor 0 (omega (arith, d, z, y)) in
    (front-at log row.word j row.thread table tab i c).before row.place r.begin (omega (arith, b, v, lt))
