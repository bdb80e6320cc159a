-- Tables of a word's sources and the threads.
use Rattle.std.proofs.Common.{◌≡◌, ℕ, zero, suc, ◌+◌, ◌*◌, ◌<◌, ◌≤◌, List, [], ◌∷◌, ◌++◌, length, get_or, refl, sym, ◌∙◌, ap, subst, arith, inl, inr, ◌⊎◌}
use Rattle.std.proofs.lemmas.Bool.{cases_lt}
use Rattle.std.proofs.lemmas.List.{length-append, get_or_append_left, get_or_push}
use Rattle.std.proofs.Math.Nat.{mul-le-mul, suc-mul, zero-mul}
use Rattle.replay_model.specs.Logs.{Log}
use Rattle.replay_model.specs.WellFormed.{IsWellFormed}
use Rattle.constraints.specs.Positions.{event_at}
use Rattle.constraints.specs.Constraints.{sources_of, group_of}
use Rattle.constraints.specs.Laws.{IsGrouped}
use Rattle.constraints.proofs.Listed.{event_there, of_list, event_taken}
use Rattle.constraints.proofs.Groups.{sources_are_grouped}
use Rattle.races.specs.Shut.{IsFront, shuts, source_at}
use Rattle.races.specs.Tables.{AreStarts, AreFronts, AreEnds, IsTable}
use Rattle.races.specs.declared.table.Table.{Table}
use Rattle.races.proofs.Shuts.{source-there, group-within}
use Rattle.races.specs.Bounds.{AreBlocks, AreTops, AreFloors}

pub push-old : (xs : List ℕ) (y k : ℕ) → k < length xs → get_or (xs ++ y ∷ []) k 0 ≡ get_or xs k 0
push-old xs y k l = get_or_append_left xs (y ∷ []) 0 k l

pub push-new : (xs : List ℕ) (y k : ℕ) → k ≡ length xs → get_or (xs ++ y ∷ []) k 0 ≡ y
push-new xs y k e = get_or_push xs y 0 k (sym e)

-- the starts of the threads up to some one
pub record AreStartsTo (log : Log) (word thread : ℕ) (starts : List ℕ) : Type 0 where
  pub size : length starts ≡ thread + 1
  pub first : get_or starts 0 0 ≡ 0
  pub end : (t : ℕ) → t < thread → get_or starts (t + 1) 0 ≡ (group_of log word t).1

pub starts-none : (log : Log) (word : ℕ) (starts new : List ℕ) → starts ≡ [] → new ≡ starts ++ 0 ∷ [] → AreStartsTo log word 0 new
starts-none log word starts new e q = subst (AreStartsTo log word 0) (sym (q ∙ ap (λ (xs : List ℕ). xs ++ 0 ∷ []) e)) record { size = refl; first = refl; end = λ t l. absurd (omega (arith, l)) }

pub starts-more : (log : Log) (word thread : ℕ) (starts new : List ℕ) (x : ℕ) → new ≡ starts ++ x ∷ [] → x ≡ (group_of log word thread).1 → AreStartsTo log word thread starts → AreStartsTo log word (thread + 1) new
starts-more log word thread starts new x e q s = subst (AreStartsTo log word (thread + 1)) (sym e) record {
  size = (let n = length-append starts (x ∷ []) in let z = s.size in omega (arith, n, z));
  first = push-old starts x 0 (let z = s.size in omega (arith, z)) ∙ s.first;
  end = λ t l. go t l (cases_lt t thread);
}
  where
    go : (t : ℕ) → t < thread + 1 → (t < thread) ⊎ (thread ≤ t) → get_or (starts ++ x ∷ []) (t + 1) 0 ≡ (group_of log word t).1
    go t l (inl m) = push-old starts x (t + 1) (let z = s.size in omega (arith, z, m)) ∙ s.end t m
    go t l (inr m) =
        let o : thread ≡ t = omega (arith, l, m) in
        push-new starts x (t + 1) (let z = s.size in omega (arith, z, o)) ∙ q ∙ ap (λ n. (group_of log word n).1) o

pub starts-done : (log : Log) (word thread : ℕ) (starts : List ℕ) → IsWellFormed log → thread ≡ length log.threads → AreStartsTo log word thread starts → AreStarts log word starts
starts-done log word thread starts formed e s = record {
  size = (let z = s.size in omega (arith, z, e));
  first = s.first;
  last = last (length log.threads) refl;
  begin = begin;
  end = λ t l. s.end t (omega (arith, e, l));
}
  where
    grouped : IsGrouped log word
    grouped = sources_are_grouped log word formed

    begin : (t : ℕ) → t < length log.threads → get_or starts t 0 ≡ (group_of log word t).0
    begin zero l = s.first ∙ sym grouped.first
    begin (suc t) l = let q : suc t ≡ t + 1 = omega arith in ap (λ n. get_or starts n 0) q ∙ s.end t (omega (arith, e, l)) ∙ grouped.next t ∙ ap (λ n. (group_of log word n).0) (sym q)

    last : (n : ℕ) → n ≡ length log.threads → get_or starts n 0 ≡ length (sources_of log word)
    last (suc t) q = let r : suc t ≡ t + 1 = omega arith in ap (λ n. get_or starts n 0) r ∙ s.end t (omega (arith, e, q)) ∙ grouped.all t (omega (arith, q))
    last zero q = s.first ∙ none (cases_lt 0 (length (sources_of log word)))
      where
        none : (0 < length (sources_of log word)) ⊎ (length (sources_of log word) ≤ 0) → 0 ≡ length (sources_of log word)
        none (inr m) = omega (arith, m)
        none (inl m) =
            let p = source_at log word 0 in
            let t = (event_taken log formed (event_at log p) (of_list log (event_at log p) (event_there log p (source-there log word 0 m)))).thread in
            absurd (omega (arith, t, q))

-- a place in an earlier row
pub row-below : (i place threads t : ℕ) → i < place → t < threads → i * threads + t < place * threads
row-below i place threads t l m =
    let a : suc i * threads ≤ place * threads = mul-le-mul {n₂ = place} {m₂ = threads} (omega (arith, l)) (omega arith) in
    let b = suc-mul i threads in
    omega (arith, a, b, m)

-- the fronts of the sources before one, and its own up to some thread
pub record AreEndsTo (log : Log) (word threads place thread : ℕ) (ends : List ℕ) : Type 0 where
  pub size : length ends ≡ place * threads + thread
  pub before : (i : ℕ) → i < place → AreFronts log word i threads (λ t. get_or ends (i * threads + t) 0)
  pub row : AreFronts log word place thread (λ t. get_or ends (place * threads + t) 0)

abbrev Front : Log → ℕ → ℕ → ℕ → ℕ → Type 0
Front log word i t end = IsFront (shuts log word i) (group_of log word t).0 (group_of log word t).1 end

pub ends-more : (log : Log) (word threads place thread : ℕ) (ends new : List ℕ) (end : ℕ) → new ≡ ends ++ end ∷ [] → thread < threads → Front log word place thread end →
    AreEndsTo log word threads place thread ends → AreEndsTo log word threads place (thread + 1) new
ends-more log word threads place thread ends new end e below f s = subst (AreEndsTo log word threads place (thread + 1)) (sym e) record {
  size = (let n = length-append ends (end ∷ []) in let z = s.size in omega (arith, n, z));
  before = λ i l t m. subst (Front log word i t) (sym (push-old ends end (i * threads + t) (let z = s.size in let b = row-below i place threads t l m in omega (arith, z, b)))) (s.before i l t m);
  row = λ t l. go t l (cases_lt t thread);
}
  where
    go : (t : ℕ) → t < thread + 1 → (t < thread) ⊎ (thread ≤ t) → Front log word place t (get_or (ends ++ end ∷ []) (place * threads + t) 0)
    go t l (inl m) = subst (Front log word place t) (sym (push-old ends end (place * threads + t) (let z = s.size in omega (arith, z, m)))) (s.row t m)
    go t l (inr m) =
        let o : thread ≡ t = omega (arith, l, m) in
        subst (Front log word place t) (sym (push-new ends end (place * threads + t) (let z = s.size in omega (arith, z, o)))) (subst (λ n. Front log word place n end) o f)

pub ends-begin : (log : Log) (word threads place : ℕ) (ends : List ℕ) → AreEnds log word threads place ends → AreEndsTo log word threads place 0 ends
ends-begin log word threads place ends s = record { size = (let z = s.size in omega (arith, z)); before = s.fronts; row = λ t l. absurd (omega (arith, l)) }

pub ends-done : (log : Log) (word threads place thread : ℕ) (ends : List ℕ) → thread ≡ threads → AreEndsTo log word threads place thread ends → AreEnds log word threads (place + 1) ends
ends-done log word threads place thread ends e s = record {
  size = (let z = s.size in let b = suc-mul place threads in let q : suc place ≡ place + 1 = omega arith in let r = ap (λ n. n * threads) q in omega (arith, z, b, r, e));
  fronts = λ i l. go i l (cases_lt i place);
}
  where
    go : (i : ℕ) → i < place + 1 → (i < place) ⊎ (place ≤ i) → AreFronts log word i threads (λ t. get_or ends (i * threads + t) 0)
    go i l (inl m) t b = s.before i m t b
    go i l (inr m) t b =
        let o : place ≡ i = omega (arith, l, m) in
        subst (λ n. Front log word n t (get_or ends (n * threads + t) 0)) o (s.row t (omega (arith, b, e)))

pub ends-none : (log : Log) (word threads : ℕ) → AreEnds log word threads 0 []
ends-none log word threads = record { size = (let e : 0 * threads ≡ 0 = zero-mul threads in omega (arith, e)); fronts = λ i l. absurd (omega (arith, l)) }

-- a table with these parts
pub table-is : (log : Log) (word : ℕ) (table : Table) → table.threads ≡ length log.threads → table.sources ≡ length (sources_of log word) → AreStarts log word table.starts.items →
    AreEnds log word (length log.threads) (length (sources_of log word)) table.ends.items → AreTops table.threads table.threads table.starts.items table.ends.items table.tops.items →
    AreFloors table.threads table.threads table.starts.items table.ends.items table.floors.items → IsTable log word table
table-is log word table t n starts ends tops floors = record {
  threads = t;
  sources = n;
  starts = starts;
  ends = subst (λ k. AreEnds log word k table.sources table.ends.items) (sym t) (subst (λ k. AreEnds log word (length log.threads) k table.ends.items) (sym n) ends);
  tops = tops;
  floors = floors;
}

-- the threads' sources are blocks
pub blocks-are : (log : Log) (word threads : ℕ) (starts : List ℕ) → IsWellFormed log → threads ≡ length log.threads → AreStarts log word starts → AreBlocks threads (length (sources_of log word)) starts
blocks-are log word threads starts formed e s = subst (λ n. AreBlocks n (length (sources_of log word)) starts) (sym e) record {
  size = s.size;
  rise = λ b l. (let x = s.begin b l in let y = s.end b l in let z = (sources_are_grouped log word formed).rising b in omega (arith, x, y, z));
  within = λ b l. (let y = s.end b l in let z = group-within log word b in omega (arith, y, z));
}

pub ends-size : (log : Log) (word threads : ℕ) (ends : List ℕ) → threads ≡ length log.threads → AreEnds log word (length log.threads) (length (sources_of log word)) ends → length ends ≡ length (sources_of log word) * threads
ends-size log word threads ends e s = let q = ap (λ n. length (sources_of log word) * n) e in let z = s.size in omega (arith, q, z)

-- bounds over the same lists
pub tops-same : (width : ℕ) (starts read ends lent tops : List ℕ) → read ≡ starts → lent ≡ ends → AreTops width width read lent tops → AreTops width width starts ends tops
tops-same width starts read ends lent tops e q a = subst (λ s. AreTops width width s ends tops) e (subst (λ n. AreTops width width read n tops) q a)

pub floors-over : (width : ℕ) (starts read ends lent floors : List ℕ) → read ≡ starts → lent ≡ ends → AreFloors width width read lent floors → AreFloors width width starts ends floors
floors-over width starts read ends lent floors e q a = subst (λ s. AreFloors width width s ends floors) e (subst (λ n. AreFloors width width read n floors) q a)

pub blocks-read : (log : Log) (word threads : ℕ) (starts read : List ℕ) → read ≡ starts → IsWellFormed log → threads ≡ length log.threads → AreStarts log word starts → AreBlocks threads (length (sources_of log word)) read
blocks-read log word threads starts read q formed e s = subst (AreBlocks threads (length (sources_of log word))) (sym q) (blocks-are log word threads starts formed e s)
