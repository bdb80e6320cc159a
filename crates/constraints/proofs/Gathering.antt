-- The reads of a log and the keys of its sources, sorted and each kept once.
use Rattle.std.proofs.Common.{◌≡◌, ℕ, ◌+◌, ◌<◌, Bool, true, false, eqb, Some, None, Ordering, nat_cmp, List, length, get_or, map, refl, sym, ◌∙◌, ap, subst, arith}
use Rattle.std.specs.Prelude.{Contains, ◌&&◌, option_map}
use Rattle.std.specs.Cmp.{IsTotalOrder, IsEquivalence}
use Rattle.std.specs.Ordering.{eq_by_cmp, is_eq, is_lt, ordering_then, ordering_reverse}
use Rattle.std.specs.List.{dedup, filter_map, AllPairs}
use Rattle.std.specs.List.Sorted.{IsSorted, IsPermutation}
use Rattle.std.specs.declared.cmp.Ordering.TheVariants.{Less, Equal, Greater}
use Rattle.std.proofs.lemmas.Cmp.{nat_cmp_total, on_total, then_total, eq_by_cmp_equiv}
use Rattle.std.proofs.lemmas.Bool.{and_parts, eqb-true}
use Rattle.std.proofs.lemmas.List.{get_or-map, length-map}
use Rattle.std.proofs.lemmas.List.Sorted.{Contains-permutation, IsPermutation-sym}
use Rattle.std.proofs.lemmas.List.Kept.{Contains-dedup, Contains-from_dedup}
use Rattle.light_base.specs.declared.tag.Tag.{Tag}
use Rattle.replay_model.specs.declared.Entry.{Entry}
use Rattle.replay_model.specs.Logs.{Log, HasEntry, last_event}
use Rattle.replay_model.specs.WellFormed.{IsWellFormed}
use Rattle.constraints.specs.declared.placed.Placed.{Placed}
use Rattle.constraints.specs.declared.reads.Read.{Read}
use Rattle.constraints.specs.declared.reads.Key.{Key}
use Rattle.constraints.specs.contracts.reads.ReadPartialEq.TheImpl as reads
use Rattle.constraints.specs.contracts.reads.KeyPartialEq.TheImpl as keys
use Rattle.constraints.specs.Positions.{event_list, event_at, position_of}
use Rattle.constraints.specs.Constraints.{sources_of, last_reads_from}
use Rattle.constraints.specs.Building.{placed_in, placed_entries, read_of, key_of, read_cmp, key_cmp, AreInOrder, AreReadsInOrder, AreReads, AreKeys}
use Rattle.constraints.proofs.Members.{of_map, in_map}
use Rattle.constraints.proofs.Listed.{in_list, event-position, position-event}
use Rattle.constraints.proofs.Strict.{deduped, nat_ties, of_filter_map, in_filter_map}
use Rattle.constraints.proofs.Placing.{of_placed, in_placed}
use Rattle.constraints.proofs.Sources.{source_in, of_sources, in_sources, of_last_reads, in_last_reads}

abbrev pub same_read : Read → Read → Bool
same_read = (reads.ghosts).eq

abbrev pub same_key : Key → Key → Bool
same_key = (keys.ghosts).eq

abbrev read : ℕ → ℕ → ℕ → Read
read word source last = record { word = word; source = source; last = last }

pub read_total : IsTotalOrder read_cmp
read_total = then_total (on_total (λ (r : Read). r.word) nat_cmp_total) (then_total (on_total (λ (r : Read). r.source) nat_cmp_total) (on_total (λ (r : Read). r.last) nat_cmp_total))

pub key_total : IsTotalOrder key_cmp
key_total = then_total (on_total (λ (k : Key). k.word) nat_cmp_total) (on_total (λ (k : Key). k.source) nat_cmp_total)

then-eq : (a b : Ordering) → is_eq (ordering_then a b) ≡ (is_eq a && is_eq b)
then-eq Less b = refl
then-eq Equal b = refl
then-eq Greater b = refl

key_ties : (x y : Key) → same_key x y ≡ eq_by_cmp key_cmp x y
key_ties x y =
    let P : Bool → Bool → Type 0 = λ s t. (s && t) ≡ is_eq (key_cmp x y) in
    subst (λ (s : Bool). P s (eqb x.source y.source)) (sym (nat_ties x.word y.word))
    (subst (λ (t : Bool). P (is_eq (nat_cmp x.word y.word)) t) (sym (nat_ties x.source y.source)) (sym (then-eq (nat_cmp x.word y.word) (nat_cmp x.source y.source))))

read_ties : (x y : Read) → same_read x y ≡ eq_by_cmp read_cmp x y
read_ties x y = go (nat_ties x.word y.word) (nat_ties x.source y.source) (nat_ties x.last y.last)
  where
    three : (a b c : Ordering) → (is_eq a && (is_eq b && is_eq c)) ≡ is_eq (ordering_then a (ordering_then b c))
    three Less b c = refl
    three Equal b c = sym (then-eq b c)
    three Greater b c = refl

    go : eqb x.word y.word ≡ is_eq (nat_cmp x.word y.word) → eqb x.source y.source ≡ is_eq (nat_cmp x.source y.source) → eqb x.last y.last ≡ is_eq (nat_cmp x.last y.last) →
        (eqb x.word y.word && (eqb x.source y.source && eqb x.last y.last)) ≡ is_eq (read_cmp x y)
    go p q r =
        ap (λ (b : Bool). b && (eqb x.source y.source && eqb x.last y.last)) p ∙ ap (λ (b : Bool). is_eq (nat_cmp x.word y.word) && (b && eqb x.last y.last)) q ∙
        ap (λ (b : Bool). is_eq (nat_cmp x.word y.word) && (is_eq (nat_cmp x.source y.source) && b)) r ∙ three (nat_cmp x.word y.word) (nat_cmp x.source y.source) (nat_cmp x.last y.last)

same_read-same : (x y : Read) → same_read x y ≡ true → x ≡ y
same_read-same x y h =
    let (p, q) = and_parts (eqb x.word y.word) (eqb x.source y.source && eqb x.last y.last) h in
    let (r, s) = and_parts (eqb x.source y.source) (eqb x.last y.last) q in
    let u = eqb-true x.word y.word p in
    let v = eqb-true x.source y.source r in
    let w = eqb-true x.last y.last s in
    λ i. record { word = u i; source = v i; last = w i }

same_key-same : (x y : Key) → same_key x y ≡ true → x ≡ y
same_key-same x y h =
    let (p, q) = and_parts (eqb x.word y.word) (eqb x.source y.source) h in
    let u = eqb-true x.word y.word p in
    let v = eqb-true x.source y.source q in
    λ i. record { word = u i; source = v i }

-- what `dedup` keeps of equal elements
kept : {X : Type 0} {R : X → X → Ordering} (o : IsTotalOrder R) {E : X → X → Bool} (ties : (x y : X) → E x y ≡ eq_by_cmp R x y) (same : (x y : X) → E x y ≡ true → x ≡ y) (xs : List X) (x : X) → Contains xs x → Contains (dedup E xs) x
kept {X} {R} o {E} ties same xs x c =
    let e : IsEquivalence E = record {
      refl = λ a. ties a a ∙ (eq_by_cmp_equiv o).refl a;
      symm = λ a b. ties a b ∙ (eq_by_cmp_equiv o).symm a b ∙ sym (ties b a);
      congr = λ a b d h. ties a d ∙ (eq_by_cmp_equiv o).congr a b d (sym (ties a b) ∙ h) ∙ sym (ties b d);
    } in
    Contains-dedup e same xs x c

-- the reads that entries by positions give
of_read : (log : Log) → IsWellFormed log → (r : Read) → Contains (filter_map read_of (placed_entries log)) r → Contains (sources_of log r.word) r.source × Contains (last_reads_from log r.word r.source) r.last
of_read log formed r c =
    let (p, m, q) = of_filter_map read_of (placed_entries log) r c in
    let (t, a, h, e) = of_placed log p m in
    by t a h a.source refl (let P : Placed → Type 0 = λ p. read_of p ≡ Some r in subst P (sym e) q)
  where
    by : (t : ℕ) (a : Entry) → HasEntry log t a → (tag : Tag) → a.source ≡ tag → read_of (placed_in (event_list log) t a) ≡ Some r → Contains (sources_of log r.word) r.source × Contains (last_reads_from log r.word r.source) r.last
    by t a h None q g =
        let P : Tag → Type 0 = λ tag. option_map (λ s. read a.word s (position_of log (last_event t a))) (option_map (position_of log) tag) ≡ Some r in
        no (subst P q g)
      where
        no : None ≡ Some r → Contains (sources_of log r.word) r.source × Contains (last_reads_from log r.word r.source) r.last
        no e = cc
    by t a h (Some x) q g =
        let P : Tag → Type 0 = λ tag. option_map (λ s. read a.word s (position_of log (last_event t a))) (option_map (position_of log) tag) ≡ Some r in
        yes (subst P q g)
      where
        at : event_at log (position_of log x) ≡ x
        at = event-position log x (in_list log formed x (source_in log t a x h q))

        one : (u v : Read) → Some u ≡ Some v → u ≡ v
        one u v k = cc

        yes : Some (read a.word (position_of log x) (position_of log (last_event t a))) ≡ Some r → Contains (sources_of log r.word) r.source × Contains (last_reads_from log r.word r.source) r.last
        yes k =
            let Q : Read → Type 0 = λ u. Contains (sources_of log u.word) u.source × Contains (last_reads_from log u.word u.source) u.last in
            subst Q (one (read a.word (position_of log x) (position_of log (last_event t a))) r k)
            (in_sources log formed a.word t a x h refl q, in_last_reads log formed a.word (position_of log x) t a h refl (q ∙ ap Some (sym at)))

in_read : (log : Log) → IsWellFormed log → (word source last : ℕ) → Contains (sources_of log word) source → Contains (last_reads_from log word source) last →
    Contains (filter_map read_of (placed_entries log)) (read word source last)
in_read log formed word source last c d =
    let (l, (t, a, h, w, q, e)) = of_last_reads log word source last d in
    let s : source < length (event_list log) = (of_sources log word source c).0 in
    let x : position_of log (event_at log source) ≡ source = position-event log source s in
    let y : position_of log (last_event t a) ≡ last = ap (position_of log) e ∙ position-event log last l in
    in_filter_map read_of (placed_entries log) (placed_in (event_list log) t a) (read word source last) (in_placed log t a h)
    (let P : Tag → Type 0 = λ tag. option_map (λ s. read a.word s (position_of log (last_event t a))) (option_map (position_of log) tag) ≡ Some (read word source last) in
    subst P (sym q) (λ i. Some (read (w i) (x i) (y i))))

pub reads_in_order : (ys zs : List Read) → IsSorted read_cmp ys → zs ≡ dedup same_read ys → AreReadsInOrder zs
reads_in_order ys zs sorted d = let P : List Read → Type 0 = λ rs. AreReadsInOrder rs in subst P (sym d) (deduped read_total read_ties ys sorted)

pub reads_sorted : (log : Log) → IsWellFormed log → (placed : List Placed) (xs ys zs : List Read) → placed ≡ placed_entries log → xs ≡ filter_map read_of placed → IsPermutation xs ys → zs ≡ dedup same_read ys → AreReads log zs
reads_sorted log formed placed xs ys zs p q perm d =
    let P : List Read → Type 0 = λ rs. AreReads log rs in
    subst P (sym d) (record {
      all = λ w s l c m. kept read_total read_ties same_read-same ys (read w s l) (Contains-permutation xs ys (read w s l) perm
          (let Q : List Read → Type 0 = λ rs. Contains rs (read w s l) in subst Q (sym (q ∙ ap (filter_map read_of) p)) (in_read log formed w s l c m)));
      only = λ r c. of_read log formed r (let Q : List Read → Type 0 = λ rs. Contains rs r in subst Q (q ∙ ap (filter_map read_of) p)
          (Contains-permutation ys xs r (IsPermutation-sym xs ys perm) (Contains-from_dedup same_read ys r c)));
    })

-- keys of sorted reads are sorted
key-order : (a b : Read) → read_cmp a b ≡ Less → is_lt (key_cmp (key_of b) (key_of a)) ≡ false
key-order a b h = go (nat_cmp a.word b.word) (nat_cmp a.source b.source) refl refl (nat_cmp_total.antisymm b.word a.word) (nat_cmp_total.antisymm b.source a.source)
  where
    go : (u v : Ordering) → nat_cmp a.word b.word ≡ u → nat_cmp a.source b.source ≡ v → nat_cmp b.word a.word ≡ ordering_reverse (nat_cmp a.word b.word) → nat_cmp b.source a.source ≡ ordering_reverse (nat_cmp a.source b.source) →
        is_lt (ordering_then (nat_cmp b.word a.word) (nat_cmp b.source a.source)) ≡ false
    go Less v p q r s = rw (r, p) refl
    go Equal Less p q r s = rw (r, s, p, q) refl
    go Equal Equal p q r s = rw (r, s, p, q) refl
    go Equal Greater p q r s = absurd (no (sym (step (nat_cmp a.last b.last)) ∙ h))
      where
        step : (o : Ordering) → ordering_then (nat_cmp a.word b.word) (ordering_then (nat_cmp a.source b.source) o) ≡ Greater
        step o = rw (p, q) refl

        no : Greater ≡ Less → ⊥
        no e = cc
    go Greater v p q r s = absurd (no (sym (step (ordering_then (nat_cmp a.source b.source) (nat_cmp a.last b.last))) ∙ h))
      where
        step : (o : Ordering) → ordering_then (nat_cmp a.word b.word) o ≡ Greater
        step o = rw p refl

        no : Greater ≡ Less → ⊥
        no e = cc

keys-ordered : (reads : List Read) → AllPairs (λ (a b : Read). read_cmp a b ≡ Less) reads → IsSorted key_cmp (map key_of reads)
keys-ordered reads h k d l m =
    let n : k + 1 < length reads = omega (arith, m, length-map reads key_of) in
    let o : Read = record { word = 0; source = 0; last = 0 } in
    let x : get_or (map key_of reads) (k + 1) d ≡ key_of (get_or reads (k + 1) o) = get_or-map key_of reads (k + 1) o d n in
    let y : get_or (map key_of reads) k d ≡ key_of (get_or reads k o) = get_or-map key_of reads k o d (let q : k < length reads = omega (arith, n) in q) in
    rw (x, y) (key-order (get_or reads k o) (get_or reads (k + 1) o) (h k (k + 1) o (omega arith) n))

pub keys_in_order : (reads : List Read) (xs zs : List Key) → AreReadsInOrder reads → xs ≡ map key_of reads → zs ≡ dedup same_key xs → AreInOrder zs
keys_in_order reads xs zs h q d =
    let P : List Key → Type 0 = λ ks. AreInOrder ks in
    subst P (sym (d ∙ ap (dedup same_key) q)) (deduped key_total key_ties (map key_of reads) (keys-ordered reads h))

pub keys_sorted : (log : Log) → IsWellFormed log → (reads : List Read) (xs zs : List Key) → AreReads log reads → xs ≡ map key_of reads → zs ≡ dedup same_key xs → AreKeys log zs
keys_sorted log formed reads xs zs are q d =
    let P : List Key → Type 0 = λ ks. AreKeys log ks in
    let e : zs ≡ dedup same_key (map key_of reads) = d ∙ ap (dedup same_key) q in
    subst P (sym e) (record {
      all = all;
      only = λ k c. let (r, m, p) = of_map key_of reads k (Contains-from_dedup same_key (map key_of reads) k c) in
          let Q : Key → Type 0 = λ k. Contains (sources_of log k.word) k.source in subst Q p (are.only r m).0;
    })
  where
    all : (word source : ℕ) → Contains (sources_of log word) source → Contains (dedup same_key (map key_of reads)) (record { word = word; source = source })
    all word source c =
        let (l, (t, a, h, w, s)) = of_sources log word source c in
        let m = in_last_reads log formed word source t a h w s in
        kept key_total key_ties same_key-same (map key_of reads) (record { word = word; source = source })
        (in_map key_of reads (record { word = word; source = source; last = position_of log (last_event t a) }) (are.all word source (position_of log (last_event t a)) c m))
