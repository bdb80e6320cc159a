-- What is looked up in the tables of a search for a placing.
use Rattle.std.proofs.Common.{◌≡◌, ℕ, zero, suc, ◌+◌, ◌-◌, ◌<◌, ◌≤◌, Bool, true, false, eqb, List, [], ◌∷◌, length, get_or, map, take, drop, refl, sym, ◌∙◌, ap, subst, arith}
use Rattle.std.specs.Prelude.{All, not, ◌||◌}
use Rattle.std.specs.List.{range_with_len}
use Rattle.std.proofs.lemmas.Bool.{ne_eqb, or_left, or_right}
use Rattle.std.proofs.lemmas.List.{length-map, get_or-map, get_or_default}
use Rattle.std.proofs.lemmas.List.FromFn.{get_or-map-range_with_len, length-map-range_with_len}
use Rattle.std.proofs.lemmas.List.Elements.{Contains-get_or}
use Rattle.light_base.specs.declared.tag.Event.{Event}
use Rattle.plain_search.specs.declared.Edge.{Edge}
use Rattle.replay_model.specs.Steps.{Step}
use Rattle.machine.specs.Laws.{taken_in}
use Rattle.machine.specs.Runs.{threads_of, tallies_of}
use Rattle.replay_laws.proofs.Skip.{Told}
use Rattle.order_solver.specs.Rivals.{IsNextRival}
use Rattle.audit.specs.Positions.{placed_list, placed_at, placed_counts}
use Rattle.audit.specs.Constraints.{writes_to, is_read, last_reads_of}
use Rattle.audit.specs.Rivalries.{start_of}
use Rattle.audit.specs.NextSet.{IsNextSet}
use Rattle.audit.specs.Rows.{row_at}
use Rattle.audit.specs.Tables.{Audited, runs_in, rivalry_in, starts_in, has_numbers, reads_at, IsPlacing}
use Rattle.audit.proofs.Keeping.{told, counted}
use Rattle.audit.proofs.Rivaling.{counts-length}
use Rattle.audit.proofs.Listed.{placed_there, thread_below}
use Rattle.audit.proofs.Writes.{of_writes}
use Rattle.audit.proofs.Tabling.{flag-read, last-read, last-alone}

-- a list has numbers where its length is not 0
has-length : (xs : List ℕ) → has_numbers xs ≡ not (eqb (length xs) 0)
has-length [] = refl
has-length (x ∷ xs) = sym (ap not (ne_eqb (length (x ∷ xs)) 0 (λ q. absurd (omega (arith, q)))))

none-left : (xs : List ℕ) → has_numbers xs ≡ false → xs ≡ []
none-left [] h = refl
none-left (x ∷ xs) h = cc h

-- one number cut out of a list
cut-one : (xs : List ℕ) (i : ℕ) → i < length xs → take (i + 1 - i) (drop i xs) ≡ get_or xs i 0 ∷ []
cut-one xs i l = ap (λ (n : ℕ). take n (drop i xs)) (let e : i + 1 - i ≡ 1 = omega arith in e) ∙ one xs i l
  where
    one : (xs : List ℕ) (i : ℕ) → i < length xs → take 1 (drop i xs) ≡ get_or xs i 0 ∷ []
    one [] i l = absurd (omega (arith, l))
    one (x ∷ xs) zero l = refl
    one (x ∷ xs) (suc i) l = one xs i (omega (arith, l))

module _ (a : Audited) (steps : List Event) (counts : List ℕ) (base : List Edge) (sources lasts starts nexts : List (List ℕ)) (is : IsPlacing a steps counts base sources lasts starts nexts) where
  abbrev pub runs : List (List Step)
  runs = runs_in a

  told_here : Told a.program.words a.log runs
  told_here = told (threads_of a.program a.log.limits (taken_in a.log)) (tallies_of a.program a.log.limits (taken_in a.log)) a.program.words a.log runs is.fits

  as_many : length a.log.threads ≡ length runs
  as_many = counted (threads_of a.program a.log.limits (taken_in a.log)) (tallies_of a.program a.log.limits (taken_in a.log)) a.program.words a.log runs is.fits

  -- the writes to a word
  pub row-is : (word : ℕ) (row : List ℕ) → word < length a.log.last_tags → row ≡ get_or sources word row → row ≡ writes_to a.log runs word
  row-is word row l e = e ∙ get_or_default sources word row [] (let w = is.rows.words in omega (arith, w, l)) ∙ is.rows.written word l

  -- one of them has a place
  pub write-inside : (word i : ℕ) (row : List ℕ) → row ≡ writes_to a.log runs word → i < length (writes_to a.log runs word) → get_or row i 0 < length (placed_list a.log runs)
  write-inside word i row e l =
      let P : List ℕ → Type 0 = λ xs. get_or xs i 0 < length (placed_list a.log runs) in
      subst P (sym e) (of_writes a.program.words a.log runs told_here as_many word (get_or (writes_to a.log runs word) i 0) (Contains-get_or (writes_to a.log runs word) i 0 l)).0

  -- the last reads that entries tell of
  pub reads-is : (s : ℕ) (row : List ℕ) → s < length (placed_list a.log runs) → row ≡ get_or lasts s row → row ≡ reads_at a.log runs s
  reads-is s row l e = e ∙ get_or_default lasts s row [] (let w = is.rows.positions in omega (arith, w, l)) ∙ is.rows.read s l

  pub read-is : (s : ℕ) (row : List ℕ) (empty : Bool) → s < length (placed_list a.log runs) → row ≡ get_or lasts s row → empty ≡ eqb (length row) 0 → not empty ≡ is_read a.log (placed_at a.log runs s)
  read-is s row empty l e q = ap not q ∙ sym (has-length row) ∙ ap has_numbers (reads-is s row l e) ∙ flag-read a.program.words a.log runs told_here as_many s

  pub last-some : (s : ℕ) (row : List ℕ) (empty : Bool) → s < length (placed_list a.log runs) → row ≡ get_or lasts s row → empty ≡ eqb (length row) 0 → empty ≡ false → row ≡ last_reads_of a.log runs s
  last-some s row empty l e q f =
      let r = reads-is s row l e in
      r ∙ sym (last-read a.program.words a.log runs told_here as_many s (sym (ap has_numbers r) ∙ has-length row ∙ ap not (sym q ∙ f)))

  pub last-none : (word i : ℕ) (writes row : List ℕ) (empty : Bool) → writes ≡ writes_to a.log runs word → i < length (writes_to a.log runs word) → row ≡ get_or lasts (get_or writes i 0) row → empty ≡ eqb (length row) 0 → empty ≡ true →
      take (i + 1 - i) (drop i writes) ≡ last_reads_of a.log runs (get_or (writes_to a.log runs word) i 0)
  last-none word i writes row empty w l e q t =
      let m = write-inside word i writes w l in
      let r = reads-is (get_or writes i 0) row m e in
      let s : get_or writes i 0 ≡ get_or (writes_to a.log runs word) i 0 = ap (λ (xs : List ℕ). get_or xs i 0) w in
      cut-one writes i (let n = ap (λ (xs : List ℕ). length xs) w in omega (arith, n, l)) ∙
      sym (last-alone a.program.words a.log runs told_here as_many (get_or writes i 0) (sym (ap has_numbers r) ∙ has-length row ∙ ap not (sym q ∙ t))) ∙ ap (last_reads_of a.log runs) s

  -- where the writes of each thread begin
  pub starts-is : (word : ℕ) (row : List ℕ) → word < length a.log.last_tags → row ≡ get_or starts word row → row ≡ map (start_of a.log runs word) (range_with_len 0 (length a.log.threads + 1))
  starts-is word row l e =
      e ∙ ap (λ (xs : List (List ℕ)). get_or xs word row) is.begun ∙
      get_or-map (starts_in steps (length a.log.threads)) sources word [] row (let w = is.rows.words in omega (arith, w, l)) ∙ ap (starts_in steps (length a.log.threads)) (is.rows.written word l) ∙
      ap (λ (xs : List Event). starts_in xs (length a.log.threads) (writes_to a.log runs word)) is.listed

  pub starts-long : (word : ℕ) (row : List ℕ) → word < length a.log.last_tags → row ≡ get_or starts word row → length row ≡ length a.log.threads + 1
  starts-long word row l e = ap (λ (xs : List ℕ). length xs) (starts-is word row l e) ∙ length-map-range_with_len (start_of a.log runs word) 0 (length a.log.threads + 1)

  pub start-at : (word t : ℕ) (row : List ℕ) → word < length a.log.last_tags → row ≡ get_or starts word row → t ≤ length a.log.threads → get_or row t 0 ≡ start_of a.log runs word t
  start-at word t row l e m = ap (λ (xs : List ℕ). get_or xs t 0) (starts-is word row l e) ∙ get_or-map-range_with_len (start_of a.log runs word) 0 (length a.log.threads + 1) t t 0 (omega (arith, m)) (omega arith)

  pub threads-long : length (placed_counts a.log runs) ≡ length a.log.threads
  threads-long = counts-length a.log runs

  -- the next one that was read
  flag-at : (word k : ℕ) → word < length a.log.last_tags → k < length (writes_to a.log runs word) →
      get_or (map (λ p. has_numbers (row_at lasts p)) (row_at sources word)) k false ≡ is_read a.log (placed_at a.log runs (get_or (writes_to a.log runs word) k 0))
  flag-at word k l m =
      let w = is.rows.written word l in
      ap (λ (xs : List ℕ). get_or (map (λ p. has_numbers (row_at lasts p)) xs) k false) w ∙ get_or-map (λ p. has_numbers (row_at lasts p)) (writes_to a.log runs word) k 0 false m ∙
      ap has_numbers (is.rows.read (get_or (writes_to a.log runs word) k 0) (write-inside word k (writes_to a.log runs word) refl m)) ∙
      flag-read a.program.words a.log runs told_here as_many (get_or (writes_to a.log runs word) k 0)

  pub next-read : (word i from : ℕ) → word < length a.log.last_tags → i < length (writes_to a.log runs word) → is_read a.log (placed_at a.log runs (get_or (writes_to a.log runs word) i 0)) ≡ true →
      IsNextRival (rivalry_in a) word i from from
  next-read word i from l m r = record {
    later = omega arith;
    others = λ k b c d. absurd (omega (arith, b, c));
    rival = λ k. or_left (is_read a.log (placed_at a.log runs (get_or (writes_to a.log runs word) i 0))) (is_read a.log (placed_at a.log runs (get_or (writes_to a.log runs word) from 0))) r;
  }

  pub next-past : (word i from : ℕ) → length (writes_to a.log runs word) < from → IsNextRival (rivalry_in a) word i from from
  next-past word i from l = record {
    later = omega arith;
    others = λ k b c d. absurd (omega (arith, b, c));
    rival = λ k. absurd (omega (arith, l, k));
  }

  pub nexts-long : (word : ℕ) (row : List ℕ) → word < length a.log.last_tags → row ≡ get_or nexts word row → length row ≡ length (writes_to a.log runs word) + 1
  nexts-long word row l e =
      let w = is.rows.words in
      let d = e ∙ get_or_default nexts word row [] (let m = is.many in omega (arith, m, w, l)) in
      let n = (is.next word (omega (arith, w, l))).many in
      let f = length-map (row_at sources word) (λ p. has_numbers (row_at lasts p)) in
      let z = ap (λ (xs : List ℕ). length xs) (is.rows.written word l) in
      let y = ap (λ (xs : List ℕ). length xs) d in omega (arith, n, f, z, y)

  pub next-unread : (word i from : ℕ) (row : List ℕ) → word < length a.log.last_tags → row ≡ get_or nexts word row → from ≤ length (writes_to a.log runs word) →
      is_read a.log (placed_at a.log runs (get_or (writes_to a.log runs word) i 0)) ≡ false → IsNextRival (rivalry_in a) word i from (get_or row from 0)
  next-unread word i from row l e m f = subst (IsNextRival (rivalry_in a) word i from) (sym (ap (λ (xs : List ℕ). get_or xs from 0) d)) (record {
    later = next.later;
    others = λ k b c d. none k d (sym (flag-at word k l d) ∙ next.unset k b c);
    rival = λ k. or_right (is_read a.log (placed_at a.log runs (get_or (writes_to a.log runs word) i 0))) (is_read a.log (placed_at a.log runs (get_or (writes_to a.log runs word) (get_or (row_at nexts word) from 0) 0)))
        (sym (flag-at word (get_or (row_at nexts word) from 0) l k) ∙ next.at (let x = flags in omega (arith, x, k)));
  })
    where
      d : row ≡ row_at nexts word
      d = e ∙ get_or_default nexts word row [] (let m = is.many in let w = is.rows.words in omega (arith, m, w, l))

      flags : length (map (λ p. has_numbers (row_at lasts p)) (row_at sources word)) ≡ length (writes_to a.log runs word)
      flags = length-map (row_at sources word) (λ p. has_numbers (row_at lasts p)) ∙ ap (λ (xs : List ℕ). length xs) (is.rows.written word l)

      next : IsNextSet (map (λ p. has_numbers (row_at lasts p)) (row_at sources word)) from (get_or (row_at nexts word) from 0)
      next = (is.next word (let w = is.rows.words in omega (arith, w, l))).each from (let x = flags in omega (arith, x, m))

      none : (k : ℕ) → k < length (writes_to a.log runs word) → is_read a.log (placed_at a.log runs (get_or (writes_to a.log runs word) k 0)) ≡ false →
          (is_read a.log (placed_at a.log runs (get_or (writes_to a.log runs word) i 0)) || is_read a.log (placed_at a.log runs (get_or (writes_to a.log runs word) k 0))) ≡ false
      none k l h = rw f h

  -- the steps of a row of positions are of threads that are there
  pub steps-inside : (line : List ℕ) (order : List Event) → All (λ p. p < length (placed_list a.log runs)) line → order ≡ map (placed_at a.log runs) line → All (λ (e : Event). e.thread < length a.log.threads) order
  steps-inside line order h e = subst (All (λ (x : Event). x.thread < length a.log.threads)) (sym e)
      (λ k d l.
      let m : k < length line = (let n = length-map line (placed_at a.log runs) in omega (arith, n, l)) in
      let q = get_or-map (placed_at a.log runs) line k 0 d m in
      subst (λ (x : Event). x.thread < length a.log.threads) (sym q)
      (thread_below a.program.words a.log runs told_here as_many (placed_at a.log runs (get_or line k 0)) (placed_there a.program.words a.log runs told_here as_many (get_or line k 0) (h k 0 m))))
