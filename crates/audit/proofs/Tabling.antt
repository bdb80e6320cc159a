-- The tables of a search for a placing hold what the runs ask for.
use Rattle.std.proofs.Common.{◌≡◌, ℕ, ◌<◌, ◌^◌, Bool, true, false, List, [], ◌∷◌, length, get_or, map, refl, sym, ◌∙◌, ap, subst, arith, inl, inr}
use Rattle.std.specs.Prelude.{Contains, All, IfSome, Some, None, option_map}
use Rattle.std.specs.List.{filter_map}
use Rattle.std.proofs.lemmas.Bool.{cond-true, cond-false}
use Rattle.std.proofs.lemmas.List.Elements.{Contains-get_or}
use Rattle.light_base.specs.declared.tag.Event.{Event}
use Rattle.light_base.specs.declared.tag.Tag.{Tag}
use Rattle.replay_model.specs.declared.Entry.{Entry}
use Rattle.replay_model.specs.Steps.{Step}
use Rattle.replay_model.specs.Logs.{Log, thread_of, HasEntry, first_event, last_event}
use Rattle.replay_model.specs.Orders.{place}
use Rattle.replay_laws.proofs.Skip.{Told}
use Rattle.replay_laws.proofs.Places.{entry_thread}
use Rattle.constraints.specs.declared.placed.Placed.{Placed}
use Rattle.constraints.specs.Positions.{thread_numbers}
use Rattle.constraints.specs.Building.{HasEvents, placed_in}
use Rattle.constraints.proofs.Members.{contains_none, contains_here, of_map, in_map, of_flat_map, in_flat_map, in_range, same_rising}
use Rattle.constraints.proofs.Strict.{of_filter_map, in_filter_map}
use Rattle.constraints.proofs.Listing.{is-before}
use Rattle.replayer.specs.declared.notes.Written.{Written}
use Rattle.replayer.specs.Notes.{AreWrites}
use Rattle.audit.specs.declared.rows.Mark.{Mark}
use Rattle.audit.specs.Positions.{placed_list, placed_at, position_of}
use Rattle.audit.specs.Constraints.{writes_to, is_read, is_last_of, last_reads_of}
use Rattle.audit.specs.Rows.{row_at, AreRows}
use Rattle.audit.specs.Tables.{HasSteps, placed_entries_in, write_mark, read_mark, has_numbers, reads_at}
use Rattle.audit.proofs.Listed.{list_before, in_list, at-position, position-at, position-below, of_positions, in_positions, positions-rising}
use Rattle.audit.proofs.Writes.{read-entry, entry-read, last-entry, entry-last, of_writes, in_writes, writes-rising}
use Rattle.audit.proofs.Keeping.{source_placed, first_placed, last_placed}

-- one answers true exactly where the other does
same_answers : (a b : Bool) → (a ≡ true → b ≡ true) → (b ≡ true → a ≡ true) → a ≡ b
same_answers true b f g = sym (f refl)
same_answers false true f g = g refl
same_answers false false f g = refl

abbrev mark : ℕ → ℕ → Mark
mark row number = record { row = row; number = number }

one : (a b : Mark) → Some a ≡ Some b → a ≡ b
one a b h = cc

has-some : (xs : List ℕ) (n : ℕ) → Contains xs n → has_numbers xs ≡ true
has-some [] n c = absurd (contains_none n c)
has-some (x ∷ xs) n c = refl

some-has : (xs : List ℕ) → has_numbers xs ≡ true → (n : ℕ) × Contains xs n
some-has [] h = cc h
some-has (x ∷ xs) h = (x, contains_here x xs)

module _ (initial : List ℕ) (log : Log) (runs : List (List Step)) (told : Told initial log runs) (counted : length log.threads ≡ length runs) where
  -- a write has numbers in its row of last reads exactly where it was read
  pub flag-read : (s : ℕ) → has_numbers (reads_at log runs s) ≡ is_read log (placed_at log runs s)
  flag-read s = same_answers (has_numbers (reads_at log runs s)) (is_read log (placed_at log runs s))
      (λ h.
      let (n, c) = some-has (reads_at log runs s) h in
      let (l, t) = of_positions log runs (is_last_of log (Some (placed_at log runs s))) n c in
      let (a, e, q, k) = last-entry log (Some (placed_at log runs s)) (placed_at log runs n) t in
      entry-read log (placed_at log runs s) ((placed_at log runs n).thread, a, e, q))
      (λ h.
      let (t, a, c, q) = read-entry log (placed_at log runs s) h in
      has-some (reads_at log runs s) (position_of log runs (last_event t a)) (read-there s t a c q))
    where
      read-there : (s t : ℕ) (a : Entry) → HasEntry log t a → a.source ≡ Some (placed_at log runs s) → Contains (reads_at log runs s) (position_of log runs (last_event t a))
      read-there s t a c q =
          let is = last_placed log runs t a c in
          in_positions log runs (is_last_of log (Some (placed_at log runs s))) (position_of log runs (last_event t a)) (position-below initial log runs told counted (last_event t a) is)
          (subst (λ (x : Event). is_last_of log (Some (placed_at log runs s)) x ≡ true) (sym (at-position initial log runs told counted (last_event t a) is)) (entry-last log (Some (placed_at log runs s)) t a c q))

  -- the last reads of a write, by its row
  pub last-read : (s : ℕ) → has_numbers (reads_at log runs s) ≡ true → last_reads_of log runs s ≡ reads_at log runs s
  unfolding last_reads_of
  last-read s h = cond-true (is_read log (placed_at log runs s)) (reads_at log runs s) (s ∷ []) (sym (flag-read s) ∙ h)

  pub last-alone : (s : ℕ) → has_numbers (reads_at log runs s) ≡ false → last_reads_of log runs s ≡ s ∷ []
  unfolding last_reads_of
  last-alone s h = cond-false (is_read log (placed_at log runs s)) (reads_at log runs s) (s ∷ []) (sym (flag-read s) ∙ h)

  -- the list has the steps that the log names
  pub has-steps : length (placed_list log runs) < 2 ^ 32 → HasSteps (placed_list log runs) log
  has-steps small = record {
    order = λ i j d l m. is-before (get_or (placed_list log runs) i d) (get_or (placed_list log runs) j d) (list_before initial log runs told counted i j d l m);
    small = small;
    entries = λ t k d l. has t (get_or (thread_of log t).entries k d) (Contains-get_or (thread_of log t).entries k d l);
    last_tags = λ k d l. tagged (get_or log.last_tags k d) (Contains-get_or log.last_tags k d l);
  }
    where
      has : (t : ℕ) (a : Entry) → HasEntry log t a → HasEvents (placed_list log runs) t a
      has t a c = record {
        source = source a.source refl;
        first = in_list initial log runs told counted (first_event t a) (first_placed log runs t a c);
        last = in_list initial log runs told counted (last_event t a) (last_placed log runs t a c);
      }
        where
          source : (tag : Tag) → a.source ≡ tag → IfSome tag (λ (e : Event). Contains (placed_list log runs) e)
          source None q = tt
          source (Some e) q = in_list initial log runs told counted e (source_placed log runs t a e c q)

      tagged : (tag : Tag) → Contains log.last_tags tag → IfSome tag (λ (e : Event). Contains (placed_list log runs) e)
      tagged None c = tt
      tagged (Some e) c = in_list initial log runs told counted e (inl (inl (inr c)))

  -- ---- the writes of each word

  module _ (writes : List Written) (are : AreWrites runs writes) where
    pub writes-listed : All (λ (write : Written). Contains (placed_list log runs) write.event) writes
    writes-listed k d l =
        let c = Contains-get_or writes k d l in
        let (v, hw) = are.only (get_or writes k d) c in
        in_list initial log runs told counted (get_or writes k d).event (inr ((get_or writes k d).word, v, hw))

    pub writes-row : (words : ℕ) (rows : List (List ℕ)) → AreRows words (map (write_mark (placed_list log runs)) writes) rows → (word : ℕ) → word < words → row_at rows word ≡ writes_to log runs word
    writes-row words rows is word l = same_rising (row_at rows word) (writes_to log runs word) (is.rising word l) (writes-rising initial log runs told counted word) there back
      where
        there : (n : ℕ) → Contains (row_at rows word) n → Contains (writes_to log runs word) n
        there n c =
            let (w, d, q) = of_map (write_mark (placed_list log runs)) writes (record { row = word; number = n }) ((is.holds word n l).0 c) in
            let (v, hw) = are.only w d in
            let a : w.word ≡ word = ap (λ (m : Mark). m.row) q in
            let b : position_of log runs w.event ≡ n = ap (λ (m : Mark). m.number) q in
            let P : ℕ → Type 0 = λ x. Contains (writes_to log runs x) (position_of log runs w.event) in
            let Q : ℕ → Type 0 = λ x. Contains (writes_to log runs word) x in
            subst Q b (subst P a (in_writes initial log runs told counted w.word v w.event hw))

        back : (n : ℕ) → Contains (writes_to log runs word) n → Contains (row_at rows word) n
        back n c =
            let (m, v, hw) = of_writes initial log runs told counted word n c in
            let d = in_map (write_mark (placed_list log runs)) writes (record { event = placed_at log runs n; word = word }) (are.all (placed_at log runs n) word v hw) in
            let P : ℕ → Type 0 = λ x. Contains (map (write_mark (placed_list log runs)) writes) (record { row = word; number = x }) in
            (is.holds word n l).1 (subst P (position-at initial log runs told counted n m) d)

  -- ---- the last reads of each step

  abbrev marks : List Mark
  marks = filter_map read_mark (placed_entries_in (placed_list log runs) log)

  -- what a mark tells of
  of-mark : (s n : ℕ) → Contains marks (record { row = s; number = n }) →
      (t : ℕ) × (a : Entry) × (x : Event) × HasEntry log t a × (a.source ≡ Some x) × (position_of log runs x ≡ s) × (position_of log runs (last_event t a) ≡ n)
  of-mark s n c =
      let (p, d, q) = of_filter_map read_mark (placed_entries_in (placed_list log runs) log) (record { row = s; number = n }) c in
      let (t, u, e) = of_flat_map (λ t. map (placed_in (placed_list log runs) t) (thread_of log t).entries) (thread_numbers log) p d in
      let (a, h, r) = of_map (placed_in (placed_list log runs) t) (thread_of log t).entries p e in
      by t a h a.source refl (let P : Placed → Type 0 = λ y. read_mark y ≡ Some (record { row = s; number = n }) in subst P (sym r) q)
    where
      by : (t : ℕ) (a : Entry) → HasEntry log t a → (tag : Tag) → a.source ≡ tag →
          option_map {U = Mark} (λ source. record { row = source; number = position_of log runs (last_event t a) }) (option_map (place (placed_list log runs)) tag) ≡ Some (record { row = s; number = n }) →
          (t : ℕ) × (a : Entry) × (x : Event) × HasEntry log t a × (a.source ≡ Some x) × (position_of log runs x ≡ s) × (position_of log runs (last_event t a) ≡ n)
      by t a h None q e = cc e
      by t a h (Some x) q e =
          let m : mark (position_of log runs x) (position_of log runs (last_event t a)) ≡ mark s n = one (mark (position_of log runs x) (position_of log runs (last_event t a))) (mark s n) e in
          (t, a, x, h, q, ap (λ (m : Mark). m.row) m, ap (λ (m : Mark). m.number) m)

  in-mark : (t : ℕ) (a : Entry) (x : Event) → HasEntry log t a → a.source ≡ Some x → Contains marks (record { row = position_of log runs x; number = position_of log runs (last_event t a) })
  in-mark t a x h q =
      let l = entry_thread log t a h in
      in_filter_map read_mark (placed_entries_in (placed_list log runs) log) (placed_in (placed_list log runs) t a) (record { row = position_of log runs x; number = position_of log runs (last_event t a) })
      (in_flat_map (λ t. map (placed_in (placed_list log runs) t) (thread_of log t).entries) (thread_numbers log) t (placed_in (placed_list log runs) t a) (in_range 0 (length log.threads) t (omega arith) (omega (arith, l)))
      (in_map (placed_in (placed_list log runs) t) (thread_of log t).entries a h))
      (ap (λ (tag : Tag). option_map {U = Mark} (λ source. record { row = source; number = position_of log runs (last_event t a) }) (option_map (place (placed_list log runs)) tag)) q)

  pub marks-inside : (marked : List Mark) → marked ≡ marks → All (λ (mark : Mark). mark.row < length (placed_list log runs)) marked
  marks-inside marked e k d l =
      let c : Contains marks (get_or marked k d) = (let P : List Mark → Type 0 = λ ms. Contains ms (get_or marked k d) in subst P e (Contains-get_or marked k d l)) in
      let (t, a, x, h, q, r, m) = of-mark (get_or marked k d).row (get_or marked k d).number c in
      let b = position-below initial log runs told counted x (source_placed log runs t a x h q) in
      omega (arith, b, r)

  pub reads-row : (count : ℕ) (rows : List (List ℕ)) → count ≡ length (placed_list log runs) → AreRows count marks rows → (s : ℕ) → s < count → row_at rows s ≡ reads_at log runs s
  reads-row count rows e is s l = same_rising (row_at rows s) (reads_at log runs s) (is.rising s l) (positions-rising log runs (is_last_of log (Some (placed_at log runs s)))) there back
    where
      there : (n : ℕ) → Contains (row_at rows s) n → Contains (reads_at log runs s) n
      there n c =
          let (t, a, x, h, q, r, m) = of-mark s n ((is.holds s n l).0 c) in
          let z : placed_at log runs s ≡ x = ap (placed_at log runs) (sym r) ∙ at-position initial log runs told counted x (source_placed log runs t a x h q) in
          let il = last_placed log runs t a h in
          let b = position-below initial log runs told counted (last_event t a) il in
          let P : ℕ → Type 0 = λ k. Contains (reads_at log runs s) k in
          subst P m (in_positions log runs (is_last_of log (Some (placed_at log runs s))) (position_of log runs (last_event t a)) b
          (subst (λ (y : Event). is_last_of log (Some (placed_at log runs s)) y ≡ true) (sym (at-position initial log runs told counted (last_event t a) il))
          (entry-last log (Some (placed_at log runs s)) t a h (q ∙ ap (λ (y : Event). Some y) (sym z)))))

      back : (n : ℕ) → Contains (reads_at log runs s) n → Contains (row_at rows s) n
      back n c =
          let (m, t) = of_positions log runs (is_last_of log (Some (placed_at log runs s))) n c in
          let (a, h, q, k) = last-entry log (Some (placed_at log runs s)) (placed_at log runs n) t in
          let i : position_of log runs (placed_at log runs s) ≡ s = position-at initial log runs told counted s (omega (arith, l, e)) in
          let j : position_of log runs (last_event (placed_at log runs n).thread a) ≡ n = ap (position_of log runs) k ∙ position-at initial log runs told counted n m in
          let P : ℕ → Type 0 = λ x. Contains marks (record { row = x; number = position_of log runs (last_event (placed_at log runs n).thread a) }) in
          let Q : ℕ → Type 0 = λ x. Contains marks (record { row = s; number = x }) in
          (is.holds s n l).1 (subst Q j (subst P i (in-mark (placed_at log runs n).thread a (placed_at log runs s) h q)))
