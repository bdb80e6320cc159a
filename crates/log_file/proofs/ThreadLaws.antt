-- Entries and threads: their tests are what a well-formed log keeps.
use Rattle.std.proofs.Common.{◌≡◌, ◌≢◌, ℕ, zero, suc, ◌-◌, ◌<◌, ◌≤◌, Bool, true, false, eqb, leb, List, [], ◌++◌, length, take, get_or, sym, ap, subst, ◌∙◌, arith, inl, inr, ◌⊎◌}
use Rattle.std.specs.Prelude.{Contains}
use Rattle.std.specs.List.{list_any}
use Rattle.std.proofs.lemmas.Bool.{cases_Bool, cases_lt, eqb-true, eq-eqb, leb-true, le-leb, and_parts, and_from}
use Rattle.std.proofs.lemmas.List.{length-take-le, get_or-take, get_or_default}
use Rattle.std.proofs.lemmas.List.Elements.{Contains-get_or}
use Rattle.std.proofs.lemmas.List.Folds.{list_any_at}
use Rattle.light_base.specs.declared.tag.Tag.{Tag}
use Rattle.replay_model.specs.declared.Entry.{Entry}
use Rattle.replay_model.specs.Steps.{same_tag}
use Rattle.replay_model.specs.MoreReads.{is_entry_for}
use Rattle.replay_model.proofs.Tags.{same_tag-true, same_tag-same, any-element}
use Rattle.replay_model.specs.Logs.{ThreadLog, Log}
use Rattle.replay_model.specs.WellFormed.{IsEntryOf, IsThreadOf, IsWellFormed}
use Rattle.dep_log.specs.Buckets.{no_entry}
use Rattle.log_file.specs.LogReading.{newest_first, ends_late}
use Rattle.log_file.proofs.RowLaws.{AllAfter, AllAfter-at, AllAfter-from}
use Rattle.log_file.proofs.TagLaws.{steps_in, tag_of_log, tag_is_taken}
use Rattle.log_file.proofs.EntryLaws.{IsNext}

-- a test that none of some entries passes fails at each
none_at : (p : Entry → Bool) (entries : List Entry) (i : ℕ) (d : Entry) → i < length entries → list_any p entries ≡ false → p (get_or entries i d) ≡ false
none_at p entries i d lt none = go (cases_Bool (p (get_or entries i d)))
  where
    go : (p (get_or entries i d) ≡ true) ⊎ (p (get_or entries i d) ≡ false) → p (get_or entries i d) ≡ false
    go (inl t) = let some = list_any_at p entries i d lt t in absurd (cc (some, none))
    go (inr f) = f

-- and one that fails at each is passed by none
none_from : (p : Entry → Bool) (entries : List Entry) → ((i : ℕ) (d : Entry) → i < length entries → p (get_or entries i d) ≡ false) → list_any p entries ≡ false
none_from p entries each = go (cases_Bool (list_any p entries))
  where
    go : (list_any p entries ≡ true) ⊎ (list_any p entries ≡ false) → list_any p entries ≡ false
    go (inl t) = let (entry, c, passes) = any-element p entries t in let fails = each c.0 entry c.1 in let same = ap p c.2 ∙ passes in absurd (cc (fails, same))
    go (inr f) = f

-- entries of other words or sources, and ones that end before a step
unlike : (f e : Entry) → ((f.word ≡ e.word) × (f.source ≡ e.source) → ⊥) → is_entry_for e.word e.source f ≡ false
unlike f e other = go (cases_Bool (is_entry_for e.word e.source f))
  where
    go : (is_entry_for e.word e.source f ≡ true) ⊎ (is_entry_for e.word e.source f ≡ false) → is_entry_for e.word e.source f ≡ false
    go (inl t) =
        let both = and_parts (eqb e.word f.word) (same_tag e.source f.source) t in absurd (other (sym (eqb-true e.word f.word both.0), sym (same_tag-true e.source f.source both.1)))
    go (inr f) = f

early : (f e : Entry) → (f.word ≡ e.word → f.last < e.first) → ends_late e.word e.first f ≡ false
early f e before = go (cases_Bool (ends_late e.word e.first f))
  where
    go : (ends_late e.word e.first f ≡ true) ⊎ (ends_late e.word e.first f ≡ false) → ends_late e.word e.first f ≡ false
    go (inl t) =
        let both = and_parts (eqb e.word f.word) (leb e.first f.last) t in
        let less = before (sym (eqb-true e.word f.word both.0)) in
        absurd (omega (arith, less, leb-true e.first f.last both.1))
    go (inr f) = f

-- the newest of the first entries
newest_at : (entries : List Entry) (j : ℕ) (d : Entry) → j < length entries → newest_first (take (suc j) entries) ≡ (get_or entries j d).first
newest_at entries j d lt =
    let len : length (take (suc j) entries) ≡ suc j = length-take-le (suc j) entries lt in
    let place : length (take (suc j) entries) - 1 ≡ j = omega (arith, len) in
    ap (λ (k : ℕ). (get_or (take (suc j) entries) k no_entry).first) place ∙ ap (λ (e : Entry). e.first) (get_or-take (suc j) entries j no_entry (omega arith) ∙ get_or_default entries j no_entry d lt)

module _ (words : ℕ) (steps : List ℕ) (own : ℕ) (entries : List Entry) where
  -- each entry may stand behind those before it
  abbrev pub AreNext : Type 0
  AreNext = AllAfter (IsNext words steps own) [] entries

  next_at : AreNext → (j : ℕ) (d : Entry) → j < length entries → IsNext words steps own (take j entries) (get_or entries j d)
  next_at all j d lt = AllAfter-at (IsNext words steps own) [] entries all j d lt

  -- so their firsts rise
  pub rises : AreNext → (i j : ℕ) (d : Entry) → i < j → j < length entries → (get_or entries i d).first < (get_or entries j d).first
  rises all i zero d lt within = absurd (omega (arith, lt))
  rises all i (suc j) d lt within =
      let newer : (get_or entries j d).first < (get_or entries (suc j) d).first = omega (arith, (next_at all (suc j) d within).order, newest_at entries j d (omega arith)) in
      go newer (λ less. rises all i j d less (omega arith)) (cases_lt i j)
    where
      go : (get_or entries j d).first < (get_or entries (suc j) d).first → (i < j → (get_or entries i d).first < (get_or entries j d).first) → (i < j) ⊎ (j ≤ i) →
          (get_or entries i d).first < (get_or entries (suc j) d).first
      go newer older (inl less) = let old = older less in omega (arith, newer, old)
      go newer older (inr most) = let same : i ≡ j = omega arith in subst (λ (k : ℕ). (get_or entries k d).first < (get_or entries (suc j) d).first) (sym same) newer

  -- an entry among those before another
  earlier : (i j : ℕ) (d : Entry) → i < j → j < length entries → (i < length (take j entries)) × (get_or (take j entries) i d ≡ get_or entries i d)
  earlier i j d lt within = (omega (arith, length-take-le j entries (omega arith)), get_or-take j entries i d lt)

  -- those of one word have different sources
  pub differ : AreNext → (i j : ℕ) (d : Entry) → i < j → j < length entries → (get_or entries i d).word ≡ (get_or entries j d).word → (get_or entries i d).source ≢ (get_or entries j d).source
  differ all i j d lt within word source =
      let there = earlier i j d lt within in
      let e = get_or entries j d in
      let f = get_or entries i d in
      let none = none_at (is_entry_for e.word e.source) (take j entries) i d there.0 (next_at all j d within).once in
      let is : is_entry_for e.word e.source f ≡ true =
      and_from (eqb e.word f.word) (same_tag e.source f.source) (eq-eqb e.word f.word (sym word)) (subst (λ (t : Tag). same_tag e.source t ≡ true) (sym source) (same_tag-same e.source)) in
      let here = ap (is_entry_for e.word e.source) there.1 ∙ is in
      cc (none, here)

  -- and do not overlap
  pub part_ways : AreNext → (i j : ℕ) (d : Entry) → i < j → j < length entries → (get_or entries i d).word ≡ (get_or entries j d).word → (get_or entries i d).last < (get_or entries j d).first
  part_ways all i j d lt within word = go (cases_lt (get_or entries i d).last (get_or entries j d).first)
    where
      go : ((get_or entries i d).last < (get_or entries j d).first) ⊎ ((get_or entries j d).first ≤ (get_or entries i d).last) → (get_or entries i d).last < (get_or entries j d).first
      go (inl less) = less
      go (inr late) =
          let there = earlier i j d lt within in
          let e = get_or entries j d in
          let f = get_or entries i d in
          let none = none_at (ends_late e.word e.first) (take j entries) i d there.0 (next_at all j d within).apart in
          let is : ends_late e.word e.first f ≡ true = and_from (eqb e.word f.word) (leb e.first f.last) (eq-eqb e.word f.word (sym word)) (le-leb e.first f.last late) in
          let here = ap (ends_late e.word e.first) there.1 ∙ is in
          absurd (cc (none, here))

-- ---- both ways

module _ (log : Log) (thread : ThreadLog) where
  -- entries that were read are those of a well-formed log
  pub entries_formed : AreNext (length log.last_tags) (steps_in log) thread.steps thread.entries → (entry : Entry) → Contains thread.entries entry → IsEntryOf log thread entry
  entries_formed all entry (i, lt, is) =
      let next = next_at (length log.last_tags) (steps_in log) thread.steps thread.entries all i entry lt in
      let P : Entry → Type 0 = λ e. IsNext (length log.last_tags) (steps_in log) thread.steps (take i thread.entries) e in
      let own : P entry = subst P is next in
      record {
        low = omega (arith, own.order);
        between = own.between;
        high = own.high;
        source = tag_of_log log entry.source own.source.taken;
        word = own.word;
      }

  -- and those of a well-formed log are read
  pub entries_next : IsWellFormed log → IsThreadOf log thread → AreNext (length log.last_tags) (steps_in log) thread.steps thread.entries
  entries_next formed t = AllAfter-from (IsNext (length log.last_tags) (steps_in log) thread.steps) [] thread.entries each
    where
      es : List Entry
      es = thread.entries

      among : (i : ℕ) (d : Entry) → i < length es → Contains es (get_or es i d)
      among i d lt = Contains-get_or es i d lt

      order : (i : ℕ) (d : Entry) → i < length es → newest_first (take i es) < (get_or es i d).first
      order zero d lt = let low = (t.each (get_or es 0 d) (among 0 d lt)).low in omega (arith, low)
      order (suc j) d lt = let rise = t.rising j (suc j) d (omega arith) lt in omega (arith, rise, newest_at es j d (omega arith))

      other : (i : ℕ) (d : Entry) (k : ℕ) (f : Entry) → i < length es → k < length (take i es) → (k < i) × (get_or (take i es) k f ≡ get_or es k d)
      other i d k f lt within =
          let less : k < i = omega (arith, within, length-take-le i es (omega arith)) in
          (less, get_or-take i es k f less ∙ get_or_default es k f d (omega arith))

      once : (i : ℕ) (d : Entry) → i < length es → list_any (is_entry_for (get_or es i d).word (get_or es i d).source) (take i es) ≡ false
      once i d lt =
          let e = get_or es i d in
          none_from (is_entry_for e.word e.source) (take i es) (λ k f within.
          let there = other i d k f lt within in
          unlike (get_or (take i es) k f) e (λ both. t.once k i d there.0 lt (ap (λ (x : Entry). x.word) (sym there.1) ∙ both.0) (ap (λ (x : Entry). x.source) (sym there.1) ∙ both.1)))

      apart : (i : ℕ) (d : Entry) → i < length es → list_any (ends_late (get_or es i d).word (get_or es i d).first) (take i es) ≡ false
      apart i d lt =
          let e = get_or es i d in
          none_from (ends_late e.word e.first) (take i es) (λ k f within.
          let there = other i d k f lt within in
          early (get_or (take i es) k f) e (λ word.
          let less = t.apart k i d there.0 lt (ap (λ (x : Entry). x.word) (sym there.1) ∙ word) in
          subst (λ (x : Entry). x.last < e.first) (sym there.1) less))

      each : (i : ℕ) (d : Entry) → i < length es → IsNext (length log.last_tags) (steps_in log) thread.steps ([] ++ take i es) (get_or es i d)
      each i d lt =
          let own = t.each (get_or es i d) (among i d lt) in
          record {
            order = order i d lt;
            between = own.between;
            high = own.high;
            source = tag_is_taken log formed (get_or es i d).source own.source;
            word = own.word;
            once = once i d lt;
            apart = apart i d lt;
          }
