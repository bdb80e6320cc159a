-- An order that respects a log serves the skip play, which makes the writes that the log names.
use Rattle.std.proofs.Common.{◌≡◌, ℕ, ◌<◌, ◌≤◌, List, length, refl, sym, ◌∙◌, ap, subst, arith, inl, inr, ◌⊎◌}
use Rattle.std.specs.Prelude.{◌≢◌, Some, None}
use Rattle.std.proofs.lemmas.List.{get_or_default}
use Rattle.std.proofs.lemmas.Bool.{cases_order}
use Rattle.replay_model.specs.Steps.{Event, Tag, Step}
use Rattle.replay_model.specs.declared.Entry.{Entry}
use Rattle.replay_model.specs.Threads.{Threads}
use Rattle.replay_model.specs.Logs.{Log, HasEntry, last_tag, first_event, last_event}
use Rattle.replay_model.specs.RunLogs.{Tallies}
use Rattle.replay_model.specs.Events.{IsKept, keeps}
use Rattle.replay_model.specs.Orders.{place, Respects}
use Rattle.replay_model.specs.Fitting.{HasWritten, Fits}
use Rattle.replay_model.proofs.Tags.{event_cases}
use Rattle.replay_laws.proofs.Places.{keeps-kept, kept-keeps}
use Rattle.replay_laws.proofs.Skip.{Told, IsOutside, HasLastTag, Serves, same_word}
use Rattle.replay_laws.proofs.Advance.{event_inside}
use Rattle.replay_laws.proofs.Told.{told_by_fit}

module _ (threads : Threads) (tallies : Tallies) (initial : List ℕ) (log : Log) (runs : List (List Step)) (order : List Event)
    (fits : Fits threads tallies initial log runs) (respects : Respects log order) where
  told : Told initial log runs
  told = told_by_fit threads tallies initial log runs fits

  -- an entry's first stands no later than its last
  first_last : (t : ℕ) (b : Entry) → HasEntry log t b → place order (first_event t b) ≤ place order (last_event t b)
  first_last t b h = go (cases_order b.first b.last)
    where
      go : (b.first ≡ b.last) ⊎ ((b.first < b.last) ⊎ (b.last < b.first)) → place order (first_event t b) ≤ place order (last_event t b)
      go (inl e) = let P : ℕ → Type 0 = λ n. place order (first_event t b) ≤ place order (record { thread = t; step = n }) in subst P e (omega arith)
      go (inr (inl l)) =
          let r = respects.rising (first_event t b) (last_event t b) (respects.all _ (inr (t, b, h, inl refl))) (respects.all _ (inr (t, b, h, inr refl))) refl l in omega arith
      go (inr (inr l)) = absurd (let x = (told.inside t b h).1 in omega arith)

  -- so a source stands before the last of its entry
  before_last : (t : ℕ) (b : Entry) (e : Event) → HasEntry log t b → b.source ≡ Some e → place order e < place order (last_event t b)
  before_last t b e h q = let f = respects.source_first t b e h q in let g = first_last t b h in omega arith

  -- another write that the log names comes after the entry's last, or before its source
  other_kept : (t : ℕ) (a : Entry) (e : Event) (v : ℕ) → HasEntry log t a → IsKept log e → HasWritten runs e a.word v → a.source ≢ Some e →
      IsOutside order t a e
  other_kept t a e v ha (inr end) w ne =
      let (word, value, wl, is, hw) = told.last_tags e end in
      let sw : word ≡ a.word = same_word runs e word a.word value v hw w in
      let is2 : last_tag log a.word ≡ Some e = subst (λ (x : ℕ). last_tag log x ≡ Some e) sw is in
      let (z, ti, tl) = respects.final t a ha (λ q. ne (q ∙ is2)) in
      let te : z ≡ e = let y : Some z ≡ Some e = sym ti ∙ is2 in cc y in
      inl (subst (λ (x : Event). place order (last_event t a) ≤ place order x) te tl)
  other_kept t a e v ha (inl (u, b, hb, is)) w ne = go a.source refl
    where
      same : a.word ≡ b.word
      same = let (x, y) = told.sources u b e hb is in same_word runs e a.word b.word v x w y

      go : (tag : Tag) → a.source ≡ tag → IsOutside order t a e
      go None q = inl (respects.from_initial t u a b e ha hb same q is)
      go (Some s) q = near (respects.apart t u a b s e ha hb same q is (λ se. ne (q ∙ ap Some se)))
        where
          near : (place order (last_event t a) ≤ place order e) ⊎ (place order (last_event u b) ≤ place order s) → IsOutside order t a e
          near (inl l) = inl l
          near (inr l) = let f = before_last u b e hb is in inr (s, q, omega arith)

  -- the last of these writes to a word is its last tag
  last_kept : (word : ℕ) → word < length initial → HasLastTag (keeps log) log runs order word
  last_kept word w = go (last_tag log word) refl
    where
      -- a write that the log names is the last tag, or the last tag is another write, which stands later
      upto : (e : Event) (v : ℕ) → HasWritten runs e word v → IsKept log e → (last_tag log word ≡ Some e) ⊎ ((z : Event) × (last_tag log word ≡ Some z) × (place order e ≤ place order z))
      upto e v hw (inr end) =
          let (x, y, xl, is, hx) = told.last_tags e end in
          inl (subst (λ (k : ℕ). last_tag log k ≡ Some e) (same_word runs e x word y v hx hw) is)
      upto e v hw (inl (u, b, hb, bq)) = near (last_tag log word) refl
        where
          same : b.word ≡ word
          same = let (y, hy) = told.sources u b e hb bq in same_word runs e b.word word y v hy hw

          later : b.source ≢ last_tag log b.word → (z : Event) × (last_tag log word ≡ Some z) × (place order e ≤ place order z)
          later n =
              let (z, zq, zl) = respects.final u b hb n in
              let f = before_last u b e hb bq in
              (z, subst (λ (k : ℕ). last_tag log k ≡ Some z) same zq, omega arith)

          near : (tag : Tag) → last_tag log word ≡ tag → (last_tag log word ≡ Some e) ⊎ ((z : Event) × (last_tag log word ≡ Some z) × (place order e ≤ place order z))
          near None q = inr (later (λ s. let no : Some e ≡ None = sym bq ∙ s ∙ ap (last_tag log) same ∙ q in cc no))
          near (Some z) q = at (event_cases e z)
            where
              at : (e ≡ z) ⊎ (e ≢ z) → (last_tag log word ≡ Some e) ⊎ ((z : Event) × (last_tag log word ≡ Some z) × (place order e ≤ place order z))
              at (inl s) = inl (q ∙ ap Some (sym s))
              at (inr n) = inr (later (λ s. let y : Some e ≡ Some z = sym bq ∙ s ∙ ap (last_tag log) same ∙ q in n (cc y)))

      go : (tag : Tag) → last_tag log word ≡ tag → HasLastTag (keeps log) log runs order word
      go None q = inl (q, λ e v k hw. none e (upto e v hw (keeps-kept log e k)))
        where
          none : (e : Event) → (last_tag log word ≡ Some e) ⊎ ((z : Event) × (last_tag log word ≡ Some z) × (place order e ≤ place order z)) → ⊥
          none e (inl s) = let no : None ≡ Some e = sym q ∙ s in cc no
          none e (inr (z, s, l)) = let no : None ≡ Some z = sym q ∙ s in cc no
      go (Some z) q =
          let l : word < length log.last_tags = let n = fits.words in omega arith in
          let (v, hw) = fits.last_tags word z w q in
          inr (z, v, q, kept-keeps log z (inr (word, l, get_or_default log.last_tags word (Some z) None l ∙ q)), hw, λ e v k hw. last e (upto e v hw (keeps-kept log e k)))
        where
          last : (e : Event) → (last_tag log word ≡ Some e) ⊎ ((x : Event) × (last_tag log word ≡ Some x) × (place order e ≤ place order x)) → place order e ≤ place order z
          last e (inl s) = let y : Some z ≡ Some e = sym q ∙ s in let same : z ≡ e = cc y in let p = ap (place order) same in omega arith
          last e (inr (x, s, l)) = let y : Some z ≡ Some x = sym q ∙ s in let same : z ≡ x = cc y in let p = ap (place order) same in omega arith

  -- the order serves the skip play
  pub kept_serves : Serves (length initial) (keeps log) log runs order
  kept_serves = record {
    once = respects.once;
    inside = λ e c. event_inside initial log runs told e (respects.only e c);
    rising = respects.rising;
    made = λ e word v k hw. respects.all e (inl (keeps-kept log e k));
    firsts = λ t a h. respects.all (first_event t a) (inr (t, a, h, inl refl));
    last_reads = λ t a h. respects.all (last_event t a) (inr (t, a, h, inr refl));
    sources = λ t a s h q. (kept-keeps log s (inl (t, a, h, q)), respects.source_first t a s h q);
    others = λ t a e v h k hw ne. other_kept t a e v h (keeps-kept log e k) hw ne;
    last_tags = last_kept;
  }
