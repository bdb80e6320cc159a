-- The base edges of placings, by positions, and how many steps each thread has.
use Rattle.std.proofs.Common.{◌≡◌, ℕ, zero, suc, ◌+◌, ◌<◌, ◌≤◌, Bool, true, false, cond, eqb, List, [], ◌∷◌, ◌++◌, length, get_or, map, refl, sym, ◌∙◌, ap, subst, arith, inl, inr, ◌⊎◌}
use Rattle.std.specs.Prelude.{◌≢◌, Contains, All, Option, Some, None, option_map}
use Rattle.std.specs.List.{flat_map, range_with_len, count_by}
use Rattle.std.proofs.lemmas.Bool.{cases_Bool, cases_eq, eq-eqb, ne_eqb}
use Rattle.std.proofs.lemmas.List.{get_or-map}
use Rattle.std.proofs.lemmas.List.Concat.{flat_map-append}
use Rattle.std.proofs.lemmas.List.Elements.{Contains-get_or}
use Rattle.light_base.specs.declared.tag.Event.{Event}
use Rattle.light_base.specs.declared.tag.Tag.{Tag}
use Rattle.replay_model.specs.declared.Entry.{Entry}
use Rattle.replay_model.specs.Steps.{Step, same_event, same_tag}
use Rattle.replay_model.specs.Logs.{Log, thread_of, HasEntry, last_tag, last_event}
use Rattle.replay_model.specs.WellFormed.{IsWellFormed}
use Rattle.replay_model.specs.Orders.{place}
use Rattle.replay_model.proofs.Tags.{event_cases, same_event-same, same_event-false}
use Rattle.replay_laws.proofs.Skip.{Told}
use Rattle.audit_laws.specs.Placings.{IsPlaced}
use Rattle.constraints.specs.declared.placed.Placed.{Placed}
use Rattle.constraints.specs.Positions.{thread_numbers}
use Rattle.constraints.specs.Constraints.{edges_to, edges_from}
use Rattle.constraints.specs.Building.{placed_in, is_at, placed_source_edges, placed_last_tag_edges, placed_edges}
use Rattle.constraints.proofs.Members.{contains_here, contains_next, of_flat_map, of_map, of_range}
use Rattle.constraints.proofs.Listed.{entry_is}
use Rattle.constraints.proofs.Points.{count-yes, count-no, count-none, count-all}
use Rattle.audit.specs.Positions.{placed_of_thread, placed_list, placed_counts, position_of}
use Rattle.audit.specs.Constraints.{writes_to, source_edges, last_tag_edges, entry_edges, word_edges, base_of}
use Rattle.audit.specs.Rows.{row_at}
use Rattle.audit.specs.Tables.{placed_entries_in, word_edges_in, base_in}
use Rattle.audit.proofs.Listed.{of_thread, one_position}
use Rattle.audit.proofs.Keeping.{source_placed}

flat_map-agree : {X Y : Type 0} (f g : X → List Y) (xs : List X) → ((x : X) → Contains xs x → f x ≡ g x) → flat_map f xs ≡ flat_map g xs
flat_map-agree f g [] h = refl
flat_map-agree f g (x ∷ xs) h = ap (λ ys. ys ++ flat_map f xs) (h x (contains_here x xs)) ∙ ap (λ ys. g x ++ ys) (flat_map-agree f g xs (λ y c. h y (contains_next x xs y c)))

map-agree : {X Y : Type 0} (f g : X → Y) (xs : List X) → ((x : X) → Contains xs x → f x ≡ g x) → map f xs ≡ map g xs
map-agree f g [] h = refl
map-agree f g (x ∷ xs) h = ap (λ y. y ∷ map f xs) (h x (contains_here x xs)) ∙ ap (λ ys. g x ∷ ys) (map-agree f g xs (λ y c. h y (contains_next x xs y c)))

flat_map-flat_map : {X Y Z : Type 0} (f : Y → List Z) (g : X → List Y) (xs : List X) → flat_map f (flat_map g xs) ≡ flat_map (λ x. flat_map f (g x)) xs
flat_map-flat_map f g [] = refl
flat_map-flat_map f g (x ∷ xs) = flat_map-append f (g x) (flat_map g xs) ∙ ap (λ ys. flat_map f (g x) ++ ys) (flat_map-flat_map f g xs)

flat_map-map : {X Y Z : Type 0} (f : Y → List Z) (g : X → Y) (xs : List X) → flat_map f (map g xs) ≡ flat_map (λ x. f (g x)) xs
flat_map-map f g [] = refl
flat_map-map f g (x ∷ xs) = ap (λ ys. f (g x) ++ ys) (flat_map-map f g xs)

-- ---- how many steps each thread has

count-append : {X : Type 0} (p : X → Bool) (xs ys : List X) → count_by p (xs ++ ys) ≡ count_by p xs + count_by p ys
count-append p [] ys = let z : count_by p [] ≡ 0 = refl in omega (arith, z)
count-append {X} p (x ∷ xs) ys = go (cases_Bool (p x)) (count-append p xs ys)
  where
    go : (p x ≡ true) ⊎ (p x ≡ false) → count_by p (xs ++ ys) ≡ count_by p xs + count_by p ys → count_by p (x ∷ xs ++ ys) ≡ count_by p (x ∷ xs) + count_by p ys
    go (inl t) ih = let a = count-yes p x (xs ++ ys) t in let b = count-yes p x xs t in omega (arith, a, b, ih)
    go (inr t) ih = let a = count-no p x (xs ++ ys) t in let b = count-no p x xs t in omega (arith, a, b, ih)

-- each list has elements with its own number
abbrev CountsIn : (ℕ → List Event) → ℕ → ℕ → ℕ → Type 0
CountsIn f u a n =
    ((u < a) → count_by (λ (e : Event). eqb e.thread u) (flat_map f (range_with_len a n)) ≡ 0) ×
    (a ≤ u → u < a + n → count_by (λ (e : Event). eqb e.thread u) (flat_map f (range_with_len a n)) ≡ length (f u))

count-in : (f : ℕ → List Event) → ((t : ℕ) (e : Event) → Contains (f t) e → e.thread ≡ t) → (u a n : ℕ) → CountsIn f u a n
count-in f own u a zero = (λ l. refl, λ l m. absurd (omega (arith, l, m)))
count-in f own u a (suc n) = go (count-in f own u (a + 1) n)
  where
    go : CountsIn f u (a + 1) n → CountsIn f u a (suc n)
    go (x, y) = (
      λ l.
          let r = x (omega (arith, l)) in
          let z = count-none (λ (e : Event). eqb e.thread u) (f a) (λ e c. ne_eqb e.thread u (λ q. let o = own a e c in absurd (omega (arith, q, o, l)))) in
          let s = count-append (λ (e : Event). eqb e.thread u) (f a) (flat_map f (range_with_len (a + 1) n)) in omega (arith, r, z, s),
      λ l m. at l m (cases_eq a u),
    )
      where
        at : a ≤ u → u < a + suc n → (a ≡ u) ⊎ (a ≡ u → ⊥) → count_by (λ (e : Event). eqb e.thread u) (f a ++ flat_map f (range_with_len (a + 1) n)) ≡ length (f u)
        at l m (inl q) =
            let r = x (omega (arith, q)) in
            let z = count-all (λ (e : Event). eqb e.thread u) (f a) (λ e c. eq-eqb e.thread u (own a e c ∙ q)) in
            let s = count-append (λ (e : Event). eqb e.thread u) (f a) (flat_map f (range_with_len (a + 1) n)) in
            let k : length (f a) ≡ length (f u) = ap (λ (t : ℕ). length (f t)) q in omega (arith, r, z, s, k)
        at l m (inr ne) =
            let b : a + 1 ≤ u = omega (arith, l, ne) in
            let r = y b (omega (arith, m)) in
            let z = count-none (λ (e : Event). eqb e.thread u) (f a) (λ e c. ne_eqb e.thread u (λ q. ne (sym (own a e c) ∙ q))) in
            let s = count-append (λ (e : Event). eqb e.thread u) (f a) (flat_map f (range_with_len (a + 1) n)) in omega (arith, r, z, s)

module _ (initial : List ℕ) (log : Log) (runs : List (List Step)) (told : Told initial log runs) (counted : length log.threads ≡ length runs) where
  pub counts-are : map (λ t. count_by (λ (e : Event). eqb e.thread t) (placed_list log runs)) (range_with_len 0 (length log.threads)) ≡ placed_counts log runs
  unfolding placed_list placed_counts
  counts-are = map-agree (λ t. count_by (λ (e : Event). eqb e.thread t) (flat_map (placed_of_thread log runs) (thread_numbers log))) (λ t. length (placed_of_thread log runs t)) (range_with_len 0 (length log.threads))
      (λ t c.
      let (l, m) = of_range 0 (length log.threads) t c in
      (count-in (placed_of_thread log runs) (λ u e d. (of_thread initial log runs told counted u e d).0) t 0 (length log.threads)).1 l m)

  -- ---- base edges

  module _ (formed : IsWellFormed log) (sources : List (List ℕ)) (words : length sources ≡ length log.last_tags)
      (written : (word : ℕ) → word < length log.last_tags → row_at sources word ≡ writes_to log runs word) (last_tags : List (Option ℕ))
      (tags : last_tags ≡ map (option_map (place (placed_list log runs))) log.last_tags) where
    final-of : (word : ℕ) → word < length log.last_tags → get_or last_tags word None ≡ option_map (position_of log runs) (last_tag log word)
    final-of word l = ap (λ (ts : List (Option ℕ)). get_or ts word None) tags ∙ get_or-map (option_map (place (placed_list log runs))) log.last_tags word None None l

    -- equal tags stand at one position
    same_place : (tag : Tag) (z : Event) → ((e : Event) → tag ≡ Some e → IsPlaced log runs e) → is_at (option_map (position_of log runs) tag) (position_of log runs z) ≡ same_tag tag (Some z)
    same_place None z h = refl
    same_place (Some x) z h = go (event_cases x z)
      where
        go : (x ≡ z) ⊎ (x ≢ z) → eqb (position_of log runs x) (position_of log runs z) ≡ same_event x z
        go (inl e) = eq-eqb (position_of log runs x) (position_of log runs z) (ap (position_of log runs) e) ∙ sym (let P : Event → Type 0 = λ y. same_event x y ≡ true in subst P e (same_event-same x))
        go (inr n) = ne_eqb (position_of log runs x) (position_of log runs z) (λ q. n (one_position initial log runs told counted x z (h x refl) q)) ∙ sym (same_event-false x z n)

    -- each entry asks for the same edges by positions
    placed-asks : (t : ℕ) (a : Entry) → HasEntry log t a → placed_edges sources last_tags (placed_in (placed_list log runs) t a) ≡ entry_edges log runs t a
    placed-asks t a h =
        ap (λ xs. xs ++ placed_last_tag_edges (placed_in (placed_list log runs) t a) (get_or last_tags a.word None)) (source a.source) ∙
        ap (λ xs. source_edges log runs t a a.source ++ xs) (ap (placed_last_tag_edges (placed_in (placed_list log runs) t a)) (final-of a.word word) ∙ final (last_tag log a.word) refl)
      where
        word : a.word < length log.last_tags
        word = (entry_is log formed t a h).word

        source : (tag : Tag) → placed_source_edges sources (placed_in (placed_list log runs) t a) (option_map (place (placed_list log runs)) tag) ≡ source_edges log runs t a tag
        source None = ap (edges_from (position_of log runs (last_event t a))) (written a.word word)
        source (Some x) = refl

        final : (tag : Tag) → last_tag log a.word ≡ tag → placed_last_tag_edges (placed_in (placed_list log runs) t a) (option_map (position_of log runs) tag) ≡ last_tag_edges log runs t a tag
        final None q = refl
        final (Some z) q = ap (λ b. cond b [] (edges_to (position_of log runs (last_event t a) ∷ []) (position_of log runs z)))
            (same_place a.source z (λ e s. source_placed log runs t a e h s))

    entries-ask : flat_map (placed_edges sources last_tags) (placed_entries_in (placed_list log runs) log) ≡ flat_map (λ t. flat_map (entry_edges log runs t) (thread_of log t).entries) (thread_numbers log)
    entries-ask =
        flat_map-flat_map (placed_edges sources last_tags) (λ t. map (placed_in (placed_list log runs) t) (thread_of log t).entries) (thread_numbers log) ∙
        flat_map-agree (λ t. flat_map (placed_edges sources last_tags) (map (placed_in (placed_list log runs) t) (thread_of log t).entries)) (λ t. flat_map (entry_edges log runs t) (thread_of log t).entries) (thread_numbers log)
        (λ t c. flat_map-map (placed_edges sources last_tags) (placed_in (placed_list log runs) t) (thread_of log t).entries ∙
        flat_map-agree (λ a. placed_edges sources last_tags (placed_in (placed_list log runs) t a)) (entry_edges log runs t) (thread_of log t).entries (λ a h. placed-asks t a h))

    -- and so does each last tag
    tag-asks : (word : ℕ) → word < length log.last_tags → word_edges_in (row_at sources word) (get_or last_tags word None) ≡ word_edges log runs word (last_tag log word)
    tag-asks word l = ap (word_edges_in (row_at sources word)) (final-of word l) ∙ ap (λ (ws : List ℕ). word_edges_in ws (option_map (position_of log runs) (last_tag log word))) (written word l) ∙ by (last_tag log word)
      where
        by : (tag : Tag) → word_edges_in (writes_to log runs word) (option_map (position_of log runs) tag) ≡ word_edges log runs word tag
        by None = refl
        by (Some z) = refl

    tags-ask : flat_map (λ word. word_edges_in (row_at sources word) (get_or last_tags word None)) (range_with_len 0 (length sources)) ≡ flat_map (λ word. word_edges log runs word (last_tag log word)) (range_with_len 0 (length log.last_tags))
    tags-ask =
        ap (λ (n : ℕ). flat_map (λ word. word_edges_in (row_at sources word) (get_or last_tags word None)) (range_with_len 0 n)) words ∙
        flat_map-agree (λ word. word_edges_in (row_at sources word) (get_or last_tags word None)) (λ word. word_edges log runs word (last_tag log word)) (range_with_len 0 (length log.last_tags))
        (λ word c. let (l, m) = of_range 0 (length log.last_tags) word c in tag-asks word (omega (arith, m)))

    pub base-is : base_in sources last_tags (placed_entries_in (placed_list log runs) log) ≡ base_of log runs
    unfolding base_of
    base-is =
        ap (λ xs. xs ++ flat_map (λ word. word_edges_in (row_at sources word) (get_or last_tags word None)) (range_with_len 0 (length sources))) entries-ask ∙
        ap (λ xs. flat_map (λ t. flat_map (entry_edges log runs t) (thread_of log t).entries) (thread_numbers log) ++ xs) tags-ask

  -- the entries are of words of the log
  pub words-inside : IsWellFormed log → (n : ℕ) → n ≡ length log.last_tags → (placed : List Placed) → placed ≡ placed_entries_in (placed_list log runs) log → All (λ (p : Placed). p.word < n) placed
  words-inside formed n e placed q k d l = by (get_or placed k d) (let P : List Placed → Type 0 = λ ps. Contains ps (get_or placed k d) in subst P q (Contains-get_or placed k d l))
    where
      by : (p : Placed) → Contains (placed_entries_in (placed_list log runs) log) p → p.word < n
      by p c =
          let (t, u, d) = of_flat_map (λ t. map (placed_in (placed_list log runs) t) (thread_of log t).entries) (thread_numbers log) p c in
          let (a, h, x) = of_map (placed_in (placed_list log runs) t) (thread_of log t).entries p d in
          let w = (entry_is log formed t a h).word in
          let y : a.word ≡ p.word = ap (λ (p : Placed). p.word) x in
          omega (arith, w, y, e)
