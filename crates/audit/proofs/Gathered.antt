-- The events of a log and the writes of runs that fit it, sorted and each kept once, are the steps that have a place.
use Rattle.std.proofs.Common.{◌≡◌, ℕ, ◌+◌, ◌*◌, ◌^◌, ◌<◌, ◌≤◌, true, false, eqb, Some, None, nat_cmp, List, ◌++◌, length, map, refl, sym, ◌∙◌, ap, subst, arith, inl, inr, ◌⊎◌}
use Rattle.std.specs.Prelude.{All, Contains}
use Rattle.std.specs.Ordering.{on}
use Rattle.std.specs.List.{dedup, filter_map, list_any}
use Rattle.std.specs.List.Sorted.{IsSorted, IsPermutation}
use Rattle.std.specs.declared.cmp.Ordering.TheVariants.{Less}
use Rattle.std.proofs.lemmas.Cmp.{nat_cmp_total, on_total, on_equiv, nat_eq_equiv}
use Rattle.std.proofs.lemmas.Bool.{cases_Bool, cases_order, eqb-true, both_ways, false_from_ne_true}
use Rattle.std.proofs.lemmas.List.Sorted.{Contains-permutation, IsPermutation-sym}
use Rattle.std.proofs.lemmas.List.Kept.{Any-dedup, Contains-from_dedup}
use Rattle.std.proofs.lemmas.List.Elements.{All-contains, Contains-append_left, Contains-append_right, Contains-append_cases}
use Rattle.light_base.specs.Tags.{HasTag, bits_of, writer_of}
use Rattle.light_base.specs.declared.tag.Event.{Event}
use Rattle.light_base.specs.declared.tag.Tag.{Tag}
use Rattle.light_base.proofs.Tags.{writer_of-bits_of}
use Rattle.replay_model.specs.Steps.{Step, same_tag}
use Rattle.replay_model.specs.Threads.{Threads}
use Rattle.replay_model.specs.RunLogs.{Tallies}
use Rattle.replay_model.specs.Fitting.{Fits}
use Rattle.replay_model.specs.Logs.{Log, last_tag}
use Rattle.replay_model.proofs.Tags.{same_tag-true, any-element, element-any}
use Rattle.replay_model.specs.WellFormed.{IsWellFormed}
use Rattle.replay_laws.proofs.Skip.{Told}
use Rattle.audit_laws.specs.Placings.{IsPlaced}
use Rattle.constraints.specs.Positions.{event_list}
use Rattle.constraints.proofs.Members.{of_map, in_map}
use Rattle.constraints.proofs.Ranked.{All-from}
use Rattle.constraints.proofs.Listed.{Before, of_list as event-of, in_list as event-in}
use Rattle.constraints.proofs.Listing.{before_asym, event_tagged}
use Rattle.constraints.proofs.Strict.{same_ordered, deduped, nat_ties, nat-less, of_filter_map, in_filter_map, AllPairs-filter_map}
use Rattle.replayer.specs.declared.notes.Written.{Written}
use Rattle.audit.specs.Positions.{placed_list}
use Rattle.audit.specs.Constraints.{impossible}
use Rattle.replayer.specs.Notes.{AreWrites}
use Rattle.audit.specs.Gathering.{to_initial}
use Rattle.audit.proofs.Keeping.{never-last, last-never}
use Rattle.audit.proofs.Listed.{of_list, in_list, list_before}

abbrev tags_of : List Event → List Tag
tags_of events = map (λ (e : Event). Some e) events

abbrev written_tags : List Written → List Tag
written_tags writes = map (λ (w : Written). Some w.event) writes

-- each event has a tag
pub events_tagged : (log : Log) (events : List Event) → IsWellFormed log → events ≡ event_list log → All HasTag events
events_tagged log events formed q = subst (All HasTag) (sym q) (All-from HasTag (event_list log) (λ e c. event_tagged log formed e (event-of log e c)))

-- tagged events with one number are one
one_number : (x y : Event) → HasTag x → HasTag y → eqb (bits_of (Some x)) (bits_of (Some y)) ≡ true → x ≡ y
one_number x y h g t =
    let q : bits_of (Some x) ≡ bits_of (Some y) = eqb-true (bits_of (Some x)) (bits_of (Some y)) t in
    let e : Some x ≡ Some y = sym (writer_of-bits_of (Some x) h) ∙ ap writer_of q ∙ writer_of-bits_of (Some y) g in
    cc

no_number : (x : Event) → HasTag x → eqb (bits_of (Some x)) 0 ≡ true → ⊥
no_number x h t = let q : bits_of (Some x) ≡ 0 = eqb-true (bits_of (Some x)) 0 t in absurd (omega (arith, q))

numbers_rise : (x y : Event) → HasTag x → HasTag y → bits_of (Some x) < bits_of (Some y) → Before x y
numbers_rise x y h g l =
    let a = h.last in let b = g.first in let c = g.last in
    go (cases_order x.thread y.thread)
  where
    go : (x.thread ≡ y.thread) ⊎ ((x.thread < y.thread) ⊎ (y.thread < x.thread)) → Before x y
    go (inl q) = inr (q, omega (arith, l, q))
    go (inr (inl m)) = inl m
    go (inr (inr m)) =
        let a = g.last in
        let n : (y.thread + 1) * 2 ^ 28 + 2 ^ 28 ≤ (x.thread + 1) * 2 ^ 28 = omega (arith, m) in
        absurd (omega (arith, l, n, a))

one : (a b : Event) → Some a ≡ Some b → a ≡ b
one a b h = cc

of_tags : (events : List Event) (e : Event) → Contains (tags_of events) (Some e) → Contains events e
of_tags events e c = let (x, m, q) = of_map (λ (e : Event). Some e) events (Some e) c in subst (λ (y : Event). Contains events y) (one x e q) m

module _ (initial : List ℕ) (log : Log) (runs : List (List Step)) (told : Told initial log runs) (counted : length log.threads ≡ length runs)
    (formed : IsWellFormed log) (writes : List Written) (tagged : All (λ (w : Written). HasTag w.event) writes) (are : AreWrites runs writes) where
  of_all : (e : Event) → Contains (tags_of (event_list log) ++ written_tags writes) (Some e) → IsPlaced log runs e × HasTag e
  of_all e c = go (Contains-append_cases (tags_of (event_list log)) (written_tags writes) (Some e) c)
    where
      go : Contains (tags_of (event_list log)) (Some e) ⊎ Contains (written_tags writes) (Some e) → IsPlaced log runs e × HasTag e
      go (inl m) = let is = event-of log e (of_tags (event_list log) e m) in (inl is, event_tagged log formed e is)
      go (inr m) =
          let (w, n, q) = of_map (λ (w : Written). Some w.event) writes (Some e) m in
          let (value, hw) = are.only w n in
          subst (λ (x : Event). IsPlaced log runs x × HasTag x) (one w.event e q) (inr (w.word, value, hw), All-contains (λ (v : Written). HasTag v.event) writes w tagged n)

  in_all : (e : Event) → IsPlaced log runs e → Contains (tags_of (event_list log) ++ written_tags writes) (Some e)
  in_all e (inl is) = Contains-append_left (tags_of (event_list log)) (written_tags writes) (Some e) (in_map (λ (x : Event). Some x) (event_list log) e (event-in log formed e is))
  in_all e (inr (word, value, hw)) = Contains-append_right (tags_of (event_list log)) (written_tags writes) (Some e) (in_map (λ (w : Written). Some w.event) writes (record { event = e; word = word }) (are.all e word value hw))

  -- sorted by number, and each kept once
  pub sorted_placed : (ys : List Tag) → IsPermutation (tags_of (event_list log) ++ written_tags writes) ys → IsSorted (on bits_of nat_cmp) ys →
      filter_map (λ (tag : Tag). tag) (dedup (λ a b. eqb (bits_of a) (bits_of b)) ys) ≡ placed_list log runs
  sorted_placed ys perm sorted = same_ordered Before before_asym (filter_map (λ (tag : Tag). tag) (dedup (λ a b. eqb (bits_of a) (bits_of b)) ys)) (placed_list log runs)
      (AllPairs-filter_map (λ (tag : Tag). tag) (λ a b. on bits_of nat_cmp a b ≡ Less) Before (dedup (λ a b. eqb (bits_of a) (bits_of b)) ys) rise
      (deduped (on_total bits_of nat_cmp_total) (λ a b. nat_ties (bits_of a) (bits_of b)) ys sorted))
      (list_before initial log runs told counted) there back
    where
      named : (e : Event) → Contains (dedup (λ a b. eqb (bits_of a) (bits_of b)) ys) (Some e) → IsPlaced log runs e × HasTag e
      named e c = of_all e (Contains-permutation ys (tags_of (event_list log) ++ written_tags writes) (Some e) (IsPermutation-sym (tags_of (event_list log) ++ written_tags writes) ys perm)
          (Contains-from_dedup (λ (a b : Tag). eqb (bits_of a) (bits_of b)) ys (Some e) c))

      rise : (x y : Tag) (a b : Event) → Contains (dedup (λ a b. eqb (bits_of a) (bits_of b)) ys) x → Contains (dedup (λ a b. eqb (bits_of a) (bits_of b)) ys) y → x ≡ Some a → y ≡ Some b →
          on bits_of nat_cmp x y ≡ Less → Before a b
      rise x y a b c d p q h =
          let P : Tag → Type 0 = λ tag. Contains (dedup (λ a b. eqb (bits_of a) (bits_of b)) ys) tag in
          let ha = (named a (subst P p c)).1 in
          let hb = (named b (subst P q d)).1 in
          let l : bits_of x < bits_of y = nat-less (bits_of x) (bits_of y) h in
          let u = ap bits_of p in
          let v = ap bits_of q in
          numbers_rise a b ha hb (omega (arith, l, u, v))

      there : (e : Event) → Contains (filter_map (λ (tag : Tag). tag) (dedup (λ a b. eqb (bits_of a) (bits_of b)) ys)) e → Contains (placed_list log runs) e
      there e c =
          let (tag, m, q) = of_filter_map (λ (tag : Tag). tag) (dedup (λ a b. eqb (bits_of a) (bits_of b)) ys) e c in
          let P : Tag → Type 0 = λ tag. Contains (dedup (λ a b. eqb (bits_of a) (bits_of b)) ys) tag in
          in_list initial log runs told counted e (named e (subst P q m)).0

      back : (e : Event) → Contains (placed_list log runs) e → Contains (filter_map (λ (tag : Tag). tag) (dedup (λ a b. eqb (bits_of a) (bits_of b)) ys)) e
      back e c =
          let is = of_list initial log runs told counted e c in
          let there = in_all e is in
          let m : Contains ys (Some e) = Contains-permutation (tags_of (event_list log) ++ written_tags writes) ys (Some e) perm there in
          let (k, tag, l, at, same) = Any-dedup (on_equiv bits_of nat_eq_equiv) ys (Some e) m in
          found tag (k, l, at) same (of_all e there).1
        where
          found : (tag : Tag) → Contains (dedup (λ a b. eqb (bits_of a) (bits_of b)) ys) tag → eqb (bits_of (Some e)) (bits_of tag) ≡ true → HasTag e →
              Contains (filter_map (λ (tag : Tag). tag) (dedup (λ a b. eqb (bits_of a) (bits_of b)) ys)) e
          found None c same h = absurd (no_number e h same)
          found (Some x) c same h = in_filter_map (λ (tag : Tag). tag) (dedup (λ a b. eqb (bits_of a) (bits_of b)) ys) (Some x) e c
              (ap (λ (y : Event). Some y) (sym (one_number e x h (named x c).1 same)))

-- some step wrote a word whose last tag is initial exactly where one of the writes is to such a word
pub tells_impossible : (threads : Threads) (tallies : Tallies) (initial : List ℕ) (log : Log) (runs : List (List Step)) (writes : List Written) → Fits threads tallies initial log runs → AreWrites runs writes →
    list_any (to_initial log.last_tags) writes ≡ impossible log runs
tells_impossible threads tallies initial log runs writes fits are = go (cases_Bool (impossible log runs))
  where
    go : (impossible log runs ≡ true) ⊎ (impossible log runs ≡ false) → list_any (to_initial log.last_tags) writes ≡ impossible log runs
    go (inl t) =
        let (e, word, v, hw, q) = never-last threads tallies initial log runs fits t in
        let R : Tag → Type 0 = λ x. same_tag x None ≡ true in
        element-any (to_initial log.last_tags) writes (record { event = e; word = word }) (are.all e word v hw) (subst R (sym q) refl) ∙ sym t
    go (inr f) = false_from_ne_true _ (λ h.
        let (w, c, m) = any-element (to_initial log.last_tags) writes h in
        let (v, hw) = are.only w c in
        both_ways (impossible log runs) f (last-never threads tallies initial log runs fits w.event w.word v hw (same_tag-true (last_tag log w.word) None m))) ∙ sym f
