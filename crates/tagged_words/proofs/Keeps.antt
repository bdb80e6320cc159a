-- Each kind of step keeps the rule of the words.
use Rattle.std.proofs.Common.{◌≡◌, ℕ, ◌+◌, ◌/◌, ◌%◌, ◌^◌, ◌<◌, ◌≤◌, ◌≢◌, Bool, true, false, cond, eqb, List, [], ◌∷◌, ◌++◌, map, length, refl, sym, ◌∙◌, ap, subst, arith, inl, inr, ◌⊎◌}
use Rattle.std.specs.Prelude.{Contains, All, Option, Some, None, IfSome, slice_index_or, slice_set}
use Rattle.std.proofs.Math.Logic.{⊎_elim}
use Rattle.std.proofs.lemmas.List.{map-set, set-get_or}
use Rattle.std.proofs.lemmas.List.Elements.{All-nil, All-cons, All-push, All-weaker}
use Rattle.std.proofs.lemmas.Bool.{cases_Bool}
use mathlib.Core.Option.{none, some}
use lib.ListN.{get_elem?}
use prog.Atomic.{either}
use Rattle.atomic_table.specs.Table.{State, step, keeps, stepped, Allows}
use Rattle.atomic_table.proofs.Lists.{at_set, exchanged}
use Rattle.light_base.specs.declared.tag.Cell.{Cell}
use Rattle.light_base.specs.declared.tag.Event.{Event}
use Rattle.light_base.specs.Tags.{IsTag, writer_of}
use Rattle.light_base.specs.Cells.{packed, unpacked}
use Rattle.light_base.proofs.Cells.{packed-unpacked}
use Rattle.replay_model.specs.declared.Want.{Want}
use Rattle.replay_model.specs.declared.Want.TheVariants.{Load, Store, Swap, Cond}
use Rattle.replay_model.specs.Steps.{Step, same_tag, word_of, wrote, found_in, put, initial_cells}
use Rattle.replay_model.specs.WordSteps.{WordStep, part, Folds}
use Rattle.replay_model.proofs.Tags.{same_tag-true, same_tag-same}
use Rattle.replay_model.proofs.WordSteps.{step_of, part_push, part_push_other, Folds-push}
use Rattle.tagged_words.specs.Views.{Start, View}
use Rattle.tagged_words.specs.Rule.{FitsPart, FitsIn, IsKept, Recorded, Knows, alone, IsPart, loads, stores, swaps, conds}
use Rattle.tagged_words.proofs.Held.{cell_is, tag_is, same_cell}

abbrev pub event : ℕ → List Step → Event
event thread steps = record { thread = thread; step = length steps + 1 }

abbrev one_more : List Step → Want → Option Cell → List Step
one_more steps want found = steps ++ record { want = want; found = found } ∷ []

-- a thread whose seat has its number alone takes one step more
module _ (start : Start) (s : State (Unit {0}) View) (list : List WordStep) (cells : List Cell) (holder : ℕ → ℕ) (kept : IsKept start s list cells holder)
    (id thread : ℕ) (steps : List Step) (at : get_elem? s.views id ≡ some (alone start thread steps).0) (want : Want) (found : Option Cell) (saw : found ≡ found_in cells want) where
  abbrev e : WordStep
  e = record { thread = thread; number = length steps + 1; want = want; found = found }

  abbrev after : Knows
  after = alone start thread (one_more steps want found)

  own : FitsPart list holder id (record { thread = thread; steps = steps })
  own = kept.known id (alone start thread steps).0 at 0 (record { thread = thread; steps = steps }) (omega arith)

  steps_next : part thread (list ++ e ∷ []) ≡ one_more steps want found
  steps_next = part_push e list ∙ ap (λ (xs : List Step). xs ++ step_of e ∷ []) own.1

  folds_next : Folds [] (initial_cells start.initial) (list ++ e ∷ []) (put cells (word_of want) (event thread steps) (wrote want found))
  folds_next = Folds-push list [] (initial_cells start.initial) cells e kept.folds (ap (λ (xs : List Step). length xs + 1) (sym own.1)) saw

  -- its list is a part of what happened
  told : IsPart start thread (one_more steps want found)
  told = (list ++ e ∷ [], put cells (word_of want) (event thread steps) (wrote want found), folds_next, steps_next)

  known_next : (j : ℕ) (v : View) → get_elem? (slice_set s.views id after.0) j ≡ some v → All (FitsPart (list ++ e ∷ []) holder j) v.parts
  known_next j v at_j = ⊎_elim here there (at_set s.views id j after.0 v at_j)
    where
      here : (j ≡ id) × (after.0 ≡ v) → All (FitsPart (list ++ e ∷ []) holder j) v.parts
      here r = subst (λ (u : View). All (FitsPart (list ++ e ∷ []) holder j) u.parts) r.1
          (All-cons (FitsPart (list ++ e ∷ []) holder j) (record { thread = thread; steps = one_more steps want found }) [] (own.0 ∙ sym r.0, steps_next) (All-nil (FitsPart (list ++ e ∷ []) holder j)))

      there : (j ≢ id) × (get_elem? s.views j ≡ some v) → All (FitsPart (list ++ e ∷ []) holder j) v.parts
      there r = All-weaker (FitsPart list holder j) (FitsPart (list ++ e ∷ []) holder j)
          (λ p f. (f.0, part_push_other p.thread e list (λ q. r.0 (sym f.0 ∙ ap holder q ∙ own.0)) ∙ f.1)) v.parts (kept.known j v r.1)

  -- the rule holds when the word has become n
  more : (word n : ℕ) → thread < start.threads → length steps + 1 < 2 ^ 28 → IfSome (wrote want found) (λ v. v < 2 ^ 32) →
      slice_set s.words word n ≡ map packed (put cells (word_of want) (event thread steps) (wrote want found)) → Recorded start (stepped s word n id [] after.0 keeps)
  more word n one room small is = (
    list ++ e ∷ [],
    put cells (word_of want) (event thread steps) (wrote want found),
    holder,
    record {
      initial = kept.initial;
      folds = folds_next;
      fitting = All-push (FitsIn start) list e kept.fitting (one, room, small);
      held = is;
      known = known_next;
    },
  )

module _ (start : Start) (few : start.threads ≤ 15) (slots id word thread : ℕ) (steps : List Step) (one : thread < start.threads) (room : length steps + 1 < 2 ^ 28) (inside : word < length start.initial) where
  abbrev me : Knows
  me = alone start thread steps

  pub may_load : Allows (Recorded start) slots id me word (λ n. n) (loads (step slots word 0 0 none) me)
  may_load s (list, cells, holder, kept) homes at bound =
      let found : Option Cell = Some (unpacked (slice_index_or s.words word 0)) in
      let saw : found ≡ found_in cells (Load word) = ap Some (cell_is start few s list cells holder kept word inside) in (
        (alone start thread (one_more steps (Load word) found)).0,
        keeps,
        tt,
        more start s list cells holder kept id thread steps at (Load word) found saw word (slice_index_or s.words word 0) one room tt (set-get_or s.words word 0 ∙ kept.held),
        (tag_is start few s list cells holder kept word inside, (refl, told start s list cells holder kept id thread steps at (Load word) found saw)),
      )

  module _ (new : ℕ) (fits : new < 2 ^ 64) (tag : IsTag (new % 2 ^ 32)) (by : writer_of (new % 2 ^ 32) ≡ Some (event thread steps)) where
    -- the word is set to the number of the cell that the step writes
    written : (s : State (Unit {0}) View) (list : List WordStep) (cells : List Cell) (holder : ℕ → ℕ) → IsKept start s list cells holder →
        slice_set s.words word new ≡ map packed (slice_set cells word (record { value = new / 2 ^ 32; tag = Some (event thread steps) }))
    written s list cells holder kept =
        let is : new ≡ packed (record { value = new / 2 ^ 32; tag = Some (event thread steps) }) = sym (packed-unpacked new tag) ∙ (λ i. packed (record { value = new / 2 ^ 32; tag = by i })) in
        (λ i. slice_set (kept.held i) word (is i)) ∙ sym (map-set packed cells word (record { value = new / 2 ^ 32; tag = Some (event thread steps) }))

    small : new / 2 ^ 32 < 2 ^ 32
    small = omega arith

    pub may_store : Allows (Recorded start) slots id me word (λ _. new) (λ _. stores (step slots word new 0 none) me new)
    may_store s (list, cells, holder, kept) homes at bound = (
      (alone start thread (one_more steps (Store word (new / 2 ^ 32)) None)).0,
      keeps,
      tt,
      more start s list cells holder kept id thread steps at (Store word (new / 2 ^ 32)) None refl word new one room small (written s list cells holder kept),
      (refl, told start s list cells holder kept id thread steps at (Store word (new / 2 ^ 32)) None refl),
    )

    pub may_swap : Allows (Recorded start) slots id me word (λ _. new) (swaps (step slots word new 0 none) me)
    may_swap s (list, cells, holder, kept) homes at bound =
        let found : Option Cell = Some (unpacked (slice_index_or s.words word 0)) in
        let saw : found ≡ found_in cells (Swap word (new / 2 ^ 32)) = ap Some (cell_is start few s list cells holder kept word inside) in (
          (alone start thread (one_more steps (Swap word (new / 2 ^ 32)) found)).0,
          keeps,
          tt,
          more start s list cells holder kept id thread steps at (Swap word (new / 2 ^ 32)) found saw word new one room small (written s list cells holder kept),
          (tag_is start few s list cells holder kept word inside, (refl, told start s list cells holder kept id thread steps at (Swap word (new / 2 ^ 32)) found saw)),
        )

    -- a conditional write of what a load of the thread saw
    module _ (old : ℕ) (old_tag : IsTag (old % 2 ^ 32)) (seen : Contains steps (record { want = Load word; found = Some (unpacked old) })) where
      module _ (s : State (Unit {0}) View) (list : List WordStep) (cells : List Cell) (holder : ℕ → ℕ) (kept : IsKept start s list cells holder) (at : get_elem? s.views id ≡ some me.0) where
        abbrev n : ℕ
        n = slice_index_or s.words word 0

        abbrev want : Want
        want = Cond word (unpacked old).tag (new / 2 ^ 32)

        abbrev found : Option Cell
        found = Some (unpacked n)

        abbrev next : View
        next = (alone start thread (one_more steps want found)).0

        saw : found ≡ found_in cells want
        saw = ap Some (cell_is start few s list cells holder kept word inside)

        -- where the word's tag is the one that was seen, the word is the one that was seen
        same : (unpacked n).tag ≡ (unpacked old).tag → n ≡ old
        same q =
            let own : FitsPart list holder id (record { thread = thread; steps = steps }) = kept.known id me.0 at 0 (record { thread = thread; steps = steps }) (omega arith) in
            let there = subst (λ (xs : List Step). Contains xs (record { want = Load word; found = Some (unpacked old) })) (sym own.1) seen in
            let cell = cell_is start few s list cells holder kept word inside in
            let is = same_cell start few s list cells holder kept word inside thread (record { want = Load word; found = Some (unpacked old) }) (unpacked old) there refl refl (ap (λ (c : Cell). c.tag) (sym cell) ∙ q) in
            sym (packed-unpacked n (tag_is start few s list cells holder kept word inside)) ∙ ap packed (cell ∙ is) ∙ packed-unpacked old old_tag

        fill : (z : ℕ) (b : Bool) → same_tag (unpacked n).tag (unpacked old).tag ≡ b →
            slice_set s.words word z ≡ map packed (put cells word (event thread steps) (cond b (Some (new / 2 ^ 32)) None)) → Recorded start (stepped s word z id [] next keeps)
        fill z b t =
            let P : Bool → Type 0 = λ x. slice_set s.words word z ≡ map packed (put cells word (event thread steps) (cond x (Some (new / 2 ^ 32)) None)) → Recorded start (stepped s word z id [] next keeps) in
            subst P t (more start s list cells holder kept id thread steps at want found saw word z one room (fits_either (same_tag (unpacked n).tag (unpacked old).tag)))
          where
            fits_either : (x : Bool) → IfSome (cond x (Some (new / 2 ^ 32)) None) (λ v. v < 2 ^ 32)
            fits_either true = small
            fits_either false = tt

        hit : n ≡ old → Recorded start (stepped s word new id [] next keeps)
        hit q = fill new true (subst (λ (k : ℕ). same_tag (unpacked n).tag (unpacked k).tag ≡ true) q (same_tag-same (unpacked n).tag)) (written s list cells holder kept)

        miss : n ≢ old → Recorded start (stepped s word n id [] next keeps)
        miss ne = go (cases_Bool (same_tag (unpacked n).tag (unpacked old).tag))
          where
            go : (same_tag (unpacked n).tag (unpacked old).tag ≡ true) ⊎ (same_tag (unpacked n).tag (unpacked old).tag ≡ false) → Recorded start (stepped s word n id [] next keeps)
            go (inl t) = absurd (ne (same (same_tag-true (unpacked n).tag (unpacked old).tag t)))
            go (inr t) = fill n false t (set-get_or s.words word 0 ∙ kept.held)

      pub may_cond : Allows (Recorded start) slots id me word (λ n. either (eqb n old) new n) (conds (step slots word old new none) me)
      may_cond s (list, cells, holder, kept) homes at bound = (
        next s list cells holder kept at,
        keeps,
        tt,
        exchanged (slice_index_or s.words word 0) old new (λ z. Recorded start (stepped s word z id [] (next s list cells holder kept at) keeps)) (hit s list cells holder kept at) (miss s list cells holder kept at),
        (tag_is start few s list cells holder kept word inside, same s list cells holder kept at, (refl, told start s list cells holder kept id thread steps at (want s list cells holder kept at) (found s list cells holder kept at) (saw s list cells holder kept at))),
      )
