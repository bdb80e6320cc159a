-- What a call at the words may do, by what is known of the hand and of the words.
use Rattle.std.proofs.Common.{◌≡◌, ℕ, ◌+◌, ◌-◌, ◌%◌, ◌^◌, ◌<◌, eqb, List, length, sym, ◌∙◌, ap, subst, arith}
use Rattle.std.specs.Prelude.{Contains, Option, Some, slice_get}
use mathlib.Core.Option.{none}
use prog.Atomic.{either}
use Rattle.atomic_table.specs.Table.{step, Allows}
use Rattle.atomic_table.specs.Seated.{TableId}
use Rattle.light_base.specs.declared.tag.Cell.{Cell}
use Rattle.light_base.specs.Tags.{HasTag, IsTag, writer_of}
use Rattle.light_base.specs.Cells.{unpacked}
use Rattle.replay_model.specs.declared.Want.{Want}
use Rattle.replay_model.specs.declared.Want.TheVariants.{Load}
use Rattle.replay_model.specs.Steps.{Step}
use Rattle.tagged_words.specs.Views.{Start, SharedWords, Progress}
use Rattle.tagged_words.specs.Rule.{Recorded, Knows, alone, own_steps, grown, loads, stores, swaps, conds, IsSeated, IsTable}
use Rattle.tagged_words.proofs.Places.{slice_get_push}
use Rattle.tagged_words.proofs.Keeps.{event, may_load, may_store, may_swap, may_cond}

-- a hand as its fields show it
abbrev pub hand_of : TableId → Knows → ℕ → Progress
hand_of table me thread = record { words = record { table = table; start = me.0.start }; thread = thread; steps = own_steps me.0.parts }

-- the step that a hand takes next has a tag
pub next_tag : (me : Knows) (thread count : ℕ) → IsSeated me thread count → count + 1 < 2 ^ 28 → HasTag record { thread = thread; step = count + 1 }
next_tag me thread count seated room = let h = seated.within in let few = seated.few in record { thread = omega arith; first = omega arith; last = omega arith }

-- the step that was taken stands at the end of the list
pub last_step : (me after : Knows) (thread count : ℕ) (want : Want) (found : Option Cell) → IsSeated me thread count → after ≡ (record { start = me.0.start; parts = grown me.0.parts want found }, me.1) →
    slice_get (own_steps after.0.parts) (count + 1 - 1) ≡ Some record { want = want; found = found }
last_step me after thread count want found seated is =
    let list = ap (λ (m : Knows). own_steps m.0.parts) is ∙ ap (λ (m : Knows). own_steps (grown m.0.parts want found)) seated.one in
    ap (λ (xs : List Step). slice_get xs (count + 1 - 1)) list ∙ slice_get_push (own_steps me.0.parts) (record { want = want; found = found }) (count + 1 - 1) (omega (arith, seated.counted))

module _ (table seat_table : TableId) (start : Start) (is : IsTable table start) (me : Knows) (thread count : ℕ) (seated : IsSeated me thread count)
    (words : SharedWords) (hand : Progress) (words_are : ◌≡◌ {A = SharedWords} (record { table = table; start = start }) words) (hand_is : hand_of seat_table me thread ≡ hand)
    (own : hand.words ≡ words) (room : length hand.steps + 1 < 2 ^ 28) where
  same_words : ◌≡◌ {A = SharedWords} (record { table = seat_table; start = me.0.start }) (record { table = table; start = start })
  same_words = ap (λ (h : Progress). h.words) hand_is ∙ own ∙ sym words_are

  seat_is : alone start thread (own_steps me.0.parts) ≡ me
  seat_is = ap (λ (w : SharedWords). alone w.start thread (own_steps me.0.parts)) (sym same_words) ∙ sym seated.one

  here : thread < start.threads
  here = subst (λ (w : SharedWords). thread < w.start.threads) same_words seated.within

  few_steps : length (own_steps me.0.parts) + 1 < 2 ^ 28
  few_steps = subst (λ (h : Progress). length h.steps + 1 < 2 ^ 28) (sym hand_is) room

  module _ (id word : ℕ) (inside : word < length words.start.initial) where
    within : word < length start.initial
    within = subst (λ (w : SharedWords). word < length w.start.initial) (sym words_are) inside

    word_there : word < table.words
    word_there = let l = within in let n = is.words in omega arith

    pub load_allowed : (seat_table ≡ table) × (word < table.words) × Allows (Recorded start) table.slots id me word (λ n. n) (loads (step table.slots word 0 0 none) me)
    load_allowed =
        let P : Knows → Type 0 = λ m. Allows (Recorded start) table.slots id m word (λ n. n) (loads (step table.slots word 0 0 none) m) in (
          ap (λ (w : SharedWords). w.table) same_words,
          word_there,
          subst P seat_is (may_load start is.few table.slots id word thread (own_steps me.0.parts) here few_steps within),
        )

    module _ (new : ℕ) (fits : new < 2 ^ 64) (tag : IsTag (new % 2 ^ 32)) (by : writer_of (new % 2 ^ 32) ≡ Some (record { thread = hand.thread; step = length hand.steps + 1 })) where
      by_next : writer_of (new % 2 ^ 32) ≡ Some (event thread (own_steps me.0.parts))
      by_next = by ∙ ap (λ (h : Progress). Some (event h.thread h.steps)) (sym hand_is)

      pub store_allowed : (seat_table ≡ table) × (word < table.words) × Allows (Recorded start) table.slots id me word (λ _. new) (λ _. stores (step table.slots word new 0 none) me new)
      store_allowed =
          let P : Knows → Type 0 = λ m. Allows (Recorded start) table.slots id m word (λ _. new) (λ _. stores (step table.slots word new 0 none) m new) in (
            ap (λ (w : SharedWords). w.table) same_words,
            word_there,
            subst P seat_is (may_store start is.few table.slots id word thread (own_steps me.0.parts) here few_steps within new fits tag by_next),
          )

      pub swap_allowed : (seat_table ≡ table) × (word < table.words) × Allows (Recorded start) table.slots id me word (λ _. new) (swaps (step table.slots word new 0 none) me)
      swap_allowed =
          let P : Knows → Type 0 = λ m. Allows (Recorded start) table.slots id m word (λ _. new) (swaps (step table.slots word new 0 none) m) in (
            ap (λ (w : SharedWords). w.table) same_words,
            word_there,
            subst P seat_is (may_swap start is.few table.slots id word thread (own_steps me.0.parts) here few_steps within new fits tag by_next),
          )

      pub cond_allowed : (old : ℕ) → IsTag (old % 2 ^ 32) → Contains hand.steps (record { want = Load word; found = Some (unpacked old) }) →
          (seat_table ≡ table) × (word < table.words) × Allows (Recorded start) table.slots id me word (λ n. either (eqb n old) new n) (conds (step table.slots word old new none) me)
      cond_allowed old old_tag seen =
          let P : Knows → Type 0 = λ m. Allows (Recorded start) table.slots id m word (λ n. either (eqb n old) new n) (conds (step table.slots word old new none) m) in
          let mine = subst (λ (h : Progress). Contains h.steps (record { want = Load word; found = Some (unpacked old) })) (sym hand_is) seen in (
            ap (λ (w : SharedWords). w.table) same_words,
            word_there,
            subst P seat_is (may_cond start is.few table.slots id word thread (own_steps me.0.parts) here few_steps within new fits tag by_next old old_tag mine),
          )
