-- What the words hold under their rule: packed cells, whose tags name steps that were taken.
use Rattle.std.proofs.Common.{◌≡◌, ℕ, ◌%◌, ◌^◌, ◌<◌, ◌≤◌, List, length, sym, ◌∙◌, ap, subst, arith, inl, inr}
use Rattle.std.specs.Prelude.{Contains, Some, slice_index_or}
use Rattle.std.proofs.lemmas.List.{get_or-map}
use Rattle.std.proofs.lemmas.List.Elements.{All-contains}
use Rattle.atomic_table.specs.Table.{State}
use Rattle.light_base.specs.declared.tag.Cell.{Cell}
use Rattle.light_base.specs.Tags.{IsTag, IsWriter}
use Rattle.light_base.specs.Cells.{packed, unpacked}
use Rattle.light_base.proofs.Cells.{unpacked-packed, packed-IsTag}
use Rattle.replay_model.specs.Steps.{Step, word_of, no_cell}
use Rattle.replay_model.specs.WordSteps.{WordStep, part}
use Rattle.replay_model.proofs.WordCells.{IsFromList, IsKnown, known_end, one_cell}
use Rattle.tagged_words.specs.Views.{Start, View}
use Rattle.tagged_words.specs.Rule.{FitsIn, IsKept}
use Rattle.tagged_words.proofs.Places.{part-contains}

module _ (start : Start) (few : start.threads ≤ 15) (s : State (Unit {0}) View) (list : List WordStep) (cells : List Cell) (holder : ℕ → ℕ) (kept : IsKept start s list cells holder) where
  known : IsKnown start.initial list cells
  known = known_end start.initial list cells kept.folds

  -- the tag in each word is nobody's or that of a step
  pub writer_at : (word : ℕ) → IsWriter (slice_index_or cells word no_cell).tag
  writer_at word = go (known.cells word)
    where
      go : IsFromList start.initial list word (slice_index_or cells word no_cell) → IsWriter (slice_index_or cells word no_cell).tag
      go (inl (t, v)) = subst IsWriter (sym t) tt
      go (inr (e, c, t, w, v)) =
          let fits : FitsIn start e = All-contains (FitsIn start) list e kept.fitting c in
          let n = known.numbered e c in
          subst IsWriter (sym t) (record { thread = omega (arith, fits.0, few); first = n.0; last = fits.1 })

  module _ (word : ℕ) (inside : word < length start.initial) where
    -- a word is its cell's number
    pub word_is : slice_index_or s.words word 0 ≡ packed (slice_index_or cells word no_cell)
    word_is = let z = known.sized in ap (λ (ws : List ℕ). slice_index_or ws word 0) kept.held ∙ get_or-map packed cells word no_cell 0 (omega (arith, z, inside))

    -- and the cell is the word's
    pub cell_is : unpacked (slice_index_or s.words word 0) ≡ slice_index_or cells word no_cell
    cell_is = ap unpacked word_is ∙ unpacked-packed (slice_index_or cells word no_cell) (writer_at word)

    pub tag_is : IsTag (slice_index_or s.words word 0 % 2 ^ 32)
    tag_is = subst (λ (n : ℕ). IsTag (n % 2 ^ 32)) (sym word_is) (packed-IsTag (slice_index_or cells word no_cell) (writer_at word))

    -- where a thread found a cell whose tag still stands, that very cell stands there
    pub same_cell : (thread : ℕ) (step : Step) (cell : Cell) → Contains (part thread list) step → word_of step.want ≡ word → step.found ≡ Some cell →
        (slice_index_or cells word no_cell).tag ≡ cell.tag → slice_index_or cells word no_cell ≡ cell
    same_cell thread step cell c w f q =
        let (e, is_in, is) = part-contains thread list step c in
        let from : IsFromList start.initial list (word_of e.want) cell = known.found e cell is_in (ap (λ (x : Step). x.found) is ∙ f) in
        one_cell start.initial list cells known word (slice_index_or cells word no_cell) cell (known.cells word)
        (subst (λ (k : ℕ). IsFromList start.initial list k cell) (ap (λ (x : Step). word_of x.want) is ∙ w) from) q
