-- The words as they begin, and as all hands leave them.
use Rattle.std.proofs.Common.{◌≡◌, ℕ, zero, suc, ◌+◌, ◌/◌, ◌%◌, ◌^◌, ◌<◌, ◌≤◌, List, [], ◌∷◌, ◌++◌, map, take, refl, sym, ◌∙◌, ap, subst, arith}
use Rattle.std.specs.Prelude.{All, None, slice_index_or}
use Rattle.std.proofs.lemmas.Nat.{div-mul-add}
use Rattle.std.proofs.lemmas.List.{map_push}
use Rattle.std.proofs.lemmas.List.Elements.{All-nil, All-weaker, All-contains}
use mathlib.Core.Option.{some, some-injective, some-ne-none}
use lib.ListN.{get_elem?}
use Rattle.atomic_table.specs.Table.{opening, Final, Seen}
use Rattle.light_base.specs.Tags.{IsTag, IsWriter}
use Rattle.light_base.specs.Cells.{packed, unpacked}
use Rattle.light_base.proofs.Cells.{unpacked-packed, packed-IsTag}
use Rattle.replay_model.specs.Steps.{Cell, no_cell, initial_cells}
use Rattle.replay_model.specs.WordSteps.{WordStep, part, Folds}
use Rattle.tagged_words.specs.Views.{Start, Part, View, SharedWords, Progress}
use Rattle.tagged_words.specs.Rule.{FitsPart, FitsIn, Recorded, everyone, fresh, HasPart}
use Rattle.tagged_words.specs.Hands.{HasHand, AreAllSteps}
use Rattle.tagged_words.proofs.Places.{take_one_more}
use Rattle.tagged_words.proofs.Shares.{fresh_parts}
use Rattle.tagged_words.proofs.Held.{writer_at}

-- the number of an initial cell
abbrev pub begun : ℕ → ℕ
begun value = packed record { value = value; tag = None }

-- the values in the numbers of initial cells
pub values_in : (initial : List ℕ) → map (λ n. n / 2 ^ 32) (map begun initial) ≡ initial
values_in [] = refl
values_in (v ∷ vs) = λ i. div-mul-add v (2 ^ 32) 0 (omega arith) i ∷ values_in vs i

begun_cells : (initial : List ℕ) → map begun initial ≡ map packed (initial_cells initial)
begun_cells [] = refl
begun_cells (v ∷ vs) = ap (λ (ns : List ℕ). begun v ∷ ns) (begun_cells vs)

-- the rule holds at the start, where one seat has all numbers
pub opens : (start : Start) (words : List ℕ) → words ≡ map begun start.initial → All (λ v. v < 2 ^ 32) start.initial → Recorded start (opening words [] (everyone start))
opens start words are small = (
  [],
  initial_cells start.initial,
  (λ _. 0),
  record {
    initial = small;
    folds = refl;
    fitting = All-nil (FitsIn start);
    held = are ∙ begun_cells start.initial;
    known = known;
  },
)
  where
    known : (j : ℕ) (u : View) → get_elem? (everyone start ∷ []) j ≡ some u → All (FitsPart [] (λ _. 0) j) u.parts
    known zero u at = subst (λ (v : View). All (FitsPart [] (λ _. 0) 0) v.parts) (some-injective (everyone start) u at)
        (All-weaker (λ (p : Part). (0 ≤ p.thread) × (p.steps ≡ [])) (FitsPart [] (λ _. 0) 0) (λ p h. (refl, sym h.1)) (fresh 0 start.threads) (fresh_parts 0 start.threads))
    known (suc j) u at = absurd (some-ne-none u (sym at))

-- the cells in the numbers of cells whose tags are writers'
cells_in : (cells : List Cell) → ((word : ℕ) → IsWriter (slice_index_or cells word no_cell).tag) → map unpacked (map packed cells) ≡ cells
cells_in [] w = refl
cells_in (c ∷ cs) w = λ i. unpacked-packed c (w 0) i ∷ cells_in cs (λ word. w (suc word)) i

tags_in : (cells : List Cell) → ((word : ℕ) → IsWriter (slice_index_or cells word no_cell).tag) → (i n : ℕ) → get_elem? (map packed cells) i ≡ some n → IsTag (n % 2 ^ 32)
tags_in [] w i n at = absurd (some-ne-none n (sym at))
tags_in (c ∷ cs) w zero n at = subst (λ (k : ℕ). IsTag (k % 2 ^ 32)) (some-injective (packed c) n at) (packed-IsTag c (w 0))
tags_in (c ∷ cs) w (suc i) n at = tags_in cs (λ word. w (suc word)) i n at

-- one more cell that was read
pub read_more : (words : List ℕ) (i n : ℕ) (cells after : List Cell) (cell : Cell) → get_elem? words i ≡ some n → cell ≡ unpacked n → cells ≡ map unpacked (take i words) → after ≡ cells ++ cell ∷ [] →
    after ≡ map unpacked (take (i + 1) words)
read_more words i n cells after cell at is read more =
    more ∙ (λ k. read k ++ is k ∷ []) ∙ sym (ap (map unpacked) (take_one_more words i n at) ∙ map_push unpacked (take i words) n)

module _ (start : Start) (few : start.threads ≤ 15) (id : ℕ) (v : View) (words : List ℕ) (slots : List (Unit {0})) (last : Final (Seen (Recorded start) id v) words slots) where
  -- each word has a tag in its low half
  pub last_tags : (i n : ℕ) → get_elem? words i ≡ some n → IsTag (n % 2 ^ 32)
  last_tags i n at =
      let (s, ((list, cells, holder, kept), seat), are, count, rest) = last in
      tags_in cells (writer_at start few s list cells holder kept) i n (ap (λ (ws : List ℕ). get_elem? ws i) (sym kept.held ∙ are) ∙ at)

  -- the list of all steps
  pub all_steps : (shared : SharedWords) → shared.start ≡ start → (hands : List Progress) → All (HasPart v) hands → ((t : ℕ) → t < start.threads → HasHand t hands) → (list : List WordStep) × AreAllSteps shared hands (map unpacked words) list
  all_steps shared same hands parts owners =
      let (s, ((list, cells, holder, kept), seat), are, count, rest) = last in (
        list,
        record {
          folds = subst (λ (b : Start). Folds [] (initial_cells b.initial) list (map unpacked words)) (sym same)
              (subst (Folds [] (initial_cells start.initial) list) (sym (ap (map unpacked) (sym are ∙ kept.held) ∙ cells_in cells (writer_at start few s list cells holder kept))) kept.folds);
          parts = All-weaker (HasPart v) (λ hand. part hand.thread list ≡ hand.steps) (λ hand c. (All-contains (FitsPart list holder id) v.parts (record { thread = hand.thread; steps = hand.steps }) (kept.known id v seat) c).1) hands parts;
          threads = subst (λ (b : Start). All (λ (e : WordStep). e.thread < b.threads) list) (sym same) (All-weaker (FitsIn start) (λ e. e.thread < start.threads) (λ e f. f.0) list kept.fitting);
          owned = All-weaker (FitsIn start) (λ e. HasHand e.thread hands) (λ e f. owners e.thread f.0) list kept.fitting;
        },
      )
