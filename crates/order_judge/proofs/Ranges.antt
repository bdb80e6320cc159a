-- The live ranges of reads, one after the other.
use Rattle.std.proofs.Common.{◌≡◌, ℕ, ◌+◌, ◌<◌, List, [], ◌∷◌, ◌++◌, length, map, take, get_or, sym, ◌∙◌, ap}
use Rattle.std.specs.Prelude.{All}
use Rattle.std.proofs.lemmas.List.{map-append, take_more}
use Rattle.std.proofs.lemmas.List.Elements.{All-more}
use Rattle.order_judge.specs.declared.judging.Read.{Read}
use Rattle.order_judge.specs.declared.live_ranges.LiveRange.{LiveRange}
use Rattle.order_judge.specs.Judging.{IsLater, range_of}

pub ranges_more : (reads : List Read) (places : List ℕ) (ranges : List LiveRange) (k : ℕ) (d : Read) → k < length reads →
    All (IsLater places) (take k reads) × (ranges ≡ map (range_of places) (take k reads)) → IsLater places (get_or reads k d) →
    All (IsLater places) (take (k + 1) reads) × (ranges ++ range_of places (get_or reads k d) ∷ [] ≡ map (range_of places) (take (k + 1) reads))
ranges_more reads places ranges k d l (all, e) here = (
  All-more (IsLater places) reads k d l all here,
  ap (λ (xs : List LiveRange). xs ++ range_of places (get_or reads k d) ∷ []) e ∙ sym (map-append (range_of places) (take k reads) (get_or reads k d ∷ [])) ∙ ap (map (range_of places)) (sym (take_more reads k d l)),
)
