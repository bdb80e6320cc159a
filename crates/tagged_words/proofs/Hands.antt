-- For those who use the words: what is known of hands.
use Rattle.std.proofs.Common.{◌≡◌, ℕ, ◌<◌, List, length, arith}
use Rattle.std.specs.Prelude.{All, slice_index_or}
use Rattle.std.proofs.lemmas.List.Elements.{Contains-get_or}
use Rattle.tagged_words.specs.Views.{SharedWords, Progress}
use Rattle.tagged_words.specs.Hands.{IsOf, new_hand, HasHand}

-- hands that stand at their numbers are all hands
module _ (words : SharedWords) (hands : List Progress) (count : length hands ≡ words.start.threads)
    (each : (i : ℕ) (d : Progress) → i < length hands → ((slice_index_or hands i d).words ≡ words) × ((slice_index_or hands i d).thread ≡ i)) where
  pub all_own : All (IsOf words) hands
  all_own k d l = (each k d l).0

  pub all_there : (t : ℕ) → t < words.start.threads → HasHand t hands
  all_there t l =
      let inside : t < length hands = omega (arith, count, l) in
      (slice_index_or hands t (new_hand words 0), Contains-get_or hands t (new_hand words 0) inside, (each t (new_hand words 0) inside).1)
