-- The turns of a placing, one step after the other.
use Rattle.std.proofs.Common.{◌≡◌, ℕ, ◌+◌, ◌-◌, ◌<◌, ◌≤◌, List, ◌++◌, length, drop, sym, ◌∙◌, ap, replicate, append_assoc}
use Rattle.std.specs.Prelude.{slice_index_or, slice_set}
use Rattle.std.proofs.lemmas.List.{drop_more, drop_all, append-nil}
use Rattle.replay_model.specs.Steps.{Event}
use Rattle.audit_laws.specs.Placings.{turns_from}

-- the turns of one more step
module _ (turns taken more_turns more_taken : List ℕ) (order : List Event) (k : ℕ) (d : Event)
    (here : more_turns ≡ turns ++ replicate ((slice_index_or order k d).step - slice_index_or taken (slice_index_or order k d).thread 0) (slice_index_or order k d).thread)
    (there : more_taken ≡ slice_set taken (slice_index_or order k d).thread (slice_index_or order k d).step) (inside : k < length order) where
  pub turns-next : more_turns ++ turns_from more_taken (drop (k + 1) order) ≡ turns ++ turns_from taken (drop k order)
  unfolding turns_from
  turns-next =
      ap (λ (xs : List ℕ). xs ++ turns_from more_taken (drop (k + 1) order)) here ∙
      ap (λ (xs : List ℕ). (turns ++ replicate ((slice_index_or order k d).step - slice_index_or taken (slice_index_or order k d).thread 0) (slice_index_or order k d).thread) ++ turns_from xs (drop (k + 1) order)) there ∙
      append_assoc turns (replicate ((slice_index_or order k d).step - slice_index_or taken (slice_index_or order k d).thread 0) (slice_index_or order k d).thread)
      (turns_from (slice_set taken (slice_index_or order k d).thread (slice_index_or order k d).step) (drop (k + 1) order)) ∙
      ap (λ (rest : List Event). turns ++ turns_from taken rest) (sym (drop_more order k d inside))

-- at the end there are no more
pub turns-end : (turns taken : List ℕ) (order : List Event) (k : ℕ) → length order ≤ k → turns ++ turns_from taken (drop k order) ≡ turns
unfolding turns_from
turns-end turns taken order k l = ap (λ (rest : List Event). turns ++ turns_from taken rest) (drop_all k order l) ∙ append-nil turns
