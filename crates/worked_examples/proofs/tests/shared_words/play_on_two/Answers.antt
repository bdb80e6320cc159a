use Rattle.std.proofs.Common.{◌≡◌, ℕ, ◌<◌, List, [], ◌∷◌, map, length, sym, ◌∙◌, ap, subst, zero-add, arith}
use Rattle.std.specs.Prelude.{slice_index_or}
use Rattle.std.specs.List.{range_with_len}
use Rattle.std.proofs.lemmas.List.{get_or-map, length-map}
use Rattle.std.proofs.lemmas.List.FromFn.{get_or-map-range_with_len, length-map-range_with_len}
use Rattle.tagged_words.specs.Views.{SharedWords, Progress}
use Rattle.tagged_words.specs.Hands.{new_hand}
use Rattle.worked_examples.specs.declared.tests.shared_words.Played.{Played}
use Rattle.worked_examples.proofs.tests.shared_words.play_on_two.Goals as goal

-- what holds of each hand in a list
hands_in : (P : ℕ → Progress → Type 0) (xs : List Played) → ((i : ℕ) (p : Played) → i < length xs → P i (slice_index_or xs i p).hand) → (i : ℕ) (d : Progress) → i < length (map (λ p. p.hand) xs) → P i (slice_index_or (map (λ p. p.hand) xs) i d)
hands_in P [] each i d l = absurd (omega (arith, l))
hands_in P (x ∷ xs) each i d l =
    let low : i < length (x ∷ xs) = omega (arith, l, length-map (x ∷ xs) (λ (p : Played). p.hand)) in
    subst (P i) (sym (get_or-map (λ (p : Played). p.hand) (x ∷ xs) i x d low)) (each i x low)

pub closed-requires-clause-each : goal.closed-requires-clause-each
closed-requires-clause-each g c =
    let words = c.in_ok-words.words in
    let P : ℕ → Progress → Type 0 = λ i h. (h.words ≡ words) × (h.thread ≡ i) in
    let first : List Progress = c.in_ok-words.hands.items in
    let opened : first ≡ map (new_hand words) (range_with_len 0 15) = c.in_ok-words.ensures.hands in
    let count : length first ≡ 15 = ap (λ (hs : List Progress). length hs) opened ∙ length-map-range_with_len (new_hand words) 0 15 in
    subst (λ (hs : List Progress). (i : ℕ) (d : Progress) → i < length hs → P i (slice_index_or hs i d)) (sym c.in_ok-hands.ensures)
    (hands_in P c.in_ok-played.played.items (λ i p l.
    let low : i < length first = omega (arith, l, c.in_ok-played.ensures.len, c.in_ok-played.played.ok, c.in_ok-words.hands.ok) in
    let e : Progress = new_hand words 0 in
    let got = c.in_ok-played.ensures.each i p e low in
    let at : slice_index_or first i e ≡ new_hand words i = ap (λ (hs : List Progress). slice_index_or hs i e) opened ∙ get_or-map-range_with_len (new_hand words) 0 15 i i e (omega (arith, low, count)) (zero-add i) in
    (got.0, got.1 ∙ ap (λ (h : Progress). h.thread) at)))
