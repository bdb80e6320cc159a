-- What the comparison of a replay with its log says.
use Rattle.std.proofs.Common.{◌≡◌, ℕ, zero, suc, ◌<◌, List, [], ◌∷◌, ◌++◌, length, take, drop, map, sym, ◌∙◌, ap, subst, arith}
use Rattle.std.specs.Prelude.{Option, Some, None, MatchOption, slice_index_or}
use Rattle.std.proofs.lemmas.List.{length-map, length-take}
use Rattle.replay_model.specs.Steps.{Tag}
use Rattle.replayer.specs.declared.difference.Difference.{Difference}
use Rattle.replayer.specs.Differences.{Part, DifferFirst, thread_items, tag_items, part_items, items_of}
use Rattle.replayer.proofs.Items.{differ-before, differ-behind, threads-differ}

-- a list of parts, at one of its places
split-map : {X : Type 0} (f : X → Part) (xs : List X) (t : ℕ) (x : X) → t < length xs → x ≡ slice_index_or xs t x → map f xs ≡ map f (take t xs) ++ f x ∷ map f (drop (suc t) xs)
split-map f [] t x l at = absurd (omega arith)
split-map {X} f (y ∷ xs) zero x l at = ap (λ (z : X). f z ∷ map f xs) (sym at)
split-map f (y ∷ xs) (suc t) x l at = ap (λ (l : List Part). f y ∷ l) (split-map f xs t x (omega arith) at)

-- the thread at which a loop stops
pub threads-differ-at : {X Y : Type 0} (f : X → Part) (g : Y → Part) (xs : List X) (ys : List Y) (t : ℕ) (x : X) (y : Y) (a b : Part) (d : Difference) → t < length xs → t < length ys →
    x ≡ slice_index_or xs t x → y ≡ slice_index_or ys t y → a ≡ f x → b ≡ g y → map f (take t xs) ≡ map g (take t ys) → DifferFirst (part_items t a) (part_items t b) d →
    DifferFirst (thread_items 0 (map f xs)) (thread_items 0 (map g ys)) d
threads-differ-at f g xs ys t x y a b d lx ly ax ay fa gb same h =
    let front : map f (take t xs) ++ f x ∷ map f (drop (suc t) xs) ≡ map g (take t ys) ++ a ∷ map f (drop (suc t) xs) =
    ap (λ (l : List Part). l ++ f x ∷ map f (drop (suc t) xs)) same ∙ ap (λ (q : Part). map g (take t ys) ++ q ∷ map f (drop (suc t) xs)) (sym fa) in
    let back : map g (take t ys) ++ g y ∷ map g (drop (suc t) ys) ≡ map g (take t ys) ++ b ∷ map g (drop (suc t) ys) = ap (λ (q : Part). map g (take t ys) ++ q ∷ map g (drop (suc t) ys)) (sym gb) in
    let n : length (map g (take t ys)) ≡ t = length-map (take t ys) g ∙ (let k = length-take t ys in omega (arith, k, ly)) in
    let P : List Part → Type 0 = λ l. DifferFirst (thread_items 0 l) (thread_items 0 (map g ys)) d in
    let Q : List Part → Type 0 = λ l. DifferFirst (thread_items 0 (map g (take t ys) ++ a ∷ map f (drop (suc t) xs))) (thread_items 0 l) d in
    subst P (sym (split-map f xs t x lx ax ∙ front)) (subst Q (sym (split-map g ys t y ly ay ∙ back)) (threads-differ t (map g (take t ys)) (map f (drop (suc t) xs)) (map g (drop (suc t) ys)) a b d n h))

-- the threads differ, whatever the last tags are
pub differ-in-threads : (xs ys : List Part) (us vs : List Tag) (d : Difference) → DifferFirst (thread_items 0 xs) (thread_items 0 ys) d → DifferFirst (items_of xs us) (items_of ys vs) d
differ-in-threads xs ys us vs d h = differ-before (thread_items 0 xs) (thread_items 0 ys) _ _ d h

-- the threads are the same, and the last tags differ
differ-in-tags : (xs ys : List Part) (n : ℕ) (us vs : List Tag) (d : Difference) → xs ≡ ys → n ≡ length ys → DifferFirst (tag_items n 0 us) (tag_items n 0 vs) d → DifferFirst (items_of xs us) (items_of ys vs) d
differ-in-tags xs ys n us vs d same e h =
    let P : List Part → Type 0 = λ l. DifferFirst (items_of l us) (items_of ys vs) d in
    let Q : ℕ → Type 0 = λ m. DifferFirst (thread_items 0 ys ++ tag_items m 0 us) (thread_items 0 ys ++ tag_items m 0 vs) d in
    subst P (sym same) (subst Q e (differ-behind (thread_items 0 ys) (tag_items n 0 us) (tag_items n 0 vs) d h))

-- what is found of the last tags is found of all
pub tags-found : (o : Option Difference) (xs ys : List Part) (n : ℕ) (us vs : List Tag) → xs ≡ ys → n ≡ length ys → MatchOption o (us ≡ vs) (DifferFirst (tag_items n 0 us) (tag_items n 0 vs)) →
    MatchOption o ((xs ≡ ys) × (us ≡ vs)) (DifferFirst (items_of xs us) (items_of ys vs))
tags-found None xs ys n us vs same e h = (same, h)
tags-found (Some d) xs ys n us vs same e h = differ-in-tags xs ys n us vs d same e h
