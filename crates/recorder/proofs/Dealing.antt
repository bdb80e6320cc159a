-- Hands are dealt out to workers, and what comes of the threads is collected.
use Rattle.std.proofs.Common.{◌≡◌, ℕ, ◌+◌, ◌<◌, ◌≤◌, ◌%◌, List, [], ◌∷◌, ◌++◌, map, reverse, length, refl, sym, ◌∙◌, ap, subst, arith}
use Rattle.std.specs.Prelude.{Option, Some, None, IsSome, slice_index_or, slice_set, All}
use Rattle.std.specs.List.{range_with_len}
use Rattle.std.specs.Global.{Vec}
use Rattle.std.proofs.Math.Nat.{mod-lt}
use Rattle.std.proofs.lemmas.List.{map-append, map-set, set-set, set-get_or, length-map, length_push, get_or-map, same_from_push}
use Rattle.std.proofs.lemmas.List.Elements.{All-push, All-same, All-set, All-get_or}
use Rattle.machine.specs.Programs.{ProgramValue, LimitsValue}
use Rattle.machine.specs.Inputs.{InputsValue}
use Rattle.tagged_words.specs.Views.{SharedWords, Progress}
use Rattle.history.proofs.Turns.{range-more}
use Rattle.recorder.specs.declared.thread_runs.Finished.{Finished}
use Rattle.recorder.specs.Gathered.{IsReady, IsDone, thread_in, thread_of_hand}
use Rattle.recorder.specs.Grouped.{AreDone, AreReady, hands_in, share, shares, threads_in, threads_of}
use Rattle.recorder.proofs.Rounds.{popped}
use Rattle.recorder.proofs.Endings.{front-all, last-all}
use Rattle.recorder.proofs.Sharing.{shares-count, shares-at, shares-push, shares-all, shares-image, share-own}

-- a place among the groups
pub group-there : {X : Type 0} {Y : Type 0} (number : Y → ℕ) (workers : ℕ) (part : X → List Y) (groups : List X) (xs : List Y) (t i : ℕ) → map part groups ≡ shares number workers xs → 1 ≤ workers → i ≡ t % workers → i < length groups
group-there number workers part groups xs t i same some own =
    let n = length-map groups part in
    let m = ap length same in
    let k = shares-count number workers xs in
    let l : t % workers < workers = mod-lt t some in
    omega (arith, n, m, k, l, own)

-- ---- dealing

module _ (workers : ℕ) (some : 1 ≤ workers) (groups : List (Vec Progress)) (dealt : List Progress) (is : map hands_in groups ≡ shares thread_of_hand workers dealt) (hand : Progress) (i : ℕ) (own : i ≡ hand.thread % workers) where
  pub dealt-there : i < length groups
  dealt-there = group-there thread_of_hand workers hands_in groups dealt hand.thread i is some own

  pub dealt-more : (before after : Vec Progress) → before ≡ slice_index_or groups i before → after.items ≡ before.items ++ hand ∷ [] → map hands_in (slice_set groups i after) ≡ shares thread_of_hand workers (dealt ++ hand ∷ [])
  dealt-more before after at put =
      let below : i < workers = (let l : hand.thread % workers < workers = mod-lt hand.thread some in omega (arith, l, own)) in
      let had : before.items ≡ share thread_of_hand workers dealt i =
      ap hands_in at ∙ sym (get_or-map hands_in groups i before [] dealt-there) ∙ ap (λ (l : List (List Progress)). slice_index_or l i []) is ∙ shares-at thread_of_hand workers dealt i [] below in
      map-set hands_in groups i after ∙
      ap (λ (l : List Progress). slice_set (map hands_in groups) i l) (put ∙ ap (λ (l : List Progress). l ++ hand ∷ []) had) ∙
      ap (λ (l : List (List Progress)). slice_set l i (share thread_of_hand workers dealt i ++ hand ∷ [])) is ∙
      sym (shares-push thread_of_hand workers dealt hand i own below)

module _ (workers : ℕ) (groups : List (Vec Progress)) (hands : List Progress) (is : map hands_in groups ≡ shares thread_of_hand workers hands) where
  -- each group is ready
  pub groups-ready : (words : SharedWords) (p : ProgramValue) → All (IsReady words p) hands → All (AreReady words p) groups
  groups-ready words p ready k d l =
      let there : k < length (shares thread_of_hand workers hands) = (let n = ap length is in let m = length-map groups hands_in in omega (arith, n, m, l)) in
      let same : slice_index_or (shares thread_of_hand workers hands) k [] ≡ (slice_index_or groups k d).items = ap (λ (x : List (List Progress)). slice_index_or x k []) (sym is) ∙ get_or-map hands_in groups k d [] l in
      subst (λ (part : List Progress). All (IsReady words p) part) same (shares-all thread_of_hand workers (IsReady words p) hands ready k [] there)

  map_both : (gs : List (Vec Progress)) → map threads_of gs ≡ map (map thread_of_hand) (map hands_in gs)
  map_both [] = refl
  map_both (g ∷ gs) = ap (λ (l : List (List ℕ)). map thread_of_hand g.items ∷ l) (map_both gs)

  -- the numbers of its threads
  pub groups-threads : (n : ℕ) → map thread_of_hand hands ≡ range_with_len 0 n → map threads_of groups ≡ shares (λ (t : ℕ). t) workers (range_with_len 0 n)
  groups-threads n numbered =
      map_both groups ∙ ap (map (map thread_of_hand)) is ∙ shares-image thread_of_hand (λ (t : ℕ). t) workers hands ∙ ap (shares (λ (t : ℕ). t) workers) numbered

-- ---- collecting

pub none-left : (r : Option Finished) → r ≡ None → IsSome r → ⊥
none-left None e s = cc
none-left (Some f) e s = cc

module _ (workers : ℕ) (some : 1 ≤ workers) (groups : List (Vec Finished)) (next t : ℕ) (number : next ≡ t + 1) (is : map threads_in groups ≡ shares (λ (u : ℕ). u) workers (range_with_len 0 next)) (i : ℕ) (own : i ≡ t % workers) where
  shared : map threads_in groups ≡ shares (λ (u : ℕ). u) workers (range_with_len 0 t ++ t ∷ [])
  shared = is ∙ ap (λ (l : List ℕ). shares (λ (u : ℕ). u) workers l) (ap (range_with_len 0) number ∙ range-more t)

  pub collected-there : i < length groups
  collected-there = group-there (λ (u : ℕ). u) workers threads_in groups (range_with_len 0 next) t i is some own

  below : i < workers
  below = let l : t % workers < workers = mod-lt t some in omega (arith, l, own)

  module _ (before : Vec Finished) (at : before ≡ slice_index_or groups i before) where
    had : map thread_in before.items ≡ share (λ (u : ℕ). u) workers (range_with_len 0 t) i ++ t ∷ []
    had =
        ap threads_in at ∙ sym (get_or-map threads_in groups i before [] collected-there) ∙ ap (λ (l : List (List ℕ)). slice_index_or l i []) shared ∙
        shares-at (λ (u : ℕ). u) workers (range_with_len 0 t ++ t ∷ []) i [] below ∙ share-own (λ (u : ℕ). u) workers (range_with_len 0 t) t i own

    -- so a thread is left there
    pub collected-some : 0 < length before.items
    collected-some =
        let n = length-map before.items thread_in in
        let m = ap length had in
        let k = length_push (share (λ (u : ℕ). u) workers (range_with_len 0 t) i) t in
        omega (arith, n, m, k)

    module _ (after : Vec Finished) (f : Finished) (taken : before.items ≡ after.items ++ f ∷ []) where
      parts : (map thread_in after.items ≡ share (λ (u : ℕ). u) workers (range_with_len 0 t) i) × (thread_in f ≡ t)
      parts = same_from_push (map thread_in after.items) (share (λ (u : ℕ). u) workers (range_with_len 0 t) i) (thread_in f) t (sym (map-append thread_in after.items (f ∷ [])) ∙ ap (map thread_in) (sym taken) ∙ had)

      pub collected-shared : map threads_in (slice_set groups i after) ≡ shares (λ (u : ℕ). u) workers (range_with_len 0 t)
      collected-shared =
          let part : List ℕ = share (λ (u : ℕ). u) workers (range_with_len 0 t) i in
          let all : List (List ℕ) = shares (λ (u : ℕ). u) workers (range_with_len 0 t) in
          map-set threads_in groups i after ∙
          ap (λ (l : List ℕ). slice_set (map threads_in groups) i l) parts.0 ∙
          ap (λ (l : List (List ℕ)). slice_set l i part) (shared ∙ shares-push (λ (u : ℕ). u) workers (range_with_len 0 t) t i own below) ∙
          set-set all i (part ++ t ∷ []) part ∙
          ap (slice_set all i) (sym (shares-at (λ (u : ℕ). u) workers (range_with_len 0 t) i [] below)) ∙ set-get_or all i []

      module _ (all more : List Finished) (put : more ≡ all ++ f ∷ []) where
        pub collected-order : (total : List ℕ) → range_with_len 0 next ++ reverse (map thread_in all) ≡ total → range_with_len 0 t ++ reverse (map thread_in more) ≡ total
        collected-order total order =
            sym (popped thread_in (range_with_len 0 t) more all f put) ∙
            ap (λ (u : ℕ). (range_with_len 0 t ++ u ∷ []) ++ reverse (map thread_in all)) parts.1 ∙
            ap (λ (l : List ℕ). l ++ reverse (map thread_in all)) (sym (ap (range_with_len 0) number ∙ range-more t)) ∙ order

        pub collected-each : (words : SharedWords) (p : ProgramValue) (limits : LimitsValue) (inputs : InputsValue) → All (AreDone words p limits inputs) groups × All (IsDone words p limits inputs) all →
            All (AreDone words p limits inputs) (slice_set groups i after) × All (IsDone words p limits inputs) more
        collected-each words p limits inputs both =
            let here : All (IsDone words p limits inputs) before.items =
            subst (λ (g : Vec Finished). AreDone words p limits inputs g) (sym at) (All-get_or (AreDone words p limits inputs) groups i before collected-there both.0) in (
              All-set (AreDone words p limits inputs) groups i after (front-all (IsDone words p limits inputs) before.items after.items f taken here) both.0,
              All-same (IsDone words p limits inputs) more (all ++ f ∷ []) put (All-push (IsDone words p limits inputs) all f both.1 (last-all (IsDone words p limits inputs) before.items after.items f taken here)),
            )
