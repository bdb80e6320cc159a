-- What comes of threads that take turns, when all have ended.
use Rattle.std.proofs.Common.{◌≡◌, ℕ, true, List, [], ◌∷◌, ◌++◌, map, reverse, length, refl, sym, ◌∙◌, ap, subst, arith}
use Rattle.std.specs.Prelude.{All, Contains, Some}
use Rattle.std.specs.List.{Any}
use Rattle.std.proofs.lemmas.List.{map-append, reverse-append}
use Rattle.std.proofs.lemmas.List.Elements.{All-map, All-pop, All-push, All-same}
use Rattle.std.proofs.lemmas.List.Sorted.{All-permutation, Contains-permutation, IsPermutation-reverse}
use Rattle.machine.specs.Programs.{ProgramValue, LimitsValue, code_of}
use Rattle.machine.specs.Inputs.{InputsValue, inputs_of}
use Rattle.tagged_words.specs.Views.{SharedWords, Progress}
use Rattle.tagged_words.specs.Hands.{IsOf, new_hand}
use Rattle.recorder.specs.declared.thread_runs.Finished.{Finished}
use Rattle.running_thread.specs.Running.{puts_out}
use Rattle.recorder.specs.Running.{Running, IsFinished, HasRun, HasBegun, new_runner}
use Rattle.recorder.specs.Gathered.{IsDone, HasBegunIn, hand_in, thread_in, thread_of_hand}
use Rattle.recorder.specs.Grouped.{AreSame, IsAtStart, MayPutOut, RunsIn, hand_of}
use Rattle.recorder.proofs.Gathering.{image_there}
use Rattle.recorder.proofs.Rounds.{popped, same-runs, same-threads}

-- the images of a list, the other way round
pub map-back : {X Y : Type 0} (f : X → Y) (xs : List X) → map f (reverse xs) ≡ reverse (map f xs)
map-back f [] = refl
map-back {X} {Y} f (x ∷ xs) =
    ap (map f) (reverse-append (x ∷ []) xs) ∙ map-append f (reverse xs) (x ∷ []) ∙ ap (λ (l : List Y). l ++ f x ∷ []) (map-back f xs) ∙ sym (reverse-append (f x ∷ []) (map f xs))

-- a fact of each, where the last one is taken off
pub front-all : {X : Type 0} (P : X → Type 0) (xs ys : List X) (x : X) → xs ≡ ys ++ x ∷ [] → All P xs → All P ys
front-all P xs ys x e all = (All-pop P xs ys (Some x) e all).0

pub last-all : {X : Type 0} (P : X → Type 0) (xs ys : List X) (x : X) → xs ≡ ys ++ x ∷ [] → All P xs → P x
last-all P xs ys x e all = (All-pop P xs ys (Some x) e all).1

module _ (runners rest : List Running) (r : Running) (taken : runners ≡ rest ++ r ∷ []) (all next : List Finished) (f : Finished) (put : next ≡ all ++ f ∷ []) (hand : f.hand ≡ r.hand) where
  pub ended-order : (total : List Progress) → map hand_in all ++ reverse (map hand_of runners) ≡ total → map hand_in next ++ reverse (map hand_of rest) ≡ total
  ended-order total is =
      ap (λ (l : List Finished). map hand_in l ++ reverse (map hand_of rest)) put ∙
      ap (λ (l : List Progress). l ++ reverse (map hand_of rest)) (map-append hand_in all (f ∷ [])) ∙
      ap (λ (h : Progress). (map hand_in all ++ h ∷ []) ++ reverse (map hand_of rest)) hand ∙
      popped hand_of (map hand_in all) runners rest r taken ∙ is

  module _ (run : HasRun r.program r.limits r.list r.hand.thread r.hand.steps f.log f.report) (words : SharedWords) (p : ProgramValue) (limits : LimitsValue) (inputs : InputsValue) where
    ended-done : RunsIn words p limits inputs r → IsDone words p limits inputs f
    ended-done is =
        let P : ProgramValue → Type 0 = λ q. HasRun q r.limits r.list r.hand.thread r.hand.steps f.log f.report in
        let Q : LimitsValue → Type 0 = λ l. HasRun p l r.list r.hand.thread r.hand.steps f.log f.report in
        let R : Progress → Type 0 = λ h. IsFinished p limits inputs h.thread h.steps f.log f.report in
        (ap (λ (h : Progress). h.words) hand ∙ is.own, subst R (sym hand) (subst Q is.bounds (subst P is.program run) inputs (sym is.list)))

    pub ended-each : All (RunsIn words p limits inputs) runners × All (IsDone words p limits inputs) all → All (RunsIn words p limits inputs) rest × All (IsDone words p limits inputs) next
    ended-each both = (
      front-all (RunsIn words p limits inputs) runners rest r taken both.0,
      All-same (IsDone words p limits inputs) next (all ++ f ∷ []) put
          (All-push (IsDone words p limits inputs) all f both.1 (ended-done (last-all (RunsIn words p limits inputs) runners rest r taken both.0))),
    )

-- the hand of one that is given back
module _ (runners rest : List Running) (r : Running) (taken : runners ≡ rest ++ r ∷ []) (hands next : List Progress) (hand : Progress) (put : next ≡ hands ++ hand ∷ []) (is : hand ≡ r.hand) where
  pub given-order : (total : List Progress) → hands ++ reverse (map hand_of runners) ≡ total → next ++ reverse (map hand_of rest) ≡ total
  given-order total order =
      ap (λ (l : List Progress). l ++ reverse (map hand_of rest)) put ∙ ap (λ (h : Progress). (hands ++ h ∷ []) ++ reverse (map hand_of rest)) is ∙
      popped hand_of hands runners rest r taken ∙ order

  module _ (begun : HasBegun r.program r.limits r.list hand) (words : SharedWords) (p : ProgramValue) (limits : LimitsValue) (inputs : InputsValue) where
    hand-begun : RunsIn words p limits inputs r → HasBegunIn p limits inputs hand
    hand-begun runs =
        let P : ProgramValue → Type 0 = λ q. HasBegun q r.limits r.list hand in
        let Q : LimitsValue → Type 0 = λ l. HasBegun p l r.list hand in
        let list : r.list ≡ inputs_of inputs hand.thread = runs.list ∙ ap (λ (h : Progress). inputs_of inputs h.thread) (sym is) in
        subst (λ (l : List ℕ). HasBegun p limits l hand) list (subst Q runs.bounds (subst P runs.program begun))

    pub begun-each : All (RunsIn words p limits inputs) runners × All (HasBegunIn p limits inputs) hands → All (RunsIn words p limits inputs) rest × All (HasBegunIn p limits inputs) next
    begun-each both = (
      front-all (RunsIn words p limits inputs) runners rest r taken both.0,
      All-same (HasBegunIn p limits inputs) next (hands ++ hand ∷ []) put
          (All-push (HasBegunIn p limits inputs) hands hand both.1 (hand-begun (last-all (RunsIn words p limits inputs) runners rest r taken both.0))),
    )

-- of no hands each has begun
pub none-begun : (p : ProgramValue) (limits : LimitsValue) (inputs : InputsValue) (hands : List Progress) → hands ≡ [] → All (HasBegunIn p limits inputs) hands
none-begun p limits inputs hands none = λ k d l. absurd (let n = ap length none in omega (arith, n, l))

-- a thread at its start
pub new-runs : (words : SharedWords) (p : ProgramValue) (limits : LimitsValue) (inputs : InputsValue) (hand : Progress) (list : List ℕ) (r : Running) → hand ≡ new_hand words hand.thread → list ≡ inputs_of inputs hand.thread →
    r ≡ new_runner p limits list hand → RunsIn words p limits inputs r
new-runs words p limits inputs hand list r fresh given is =
    let P : Running → Type 0 = RunsIn words p limits inputs in
    subst P (sym is) (record { program = refl; bounds = refl; list = given; own = ap (λ (h : Progress). h.words) fresh })

pub new-starts : (p : ProgramValue) (limits : LimitsValue) (inputs : InputsValue) (hand : Progress) (list : List ℕ) (r : Running) → list ≡ inputs_of inputs hand.thread → r ≡ new_runner p limits list hand → IsAtStart p limits inputs r
new-starts p limits inputs hand list r given is = subst (IsAtStart p limits inputs) (sym is) (ap (λ (l : List ℕ). new_runner p limits l hand) given)

-- the hands of those that have started stand the other way round
pub started-order : (hands rest : List Progress) (hand : Progress) → hands ≡ rest ++ hand ∷ [] → (runners next : List Running) (r : Running) → next ≡ runners ++ r ∷ [] → r.hand ≡ hand →
    (total : List Progress) → hands ++ reverse (map hand_of runners) ≡ total → rest ++ reverse (map hand_of next) ≡ total
started-order hands rest hand taken runners next r put same total order =
    sym (popped hand_of rest next runners r put) ∙
    ap (λ (h : Progress). (rest ++ h ∷ []) ++ reverse (map hand_of runners)) same ∙
    ap (λ (l : List Progress). l ++ reverse (map hand_of runners)) (sym taken) ∙ order

-- ---- the hands of a group

hands_threads : (rs : List Running) → map thread_of_hand (map hand_of rs) ≡ map (λ (r : Running). r.hand.thread) rs
hands_threads [] = refl
hands_threads (r ∷ rs) = ap (λ (l : List ℕ). r.hand.thread ∷ l) (hands_threads rs)

done_threads : (all : List Finished) → map thread_in all ≡ map thread_of_hand (map hand_in all)
done_threads [] = refl
done_threads (f ∷ all) = ap (λ (l : List ℕ). f.hand.thread ∷ l) (done_threads all)

back_threads : (rs : List Running) → map thread_of_hand (reverse (map hand_of rs)) ≡ reverse (map (λ (r : Running). r.hand.thread) rs)
back_threads rs = map-back thread_of_hand (map hand_of rs) ∙ ap reverse (hands_threads rs)

module _ (hands : List Progress) (runners last : List Running) (order : reverse (map hand_of runners) ≡ hands) (same : AreSame runners last) where
  group-threads : map thread_of_hand (reverse (map hand_of last)) ≡ map thread_of_hand hands
  group-threads = back_threads last ∙ ap reverse (same-threads runners last same) ∙ sym (back_threads runners) ∙ ap (map thread_of_hand) order

  -- those of what came of it
  pub group-done : (all : List Finished) → map hand_in all ≡ reverse (map hand_of last) → map thread_in all ≡ map thread_of_hand hands
  group-done all is = done_threads all ∙ ap (map thread_of_hand) is ∙ group-threads

  module _ (rest back : List Progress) (none : rest ≡ []) (is : back ≡ rest ++ reverse (map hand_of last)) where
    back-is : back ≡ reverse (map hand_of last)
    back-is = is ∙ ap (λ (l : List Progress). l ++ reverse (map hand_of last)) none

    -- those of the hands given back
    pub group-back : map thread_of_hand back ≡ map thread_of_hand hands
    group-back = ap (map thread_of_hand) back-is ∙ group-threads

    pub group-own : (words : SharedWords) (p : ProgramValue) (limits : LimitsValue) (inputs : InputsValue) → All (RunsIn words p limits inputs) runners → All (IsOf words) back
    group-own words p limits inputs each =
        let runs : All (RunsIn words p limits inputs) last = same-runs words p limits inputs runners last each same in
        subst (λ (l : List Progress). All (IsOf words) l) (sym back-is)
        (All-permutation (IsOf words) (map hand_of last) (reverse (map hand_of last)) (IsPermutation-reverse (map hand_of last)) (All-map (IsOf words) hand_of last (λ k d l. (runs k d l).own)))

  -- the code of one of them puts out a value
  pub group-puts : (words : SharedWords) (p : ProgramValue) (limits : LimitsValue) (inputs : InputsValue) → All (RunsIn words p limits inputs) runners → Any MayPutOut runners → Any (λ (hand : Progress). puts_out (code_of p hand.thread) ≡ true) hands
  group-puts words p limits inputs each (k, r, l, at, puts) =
      let runs : RunsIn words p limits inputs r = subst (RunsIn words p limits inputs) at (each k r l) in
      let there : Contains hands r.hand =
      subst (λ (l : List Progress). Contains l r.hand) order (Contains-permutation (map hand_of runners) (reverse (map hand_of runners)) r.hand (IsPermutation-reverse (map hand_of runners)) (image_there hand_of runners r (k, l, at))) in
      (there.0, r.hand, there.1, there.2, subst (λ (q : ProgramValue). puts_out (code_of q r.hand.thread) ≡ true) runs.program puts)
