-- A list of steps at the words, played as a history.
use Rattle.std.proofs.Common.{◌≡◌, ℕ, ◌+◌, ◌<◌, List, [], ◌∷◌, ◌++◌, length, take, refl, sym, ◌∙◌, ap, subst, arith, false}
use Rattle.std.specs.Prelude.{slice_index_or, Option, slice_set, All}
use Rattle.std.proofs.lemmas.List.{append_assoc, append-nil, take_at, get_or_at, length-set, length-append, get_or-replicate, length-replicate, same_lists, get_or_default}
use Rattle.std.proofs.lemmas.List.FromFn.{length-map-range_with_len, get_or-map-range_with_len}
use Rattle.std.proofs.lemmas.List.Elements.{All-head, All-tail}
use Rattle.replay_model.specs.Steps.{Cell, Step, word_of, wrote, found_in, put, has_ended, initial_cells}
use Rattle.replay_model.specs.Threads.{Threads, IsRun, no_step}
use Rattle.replay_model.specs.Histories.{World, steps_of, opening, step_in, move, keep_all, play, IsLegal}
use Rattle.replay_model.specs.WordSteps.{WordStep, event_of, part, Folds}
use Rattle.replay_model.proofs.Moves.{each_thread, move_shape}
use Rattle.replay_model.proofs.WordSteps.{step_of, part-append, part_own, part_other}
use Rattle.replay_laws.specs.BridgeLaws.{threads_in, parts, IsPlayed}

-- the rest of a list, played from where the earlier part led
pub bridge : (threads : Threads) (count : ℕ) (list earlier : List WordStep) (world : World) (end : List Cell) →
    length world.threads ≡ count → ((t : ℕ) → t < count → steps_of world.threads t ≡ part t earlier) →
    All (λ (e : WordStep). e.thread < count) list →
    ((t : ℕ) → t < count → IsRun threads t (part t (earlier ++ list))) →
    Folds earlier world.memory list end →
    IsLegal threads (threads_in list) world ×
    (length (play threads (threads_in list) world).threads ≡ count) ×
    ((t : ℕ) → t < count → steps_of (play threads (threads_in list) world).threads t ≡ part t (earlier ++ list)) ×
    ((play threads (threads_in list) world).memory ≡ end)
unfolding play IsLegal
bridge threads count [] earlier world end counted same within run folds =
    (tt, counted, λ t l. same t l ∙ ap (part t) (sym (append-nil earlier)), folds)
bridge threads count (e ∷ list) earlier world end counted same within run folds =
    let (legal, c, s, m) = bridge threads count list (earlier ++ e ∷ []) (move threads keep_all e.thread world) end
    (ap (λ (w : World). length w.threads) moved ∙ length-set world.threads e.thread _ ∙ counted) kept
    (All-tail (λ (e : WordStep). e.thread < count) e list within)
    (λ t l. subst (λ (x : List WordStep). IsRun threads t (part t x)) (sym (append_assoc earlier (e ∷ []) list)) (run t l))
    (subst (λ (x : List Cell). Folds (earlier ++ e ∷ []) x list end) (sym memory) folds.2) in
    ((ap has_ended wants ∙ lives, legal), c, λ t l. s t l ∙ ap (part t) (append_assoc earlier (e ∷ []) list), m)
  where
    thread_in : e.thread < count
    thread_in = All-head (λ (e : WordStep). e.thread < count) e list within

    r : IsRun threads e.thread (part e.thread (earlier ++ e ∷ list))
    r = run e.thread thread_in

    k : ℕ
    k = length (part e.thread earlier)

    whole : part e.thread (earlier ++ e ∷ list) ≡ part e.thread earlier ++ (step_of e ∷ part e.thread list)
    whole = part-append e.thread earlier (e ∷ list) ∙ ap (λ (x : List Step). part e.thread earlier ++ x) (part_own e list)

    short : length (part e.thread earlier) < length (part e.thread (earlier ++ e ∷ list))
    short = let p = ap length whole in let q = Rattle.std.proofs.lemmas.List.length-append (part e.thread earlier) (step_of e ∷ part e.thread list) in omega (arith, p, q)

    nth : slice_index_or (part e.thread (earlier ++ e ∷ list)) (length (part e.thread earlier)) no_step ≡ step_of e
    nth = ap (λ (x : List Step). slice_index_or x (length (part e.thread earlier)) no_step) whole ∙ get_or_at (part e.thread earlier) (step_of e) (part e.thread list) no_step (length (part e.thread earlier)) refl

    front : take (length (part e.thread earlier)) (part e.thread (earlier ++ e ∷ list)) ≡ part e.thread earlier
    front = ap (take (length (part e.thread earlier))) whole ∙ take_at (part e.thread earlier) (step_of e ∷ part e.thread list) (length (part e.thread earlier)) refl

    wants : threads e.thread (steps_of world.threads e.thread) ≡ e.want
    wants = ap (threads e.thread) (same e.thread thread_in ∙ sym front) ∙ r.wants (length (part e.thread earlier)) short ∙ ap (λ (s : Step). s.want) nth

    lives : has_ended e.want ≡ false
    lives = ap (λ (s : Step). has_ended s.want) (sym nth) ∙ r.lives (length (part e.thread earlier)) short

    moved : move threads keep_all e.thread world ≡ record {
      memory = put world.memory (word_of e.want) (record { thread = e.thread; step = length (steps_of world.threads e.thread) + 1 }) (wrote e.want (found_in world.memory e.want));
      threads = slice_set world.threads e.thread (steps_of world.threads e.thread ++ step_in world.memory e.want ∷ []);
    }
    moved = move_shape threads keep_all e.thread world e.want wants lives

    number : length (steps_of world.threads e.thread) + 1 ≡ e.number
    number = ap (λ (s : List Step). length s + 1) (same e.thread thread_in) ∙ sym folds.0

    memory : (move threads keep_all e.thread world).memory ≡ put world.memory (word_of e.want) (event_of e) (wrote e.want e.found)
    memory = ap (λ (w : World). w.memory) moved ∙
        ap (λ n. put world.memory (word_of e.want) (record { thread = e.thread; step = n }) (wrote e.want (found_in world.memory e.want))) number ∙
        ap (λ (f : Option Cell). put world.memory (word_of e.want) (event_of e) (wrote e.want f)) (sym folds.1)

    step_is : step_in world.memory e.want ≡ step_of e
    step_is = λ j. record { want = e.want; found = sym folds.1 j }

    kept : (u : ℕ) → u < count → steps_of (move threads keep_all e.thread world).threads u ≡ part u (earlier ++ e ∷ [])
    kept u ul = ap (λ (w : World). steps_of w.threads u) moved ∙
        each_thread (λ u s. u < count → s ≡ part u (earlier ++ e ∷ [])) world.threads e.thread (steps_of world.threads e.thread ++ step_in world.memory e.want ∷ [])
        (let c = counted in let l = thread_in in omega (arith, c, l))
        (λ l. ap (λ (s : List Step). s ++ step_in world.memory e.want ∷ []) (same e.thread thread_in) ∙ ap (λ (s : Step). part e.thread earlier ++ s ∷ []) step_is ∙
        ap (λ (s : List Step). part e.thread earlier ++ s) (sym (part_own e [])) ∙ sym (part-append e.thread earlier (e ∷ [])))
        (λ u n l. same u l ∙ sym (append-nil (part u earlier)) ∙ ap (λ (s : List Step). part u earlier ++ s) (sym (part_other u e [] n)) ∙ sym (part-append u earlier (e ∷ [])))
        u ul

-- steps at the words, whose parts are the threads' runs, are a whole history
pub word_steps_played : (threads : Threads) (initial : List ℕ) (count : ℕ) (list : List WordStep) (end : List Cell) →
    All (λ (e : WordStep). e.thread < count) list → ((t : ℕ) → t < count → IsRun threads t (part t list)) →
    Folds [] (initial_cells initial) list end → IsPlayed threads initial count list end
word_steps_played threads initial count list end within run folds =
    let (legal, c, s, m) = bridge threads count list [] (opening initial count) end (length-replicate count []) (λ t l. get_or-replicate count t [] [] l) within run folds in
    record {
      whole = record {
        legal = legal;
        whole = λ t l. let tl : t < count = omega arith in ap (λ (x : List Step). has_ended (threads t x)) (s t tl) ∙ (run t tl).ends;
      };
      steps = s;
      runs = runs_are (play threads (threads_in list) (opening initial count)) c s;
      memory = m;
    }
  where
    runs_are : (world : World) → length world.threads ≡ count → ((t : ℕ) → t < count → steps_of world.threads t ≡ part t list) → world.threads ≡ parts count list
    runs_are world c s =
        let n : length (parts count list) ≡ count = length-map-range_with_len (λ (t : ℕ). part t list) 0 count in
        same_lists world.threads (parts count list) (c ∙ sym n) (λ k d l.
        let kc : k < count = omega arith in
        let z : 0 + k ≡ k = omega arith in
        get_or_default world.threads k d [] l ∙ s k kc ∙ sym (get_or-map-range_with_len (λ (t : ℕ). part t list) 0 count k k d kc z))
