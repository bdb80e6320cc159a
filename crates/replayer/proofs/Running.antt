-- A thread that runs up to a step, or to its end, from the steps that were added.
use Rattle.std.proofs.Common.{◌≡◌, ℕ, ◌+◌, ◌-◌, ◌<◌, ◌≤◌, Bool, true, false, List, [], ◌∷◌, ◌++◌, length, refl, sym, ◌∙◌, ap, subst, arith, inl, inr, ◌⊎◌, append_assoc, append-nil, length-append}
use Rattle.std.specs.Prelude.{Option, Some, None, IfSome, cond, slice_index_or, slice_set}
use Rattle.std.proofs.lemmas.Bool.{cases_eq}
use Rattle.std.proofs.lemmas.List.{length_push, length-set, get_or-set_same, get_or-set_other}
use Rattle.replay_model.specs.declared.End.{End}
use Rattle.replay_model.specs.declared.Want.TheVariants.{Ended}
use Rattle.replay_model.specs.Steps.{Cell, Step, word_of, wrote, has_ended, found_in, put}
use Rattle.replay_model.specs.Histories.{World, steps_of, next_event, wanted, move}
use Rattle.replay_model.specs.Logs.{Log}
use Rattle.replay_model.specs.Events.{keeps}
use Rattle.replay_model.specs.SkipPlay.{moves, turn}
use Rattle.replay_model.proofs.Moves.{move_shape, move_steps, move_there, move_count}
use Rattle.replay_model.proofs.Plays.{moves-add, length-put}
use Rattle.replay_laws.proofs.Endings.{moves_ended}
use Rattle.machine.specs.Programs.{ProgramValue, LimitsValue}
use Rattle.machine.specs.Inputs.{inputs_of}
use Rattle.machine.specs.Laws.{taken_in}
use Rattle.running_thread.specs.declared.thread.RunningThread.{RunningThread}
use Rattle.running_thread.specs.Running.{Runs, event_after}
use Rattle.running_thread.specs.Threads.{HasAdded, IsThread}
use Rattle.running_thread.specs.Threads as running
use Rattle.replayer.specs.declared.words.ReplayWords.{ReplayWords}
use Rattle.replayer.specs.KeptSteps.{begins_with, past, AreLeft}
use Rattle.replayer.specs.Replays.{threads_by}
use Rattle.replayer.specs.Words.{left_of, IsReady, Takes, AreWords}
use Rattle.replayer.specs.Seats.{IsSeat, IsAt, IsEndBefore, HasRun, HasStopped, HasRunOut, turned}
use Rattle.replayer.specs.Notes.{AreWrites}
use Rattle.replayer.proofs.Cursors.{Advances, left-step}
use Rattle.replayer.proofs.Noting.{noted-more}

length-cond : {X : Type 0} (b : Bool) (xs ys : List X) → length xs ≡ length ys → length (cond b xs ys) ≡ length ys
length-cond true xs ys h = h
length-cond false xs ys h = refl

-- after thread t took these steps the words are those of the world to which they lead
record HasMoved (p : ProgramValue) (log : Log) (world : World) (t : ℕ) (added : List Step) (words : ReplayWords) (next : World) : Type 0 where
  pub are : AreWords p log next words
  pub steps : steps_of next.threads t ≡ steps_of world.threads t ++ added

-- one step
one-moved : (p : ProgramValue) (log : Log) (world : World) (t : ℕ) (step : Step) (old new : ReplayWords) → t < length p.threads → AreWords p log world old → wanted (threads_by p log) t world ≡ step.want →
    has_ended step.want ≡ false → Takes old (event_after t (steps_of world.threads t)) step.want step.found new → HasMoved p log world t (step ∷ []) new (move (threads_by p log) (keeps log) t world)
one-moved p log world t step old new there are wants lives takes = record {
  are = record {
    memory = takes.cells ∙ shape ∙ ap (λ (w : World). w.memory) (sym (move_shape (threads_by p log) (keeps log) t world step.want wants lives));
    sized = ap length takes.cells ∙
        length-cond (begins_with (event_after t steps).step (left_of old t)) (put old.cells.items (word_of step.want) (event_after t steps) (wrote step.want step.found)) old.cells.items
        (length-put old.cells.items (word_of step.want) (event_after t steps) (wrote step.want step.found)) ∙ are.sized;
    counted = move_count (threads_by p log) (keeps log) t world ∙ are.counted;
    all = ap length takes.kept ∙ length-set old.kept.items t (past (length steps + 1) (left_of old t)) ∙ are.all;
    left = λ u l. by_thread u l (cases_eq u t);
    noted =
        let Q : List (List Step) → Type 0 = λ runs. IfSome new.notes (λ writes. AreWrites runs writes.items) in
        subst Q (sym written) (noted-more world.threads t step (let c = are.counted in omega (arith, c, there)) old.notes new.notes takes.noted are.noted);
  };
  steps = more;
}
  where
    steps : List Step
    steps = steps_of world.threads t

    found : step.found ≡ found_in world.memory step.want
    found = takes.finds ∙ ap (λ (m : List Cell). found_in m step.want) are.memory

    more : steps_of (move (threads_by p log) (keeps log) t world).threads t ≡ steps ++ step ∷ []
    more =
        move_steps (threads_by p log) (keeps log) t world step.want (let c = are.counted in omega (arith, c, there)) wants lives ∙
        ap (λ (f : Option Cell). steps ++ record { want = step.want; found = f } ∷ []) (sym found)

    written : (move (threads_by p log) (keeps log) t world).threads ≡ slice_set world.threads t (steps ++ step ∷ [])
    written =
        ap (λ (w : World). w.threads) (move_shape (threads_by p log) (keeps log) t world step.want wants lives) ∙
        ap (λ (f : Option Cell). slice_set world.threads t (steps ++ record { want = step.want; found = f } ∷ [])) (sym found)

    advances : Advances log t (length steps) (left_of old t)
    advances = left-step log t (length steps) (left_of old t) (are.left t there)

    shape : cond (begins_with (length steps + 1) (left_of old t)) (put old.cells.items (word_of step.want) (event_after t steps) (wrote step.want step.found)) old.cells.items ≡
        cond (keeps log (next_event t world)) (put world.memory (word_of step.want) (next_event t world) (wrote step.want (found_in world.memory step.want))) world.memory
    shape =
        ap (λ (m : List Cell). cond (begins_with (length steps + 1) (left_of old t)) (put m (word_of step.want) (event_after t steps) (wrote step.want step.found)) m) are.memory ∙
        ap (λ (f : Option Cell). cond (begins_with (length steps + 1) (left_of old t)) (put world.memory (word_of step.want) (event_after t steps) (wrote step.want f)) world.memory) found ∙
        ap (λ (b : Bool). cond b (put world.memory (word_of step.want) (next_event t world) (wrote step.want (found_in world.memory step.want))) world.memory) advances.tells

    by_thread : (u : ℕ) → u < length p.threads → (u ≡ t) ⊎ (u ≡ t → ⊥) → AreLeft log u (length (steps_of (move (threads_by p log) (keeps log) t world).threads u)) (left_of new u)
    by_thread u l (inl e) =
        let P : ℕ → Type 0 = λ v. AreLeft log v (length (steps_of (move (threads_by p log) (keeps log) t world).threads v)) (left_of new v) in
        let Q : List ℕ → Type 0 = λ k. AreLeft log t (length (steps_of (move (threads_by p log) (keeps log) t world).threads t)) k in
        let R : ℕ → Type 0 = λ n. AreLeft log t n (past (length steps + 1) (left_of old t)) in
        let at : left_of new t ≡ past (length steps + 1) (left_of old t) = ap (λ (k : List (List ℕ)). slice_index_or k t []) takes.kept ∙ get_or-set_same old.kept.items t (past (length steps + 1) (left_of old t)) [] (let n = are.all in omega (arith, n, there)) in
        let n : length (steps_of (move (threads_by p log) (keeps log) t world).threads t) ≡ length steps + 1 = ap length more ∙ length_push steps step in
        subst P (sym e) (subst Q (sym at) (subst R (sym n) advances.left))
    by_thread u l (inr ne) =
        let Q : List ℕ → Type 0 = λ k. AreLeft log u (length (steps_of (move (threads_by p log) (keeps log) t world).threads u)) k in
        let R : List Step → Type 0 = λ s. AreLeft log u (length s) (left_of old u) in
        let at : left_of new u ≡ left_of old u = ap (λ (k : List (List ℕ)). slice_index_or k u []) takes.kept ∙ get_or-set_other old.kept.items t u (past (length steps + 1) (left_of old t)) [] ne in
        subst Q (sym at) (subst R (sym (move_there (threads_by p log) (keeps log) t u world ne)) (are.left u l))

-- all of them
all-moved : (p : ProgramValue) (log : Log) (t : ℕ) (added : List Step) (world : World) (old new : ReplayWords) → t < length p.threads → AreWords p log world old →
    Runs Takes (threads_by p log) t (steps_of world.threads t) added old new → HasMoved p log world t added new (moves (threads_by p log) (keeps log) (length added) t world)
unfolding moves
all-moved p log t [] world old new there are runs = record { are = subst (AreWords p log world) (sym runs) are; steps = sym (append-nil (steps_of world.threads t)) }
all-moved p log t (step ∷ added) world old new there are (mid, wants, lives, takes, runs) =
    let one = one-moved p log world t step old mid there are wants lives takes in
    let next = move (threads_by p log) (keeps log) t world in
    let rest = all-moved p log t added next mid new there one.are (subst (λ (s : List Step). Runs Takes (threads_by p log) t s added mid new) (sym one.steps) runs) in
    record { are = rest.are; steps = rest.steps ∙ ap (λ (s : List Step). s ++ added) one.steps ∙ append_assoc (steps_of world.threads t) (step ∷ []) added }

-- the turn of a thread that has come so far is that many moves
pub turned-is : (p : ProgramValue) (log : Log) (t last k : ℕ) (world : World) → last - length (steps_of world.threads t) ≡ k → turned p log t last world ≡ moves (threads_by p log) (keeps log) k t world
unfolding turn
turned-is p log t last k world e = ap (λ (n : ℕ). moves (threads_by p log) (keeps log) n t world) e

no_moves : (p : ProgramValue) (log : Log) (t : ℕ) (world : World) → moves (threads_by p log) (keeps log) 0 t world ≡ world
unfolding moves
no_moves p log t world = refl

module _ (p : ProgramValue) (log : Log) (t : ℕ) (world : World) (old new : ReplayWords) (start thread : RunningThread) (then : IsAt p log world t old start) (added : List Step)
    (has : HasAdded IsReady Takes p log.limits (inputs_of (taken_in log) t) t (steps_of world.threads t) added old new thread) where
  abbrev pub here : World
  here = moves (threads_by p log) (keeps log) (length added) t world

  moved : HasMoved p log world t added new here
  moved = all-moved p log t added world old new then.seated.there then.are has.runs

  pub at-here : IsAt p log here t new thread
  at-here = record { are = moved.are; seated = subst (λ (s : List Step). IsSeat p log t s thread) (sym moved.steps) has.is }

  so_many : length (steps_of here.threads t) ≡ length (steps_of world.threads t) + length added
  so_many = ap length moved.steps ∙ length-append (steps_of world.threads t) added

  added-many : length (steps_of world.threads t ++ added) ≡ length (steps_of world.threads t) + length added
  added-many = length-append (steps_of world.threads t) added

  -- a turn goes on from there
  further : (last : ℕ) → length (steps_of world.threads t ++ added) ≤ last → turned p log t last world ≡ moves (threads_by p log) (keeps log) (last - length (steps_of here.threads t)) t here
  further last l =
      turned-is p log t last (length added + (last - length (steps_of here.threads t))) world (let n = so_many in let m = added-many in omega (arith, n, m, l)) ∙
      moves-add (threads_by p log) (keeps log) (length added) (last - length (steps_of here.threads t)) t world

  -- it was stopped there
  pub stopped : (last : ℕ) → length (steps_of world.threads t ++ added) < last → HasStopped p log t last world new thread
  stopped last l = record {
    before = let k = has.is.counted in omega (arith, k, l);
    at = subst (λ (w : World). IsAt p log w t new thread) (sym same) at-here;
    again = ap (turned p log t last) same ∙ turned-is p log t last (last - length (steps_of here.threads t)) here refl ∙ sym (further last (omega arith));
  }
    where
      same : turned p log t thread.core.steps world ≡ here
      same = turned-is p log t thread.core.steps (length added) world (let k = has.is.counted in let m = added-many in omega (arith, k, m))

  -- it has ended there
  ended-there : (last : ℕ) → length (steps_of world.threads t ++ added) ≤ last → has_ended (wanted (threads_by p log) t here) ≡ true → turned p log t last world ≡ here
  ended-there last l over = further last l ∙ moves_ended (threads_by p log) (keeps log) (last - length (steps_of here.threads t)) t here over

  wants-here : (end : End) → threads_by p log t (steps_of world.threads t ++ added) ≡ Ended end → wanted (threads_by p log) t here ≡ Ended end
  wants-here end h = ap (threads_by p log t) moved.steps ∙ h

  -- it has had its turn
  pub has-run : (last : ℕ) (end : Option End) → (length (steps_of world.threads t ++ added) ≤ last) ⊎ (added ≡ []) →
      running.IsEndBefore p log.limits (inputs_of (taken_in log) t) t last (steps_of world.threads t ++ added) end thread → HasRun p log t last world end new thread
  has-run last None within ended = record {
    at = subst (λ (w : World). IsAt p log w t new thread) (sym same) at-here;
    ended = subst (λ (w : World). IsEndBefore (threads_by p log) t last w None) (sym same) (let n = so_many in let m = added-many in omega (arith, n, m, ended));
  }
    where
      exactly : (length (steps_of world.threads t ++ added) ≤ last) ⊎ (added ≡ []) → last - length (steps_of world.threads t) ≡ length added
      exactly (inl h) = let m = added-many in omega (arith, m, h, ended)
      exactly (inr h) = let m = added-many in let z = ap length h in omega (arith, m, z, ended)

      same : turned p log t last world ≡ here
      same = turned-is p log t last (length added) world (exactly within)
  has-run last (Some end) within ended = record {
    at = subst (λ (w : World). IsAt p log w t new thread) (sym same) at-here;
    ended = subst (λ (w : World). IsEndBefore (threads_by p log) t last w (Some end)) (sym same) ((let n = so_many in let m = added-many in let l = ended.0 in omega (arith, n, m, l)), wants-here end ended.1);
  }
    where
      same : turned p log t last world ≡ here
      same = ended-there last (let l = ended.0 in omega (arith, l)) (ap has_ended (wants-here end ended.1))

  -- it has run to its end
  pub has-run-out : (end : End) → length (steps_of world.threads t ++ added) ≤ log.limits.steps → threads_by p log t (steps_of world.threads t ++ added) ≡ Ended end →
      thread.core ≡ running.state_with p log.limits (inputs_of (taken_in log) t) t (steps_of world.threads t ++ added) → HasRunOut p log t world new thread
  has-run-out end within wants settled = record {
    at = subst (λ (w : World). IsAt p log w t new thread) (sym same) at-here;
    settled = subst (λ (w : World). thread.core ≡ running.state_with p log.limits (inputs_of (taken_in log) t) t (steps_of w.threads t)) (sym same)
        (settled ∙ ap (running.state_with p log.limits (inputs_of (taken_in log) t) t) (sym moved.steps));
  }
    where
      same : moves (threads_by p log) (keeps log) log.limits.steps t world ≡ here
      same =
          let n : log.limits.steps ≡ length added + (log.limits.steps - length added) = (let m = added-many in omega (arith, m, within)) in
          ap (λ (k : ℕ). moves (threads_by p log) (keeps log) k t world) n ∙ moves-add (threads_by p log) (keeps log) (length added) (log.limits.steps - length added) t world ∙
          moves_ended (threads_by p log) (keeps log) (log.limits.steps - length added) t here (ap has_ended (wants-here end wants))

-- ---- with the limits and the list that a call was given

module _ (p : ProgramValue) (log : Log) (t : ℕ) (limits : LimitsValue) (list : List ℕ) (l : limits ≡ log.limits) (i : list ≡ inputs_of (taken_in log) t) where
  given : (Q : LimitsValue → List ℕ → Type 0) → Q limits list → Q log.limits (inputs_of (taken_in log) t)
  given Q q = subst (Q log.limits) i (subst (λ (k : LimitsValue). Q k list) l q)

  given-back : (Q : LimitsValue → List ℕ → Type 0) → Q log.limits (inputs_of (taken_in log) t) → Q limits list
  given-back Q q = subst (λ (k : LimitsValue). Q k list) (sym l) (subst (Q log.limits) (sym i) q)

  pub seat-new : (steps : List Step) (thread : RunningThread) → IsThread p limits list t steps thread → IsSeat p log t steps thread
  seat-new steps thread is = given (λ k x. IsThread p k x t steps thread) is

  ready-words : (world : World) (words : ReplayWords) (thread : RunningThread) → IsAt p log world t words thread → IsReady words (length p.words) t (steps_of world.threads t)
  ready-words world words thread at = (at.are.sized, (let n = at.are.all in let h = at.seated.there in omega (arith, n, h)))

  -- what a run asks for
  pub may-run : (world : World) (words : ReplayWords) (thread : RunningThread) → IsAt p log world t words thread → (steps : List Step) × IsThread p limits list t steps thread × IsReady words (length p.words) t steps
  may-run world words thread at = (steps_of world.threads t, given-back (λ k x. IsThread p k x t (steps_of world.threads t) thread) at.seated, ready-words world words thread at)

  module _ (old new : ReplayWords) (start thread : RunningThread) (world : World) (then : IsAt p log world t old start) where
    pub run-by : (last : ℕ) (end : Option End) →
        ((steps : List Step) → IsThread p limits list t steps start → IsReady old (length p.words) t steps → running.HasRun IsReady Takes p limits list t steps last old end new thread) → HasRun p log t last world end new thread
    run-by last end ran =
        let run = given (λ k x. (steps : List Step) → IsThread p k x t steps start → IsReady old (length p.words) t steps → running.HasRun IsReady Takes p k x t steps last old end new thread) ran
        (steps_of world.threads t) then.seated (ready-words world old start then) in
        has-run p log t world old new start thread then run.added run.has last end run.within run.ended

    pub stopped-by : (last : ℕ) →
        ((steps : List Step) → IsThread p limits list t steps start → IsReady old (length p.words) t steps → running.HasStopped IsReady Takes p limits list t steps last old new thread) → HasStopped p log t last world new thread
    stopped-by last ran =
        let run = given (λ k x. (steps : List Step) → IsThread p k x t steps start → IsReady old (length p.words) t steps → running.HasStopped IsReady Takes p k x t steps last old new thread) ran
        (steps_of world.threads t) then.seated (ready-words world old start then) in
        stopped p log t world old new start thread then run.added run.has last run.before

    pub ended-by : (end : End) →
        ((steps : List Step) → IsThread p limits list t steps start → IsReady old (length p.words) t steps → running.HasEnded IsReady Takes p limits list t steps old end new thread) → HasRunOut p log t world new thread
    ended-by end ran =
        let run = given (λ k x. (steps : List Step) → IsThread p k x t steps start → IsReady old (length p.words) t steps → running.HasEnded IsReady Takes p k x t steps old end new thread) ran
        (steps_of world.threads t) then.seated (ready-words world old start then) in
        has-run-out p log t world old new start thread then run.added run.has end run.within run.wants run.settled
