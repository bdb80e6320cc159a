-- A turn of a thread that goes no further than its number in a cut, and all such turns.
use Rattle.std.proofs.Common.{◌≡◌, ℕ, zero, suc, ◌+◌, ◌-◌, ◌<◌, ◌≤◌, Bool, true, false, List, [], ◌∷◌, ◌++◌, length, map, refl, sym, ◌∙◌, ap, subst, arith, inl, inr, ◌⊎◌}
use Rattle.std.specs.Prelude.{Option, Some, None, min, slice_index_or, slice_set}
use Rattle.std.proofs.lemmas.Bool.{cases_Bool}
use Rattle.std.proofs.lemmas.List.{map-append}
use Rattle.replay_model.specs.declared.End.{End}
use Rattle.replay_model.specs.Steps.{Event, Step, has_ended}
use Rattle.replay_model.specs.Threads.{Threads}
use Rattle.replay_model.specs.Histories.{World, steps_of, wanted, move, opening}
use Rattle.replay_model.specs.Logs.{Log}
use Rattle.replay_model.specs.Events.{keeps}
use Rattle.replay_model.specs.SkipPlay.{moves, turns}
use Rattle.replay_model.proofs.Moves.{move_ended, move_here, move_count, opening_steps}
use Rattle.replay_model.proofs.Plays.{moves-add, turns-push}
use Rattle.replay_laws.proofs.Endings.{moves_ended, moves_there}
use Rattle.machine.specs.Programs.{ProgramValue}
use Rattle.machine.specs.Laws.{taken_in}
use Rattle.machine.proofs.Runs.{has_only}
use Rattle.running_thread.specs.declared.thread.RunningThread.{RunningThread}
use Rattle.running_thread.proofs.Lists.{each-set}
use Rattle.replayer.specs.declared.words.ReplayWords.{ReplayWords}
use Rattle.replayer.specs.Replays.{threads_by, unplayed, world_of}
use Rattle.replayer.specs.Seats.{IsAt, IsShown, IsEndBefore, HasRun, IsReplaying, turned}
use Rattle.replayer.proofs.Running.{turned-is}
use Rattle.replayer.proofs.Ending.{shown-at, shown-turned}
use Rattle.cut_laws.specs.Cuts.{number_of, cut_off, finish_at}
use Rattle.stopper.specs.Stopping.{HavePlayed}
use Rattle.stopper.specs.Plays.{IsOver, StandsThere, StandsAfter, StandsBy, one_more, HasStepped, HasGone, Goes, Steps, HaveCome, after_turns, after_end, TurnsTaken, EndReached}

-- so many moves add no more steps than that
move-most : (threads : Threads) (keep : Event → Bool) (t : ℕ) (world : World) → t < length world.threads →
    length (steps_of (move threads keep t world).threads t) ≤ length (steps_of world.threads t) + 1
move-most threads keep t world l = go (cases_Bool (has_ended (wanted threads t world)))
  where
    go : (has_ended (wanted threads t world) ≡ true) ⊎ (has_ended (wanted threads t world) ≡ false) → length (steps_of (move threads keep t world).threads t) ≤ length (steps_of world.threads t) + 1
    go (inl h) = let e = ap (λ (w : World). length (steps_of w.threads t)) (move_ended threads keep t world h) in omega (arith, e)
    go (inr h) = let e = move_here threads keep t world (wanted threads t world) l refl h in omega (arith, e)

moves-most : (threads : Threads) (keep : Event → Bool) (n t : ℕ) (world : World) → t < length world.threads →
    length (steps_of (moves threads keep n t world).threads t) ≤ length (steps_of world.threads t) + n
unfolding moves
moves-most threads keep zero t world l = omega arith
moves-most threads keep (suc n) t world l =
    let one = move-most threads keep t world l in
    let c = move_count threads keep t world in
    let rest = moves-most threads keep n t (move threads keep t world) (omega (arith, c, l)) in
    omega (arith, one, rest)

no-moves : (p : ProgramValue) (log : Log) (t : ℕ) (world : World) → moves (threads_by p log) (keeps log) 0 t world ≡ world
unfolding moves
no-moves p log t world = refl

module _ (p : ProgramValue) (log : Log) (t last : ℕ) (world : World) (old : ReplayWords) (start : RunningThread) (at : IsAt p log world t old start) where
  abbrev pub steps : List Step
  steps = steps_of world.threads t

  -- the step was taken before
  pub gone-before : last ≤ start.core.steps → HasGone p log t last world old start start
  gone-before l = record {
    at = subst (λ (w : World). IsAt p log w t old start) (sym same) at;
    stands = λ number m h. subst (λ (w : World). StandsBy p log number w t start) (sym same) h;
  }
    where
      same : turned p log t last world ≡ world
      same = turned-is p log t last 0 world (let c = at.seated.counted in omega (arith, c, l)) ∙ no-moves p log t world

  module _ (less : start.core.steps < last) where
    abbrev pub k : ℕ
    k = (last - 1) - length steps

    abbrev pub before : World
    before = turned p log t (last - 1) world

    before-is : before ≡ moves (threads_by p log) (keeps log) k t world
    before-is = turned-is p log t (last - 1) k world refl

    pub then-one : turned p log t last world ≡ one_more p log t before
    then-one =
        turned-is p log t last (k + 1) world (let c = at.seated.counted in omega (arith, c, less)) ∙ moves-add (threads_by p log) (keeps log) k 1 t world ∙
        ap (one_more p log t) (sym before-is)

    fewer : length (steps_of before.threads t) < last
    fewer =
        let c = at.seated.counted in
        let n = at.are.counted in
        let h = at.seated.there in
        let most = moves-most (threads_by p log) (keeps log) k t world (omega (arith, n, h)) in
        let e = ap (λ (w : World). length (steps_of w.threads t)) before-is in
        omega (arith, c, less, most, e)

    -- it ran up to the step before, and took this one or ended
    pub gone-on : (new : ReplayWords) (thread : RunningThread) → HasStepped p log t before new thread → HasGone p log t last world new start thread
    gone-on new thread stepped = record {
      at = subst (λ (w : World). IsAt p log w t new thread) (sym then-one) stepped.at;
      stands = λ number m h. by number m stepped.stands;
    }
      where
        by : (number : ℕ) → last ≤ number → StandsThere p log (one_more p log t before) t thread ⊎ IsOver p log before t → StandsBy p log number (turned p log t last world) t thread
        by number m (inl there) = subst (λ (w : World). StandsBy p log number w t thread) (sym then-one) (inl there)
        by number m (inr over) =
            let same : turned p log t last world ≡ before = then-one ∙ moves_ended (threads_by p log) (keeps log) 1 t before over in
            let few = fewer in
            subst (λ (w : World). StandsBy p log number w t thread) (sym same) (inr (inr (omega (arith, few, m), over)))

-- what its calls say
pub gone-by : (p : ProgramValue) (log : Log) (last : ℕ) (old mid new : ReplayWords) (start middle thread : RunningThread) (world : World) (end : Option End) → IsAt p log world start.core.thread old start → start.core.steps < last →
    HasRun p log start.core.thread (last - 1) world end mid middle → Steps p log mid middle new thread → HasGone p log start.core.thread last world new start thread
gone-by p log last old mid new start middle thread world end at less run steps =
    let P : ℕ → Type 0 = λ t. IsAt p log (turned p log start.core.thread (last - 1) world) t mid middle in
    let Q : ℕ → Type 0 = λ t. HasStepped p log t (turned p log start.core.thread (last - 1) world) new thread in
    gone-on p log start.core.thread last world old start at less new thread
    (subst Q run.at.seated.own (steps (turned p log start.core.thread (last - 1) world) (subst P (sym run.at.seated.own) run.at)))

-- ---- all threads

turned-there : (p : ProgramValue) (log : Log) (t last u : ℕ) (world : World) → (u ≡ t → ⊥) → steps_of (turned p log t last world).threads u ≡ steps_of world.threads u
turned-there p log t last u world ne =
    ap (λ (w : World). steps_of w.threads u) (turned-is p log t last (last - length (steps_of world.threads t)) world refl) ∙
    moves_there (threads_by p log) (keeps log) (last - length (steps_of world.threads t)) t u world ne

-- thread t had its turn, which went no further than its number
pub come-turned : (p : ProgramValue) (log : Log) (cut : List ℕ) (world : World) (words after : ReplayWords) (seats : List RunningThread) (t last : ℕ) (old new : RunningThread) → HaveCome p log cut world words seats →
    t < length seats → last ≤ number_of cut t → old ≡ slice_index_or seats t old → Goes p log last words old after new → HaveCome p log cut (turned p log t last world) after (slice_set seats t new)
come-turned p log cut world words after seats t last old new come l low is goes = record {
  shown = shown-turned p log world words after seats t last new come.shown l gone.at;
  stand = each-set (λ u (s : RunningThread). StandsBy p log (number_of cut u) (turned p log t last world) u s) seats new t l
      (gone.stands (number_of cut t) low (subst (StandsBy p log (number_of cut t) world t) (sym is) (come.stand t old l)))
      (λ u d ne ul. subst (StandsAfter p log (number_of cut u) u (slice_index_or seats u d)) (sym (turned-there p log t last u world ne)) (come.stand u d ul));
}
  where
    there : IsAt p log world t words old
    there = shown-at p log world words seats t old come.shown l is

    gone : HasGone p log t last world after old new
    gone =
        let P : ℕ → Type 0 = λ u. IsAt p log world u words old in
        let Q : ℕ → Type 0 = λ u. HasGone p log u last world after old new in
        subst Q there.seated.own (goes world (subst P (sym there.seated.own) there))

-- one of the threads, as a turn asks for it
pub placed : (p : ProgramValue) (log : Log) (cut : List ℕ) (world : World) (words : ReplayWords) (seats : List RunningThread) (t : ℕ) (old : RunningThread) → HaveCome p log cut world words seats →
    t < length seats → old ≡ slice_index_or seats t old → (w : World) × IsAt p log w old.core.thread words old
placed p log cut world words seats t old come l is =
    let there : IsAt p log world t words old = shown-at p log world words seats t old come.shown l is in
    (world, subst (λ (u : ℕ). IsAt p log world u words old) (sym there.seated.own) there)

-- ---- the turns of an order

pub turns-none : (p : ProgramValue) (log : Log) (cut : List ℕ) (words : ReplayWords) (seats : List RunningThread) → TurnsTaken p log cut [] words seats words seats
unfolding turns
turns-none p log cut words seats world come = come

after-more : (p : ProgramValue) (log : Log) (cut : List ℕ) (order : List Event) (event : Event) (world : World) →
    after_turns p log cut (order ++ event ∷ []) world ≡ turned p log event.thread (min event.step (number_of cut event.thread)) (after_turns p log cut order world)
after-more p log cut order event world =
    ap (λ (o : List Event). turns (threads_by p log) (keeps log) o world) (map-append (cut_off cut) order (event ∷ [])) ∙
    turns-push (threads_by p log) (keeps log) (map (cut_off cut) order) (cut_off cut event) world

-- one more was taken
pub turns-more : (p : ProgramValue) (log : Log) (cut : List ℕ) (order : List Event) (event : Event) (words_then words after : ReplayWords) (seats_then seats : List RunningThread) (old new : RunningThread) →
    TurnsTaken p log cut order words_then seats_then words seats → event.thread < length seats → old ≡ slice_index_or seats event.thread old →
    Goes p log (min event.step (number_of cut event.thread)) words old after new → TurnsTaken p log cut (order ++ event ∷ []) words_then seats_then after (slice_set seats event.thread new)
turns-more p log cut order event words_then words after seats_then seats old new is l at goes world come =
    subst (λ (w : World). HaveCome p log cut w after (slice_set seats event.thread new)) (sym (after-more p log cut order event world))
    (come-turned p log cut (after_turns p log cut order world) words after seats event.thread (min event.step (number_of cut event.thread)) old new (is world come) l (omega arith) at goes)

-- the same as its call says it
pub turns-by : (p : ProgramValue) (log : Log) (cut : List ℕ) (order : List Event) (event : Event) (words_then words after : ReplayWords) (seats_then seats : List RunningThread) (old new : RunningThread) (place last : ℕ) →
    TurnsTaken p log cut order words_then seats_then words seats → place < length seats → place ≡ event.thread → last ≡ min event.step (number_of cut place) → old ≡ slice_index_or seats place old →
    Goes p log last words old after new → TurnsTaken p log cut (order ++ event ∷ []) words_then seats_then after (slice_set seats place new)
turns-by p log cut order event words_then words after seats_then seats old new place last is l e h at goes =
    let Q : ℕ → Type 0 = λ n. n < length seats → old ≡ slice_index_or seats n old → Goes p log (min event.step (number_of cut n)) words old after new →
    TurnsTaken p log cut (order ++ event ∷ []) words_then seats_then after (slice_set seats n new) in
    subst Q (sym e) (λ a b g. turns-more p log cut order event words_then words after seats_then seats old new is a b g) l at (subst (λ (m : ℕ). Goes p log m words old after new) h goes)

-- one of a thread that is not there
pub turns-nothing : (p : ProgramValue) (log : Log) (cut : List ℕ) (order : List Event) (event : Event) (words_then words : ReplayWords) (seats_then seats : List RunningThread) →
    TurnsTaken p log cut order words_then seats_then words seats → length p.threads ≤ event.thread → TurnsTaken p log cut (order ++ event ∷ []) words_then seats_then words seats
turns-nothing p log cut order event words_then words seats_then seats is far world come =
    let then : World = after_turns p log cut order world in
    let last : ℕ = min event.step (number_of cut event.thread) in
    let same : turned p log event.thread last then ≡ then =
    turned-is p log event.thread last (last - length (steps_of then.threads event.thread)) then refl ∙
    moves_ended (threads_by p log) (keeps log) (last - length (steps_of then.threads event.thread)) event.thread then (has_only p log.limits (taken_in log) event.thread (steps_of then.threads event.thread) far) in
    subst (λ (w : World). HaveCome p log cut w words seats) (sym (after-more p log cut order event world ∙ same)) (is world come)

-- ---- the end

pub end-none : (p : ProgramValue) (log : Log) (cut : List ℕ) (words : ReplayWords) (seats : List RunningThread) → EndReached p log cut 0 words seats words seats
unfolding finish_at
end-none p log cut words seats world come = come

pub end-more : (p : ProgramValue) (log : Log) (cut : List ℕ) (n : ℕ) (words_then words after : ReplayWords) (seats_then seats : List RunningThread) (old new : RunningThread) →
    EndReached p log cut n words_then seats_then words seats → n < length seats → old ≡ slice_index_or seats n old → Goes p log (number_of cut n) words old after new →
    EndReached p log cut (n + 1) words_then seats_then after (slice_set seats n new)
unfolding finish_at
end-more p log cut n words_then words after seats_then seats old new is l at goes world come =
    let P : ℕ → Type 0 = λ m. HaveCome p log cut (after_end p log cut m world) after (slice_set seats n new) in
    let next : suc n ≡ n + 1 = omega arith in
    subst P next (come-turned p log cut (after_end p log cut n world) words after seats n (number_of cut n) old new (is world come) l (omega arith) at goes)

-- ---- the start

pub come-start : (p : ProgramValue) (log : Log) (cut : List ℕ) (words : ReplayWords) (seats : List RunningThread) → IsReplaying (unplayed p log) words seats →
    HaveCome p log cut (opening p.words (length log.threads)) words seats
unfolding turns
come-start p log cut words seats is = record {
  shown = is.shown;
  stand = λ t seat l. inr (inl (ap length (opening_steps (length log.threads) t)));
}

-- how many threads there are, which no turn changes
pub taken-shown : (p : ProgramValue) (log : Log) (cut : List ℕ) (order : List Event) (words_then words : ReplayWords) (seats_then seats : List RunningThread) (world : World) →
    TurnsTaken p log cut order words_then seats_then words seats → HaveCome p log cut world words_then seats_then → length seats ≡ length p.threads
taken-shown p log cut order words_then words seats_then seats world is come = (is world come).shown.seated

-- each thread has gone to its number: this is the end of the cut play
pub come-end : (p : ProgramValue) (log : Log) (order : List Event) (cut : List ℕ) (words : ReplayWords) (seats : List RunningThread) (count : ℕ) → count ≡ length log.threads →
    HaveCome p log cut (after_end p log cut count (after_turns p log cut order (opening p.words (length log.threads)))) words seats → HavePlayed p log order cut seats
come-end p log order cut words seats count e come =
    (words, subst (λ (n : ℕ). HaveCome p log cut (after_end p log cut n (after_turns p log cut order (opening p.words (length log.threads)))) words seats) e come)
