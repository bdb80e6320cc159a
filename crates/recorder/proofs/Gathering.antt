-- What threads did at the same words, put together.
use Rattle.std.proofs.Common.{◌≡◌, ℕ, zero, suc, ◌+◌, ◌<◌, List, [], ◌∷◌, map, length, refl, sym, ◌∙◌, ap, subst, arith, zero-add}
use Rattle.std.specs.Prelude.{All, Contains}
use Rattle.std.specs.List.{range_with_len}
use Rattle.std.proofs.lemmas.List.{map-id}
use Rattle.std.proofs.lemmas.List.Elements.{All-map, All-contains}
use Rattle.std.proofs.lemmas.List.FromFn.{length-range_with_len, get_or-range_with_len}
use Rattle.light_base.specs.declared.tag.Cell.{Cell}
use Rattle.replay_model.specs.Steps.{Step, Tag, initial_cells}
use Rattle.replay_model.specs.Threads.{Threads, IsRun}
use Rattle.replay_model.specs.Histories.{steps_of}
use Rattle.replay_model.specs.WordSteps.{WordStep, part, Folds}
use Rattle.replay_model.specs.Logs.{ThreadLog}
use Rattle.replay_model.specs.RunLogs.{Tallies, run_log, run_logs, run_logs_from, last_tags}
use Rattle.replay_laws.specs.BridgeLaws.{IsPlayed, threads_in}
use Rattle.replay_laws.proofs.Bridge.{word_steps_played}
use Rattle.replay_model.specs.WellFormed.{IsWellFormed}
use Rattle.history.specs.Histories.{IsHistory}
use Rattle.machine.specs.Programs.{ProgramValue, LimitsValue, IsProgram, AreLimits}
use Rattle.machine.specs.Inputs.{InputsValue, AreShort}
use Rattle.machine.specs.Cores.{Report, report_of}
use Rattle.machine.specs.Runs.{state_after, threads_of, tallies_of, world_after, reports_of}
use Rattle.tagged_words.specs.Views.{Start, SharedWords, Progress}
use Rattle.tagged_words.specs.Hands.{IsOf, HasHand, AreAllSteps, new_hand}
use Rattle.recorder.specs.declared.thread_runs.Finished.{Finished}
use Rattle.recorder.specs.Records.{RecordedValue, no_digest, recorded_of}
use Rattle.recorder.proofs.Logs.{history-formed}
use Rattle.recorder.specs.Gathered.{IsReady, IsDone, hand_in, log_in, report_in, thread_in, thread_of_hand}

-- ---- lists

-- what is said of each element by its image
map_by : {A B X : Type 0} (f : A → X) (h : A → B) (g : B → X) (xs : List A) → ((x : A) → Contains xs x → f x ≡ g (h x)) → map f xs ≡ map g (map h xs)
map_by f h g [] same = refl
map_by f h g (x ∷ xs) same =
    (λ i. same x (0, omega arith, refl) i ∷ map_by f h g xs (λ y c. same y (suc c.0, omega (arith, c.1), c.2)) i)

-- an element of the images is that of an element
image_of : {A B : Type 0} (h : A → B) (xs : List A) (y : B) → Contains (map h xs) y → (x : A) × Contains xs x × (h x ≡ y)
image_of h [] y c = absurd (omega (arith, c.1))
image_of h (x ∷ xs) y (zero, l, e) = (x, (0, omega arith, refl), e)
image_of h (x ∷ xs) y (suc k, l, e) =
    let there = image_of h xs y (k, omega (arith, l), e) in
    (there.0, (suc there.1.0, omega (arith, there.1.1), there.1.2), there.2)

-- the image of an element
pub image_there : {A B : Type 0} (h : A → B) (xs : List A) (x : A) → Contains xs x → Contains (map h xs) (h x)
image_there h [] x c = absurd (omega (arith, c.1))
image_there h (y ∷ xs) x (zero, l, e) = (0, omega arith, ap h e)
image_there h (y ∷ xs) x (suc k, l, e) = let there = image_there h xs x (k, omega (arith, l), e) in (suc there.0, omega (arith, there.1), there.2)

-- the numbers of so many threads
in_range : (n t : ℕ) → t < n → Contains (range_with_len 0 n) t
in_range n t l = (t, (let c = length-range_with_len 0 n in omega (arith, c, l)), get_or-range_with_len 0 n t t l ∙ zero-add t)

of_range : (n t : ℕ) → Contains (range_with_len 0 n) t → t < n
of_range n t c =
    let count = length-range_with_len 0 n in
    let at = get_or-range_with_len 0 n c.0 t (omega (arith, count, c.1)) in
    let is = c.2 in
    omega (arith, count, c.1, at, is)

-- the logs of runs, one for each thread
run_logs-range : (threads : Threads) (tallies : Tallies) (g : ℕ → List Step) (from n : ℕ) →
    run_logs_from threads tallies from (map g (range_with_len from n)) ≡ map (λ (t : ℕ). run_log threads tallies t (g t)) (range_with_len from n)
run_logs-range threads tallies g from zero = refl
run_logs-range threads tallies g from (suc n) = ap (λ (l : List ThreadLog). run_log threads tallies from (g from) ∷ l) (run_logs-range threads tallies g (from + 1) n)

-- ---- the hands that are opened

module _ (words : SharedWords) (p : ProgramValue) (hands : List Progress) (opened : hands ≡ map (new_hand words) (range_with_len 0 (length p.threads))) where
  pub opened-ready : All (IsReady words p) hands
  opened-ready =
      let P : List Progress → Type 0 = λ l. All (IsReady words p) l in
      subst P (sym opened) (All-map (IsReady words p) (new_hand words) (range_with_len 0 (length p.threads))
      (λ k d l. (refl, (let n = length-range_with_len 0 (length p.threads) in let at = get_or-range_with_len 0 (length p.threads) k d (omega (arith, n, l)) in omega (arith, n, l, at)))))

  pub opened-threads : map thread_of_hand hands ≡ range_with_len 0 (length p.threads)
  opened-threads = ap (map thread_of_hand) opened ∙ sym (map_by (λ (t : ℕ). t) (new_hand words) thread_of_hand (range_with_len 0 (length p.threads)) (λ t c. refl)) ∙ map-id (range_with_len 0 (length p.threads))

-- ---- what all threads did

module _ (p : ProgramValue) (limits : LimitsValue) (inputs : InputsValue) (words : SharedWords) (all : List Finished) (done : All (IsDone words p limits inputs) all)
    (numbered : map thread_in all ≡ range_with_len 0 (length p.threads)) where
  -- each thread is one of them
  done-there : (t : ℕ) → t < length p.threads → (f : Finished) × Contains all f × (thread_in f ≡ t)
  done-there t l = image_of thread_in all t (subst (λ (list : List ℕ). Contains list t) (sym numbered) (in_range (length p.threads) t l))

  done-at : (f : Finished) → Contains all f → IsDone words p limits inputs f
  done-at f c = All-contains (IsDone words p limits inputs) all f done c

  pub all-own : All (IsOf words) (map hand_in all)
  all-own = All-map (IsOf words) hand_in all (λ k d l. (done k d l).0)

  pub all-hands : (t : ℕ) → t < length p.threads → HasHand t (map hand_in all)
  all-hands t l =
      let there = done-there t l in
      (there.0.hand, image_there hand_in all there.0 there.1, there.2)

  module _ (start : words.start ≡ record { initial = p.words; threads = length p.threads }) (cells : List Cell) (list : List WordStep) (steps : AreAllSteps words (map hand_in all) cells list) where
    part-of : (f : Finished) → Contains all f → part (thread_in f) list ≡ f.hand.steps
    part-of f c = All-contains (λ (hand : Progress). part hand.thread list ≡ hand.steps) (map hand_in all) f.hand steps.parts (image_there hand_in all f c)

    played-all : IsPlayed (threads_of p limits inputs) p.words (length p.threads) list cells
    played-all =
        word_steps_played (threads_of p limits inputs) p.words (length p.threads) list cells
        (subst (λ (s : Start). All (λ (e : WordStep). e.thread < s.threads) list) start steps.threads)
        (λ t l.
        let there = done-there t l in
        let run = (done-at there.0 there.1).1.run in
        let P : List Step → Type 0 = λ x. IsRun (threads_of p limits inputs) t x in
        let Q : ℕ → Type 0 = λ u. IsRun (threads_of p limits inputs) u (part u list) in
        subst Q there.2 (subst (λ (x : List Step). IsRun (threads_of p limits inputs) (thread_in there.0) x) (sym (part-of there.0 there.1)) run))
        (subst (λ (s : Start). Folds [] (initial_cells s.initial) list cells) start steps.folds)

    -- whose turn each step was is a history
    pub history-all : IsHistory p limits inputs (threads_in list)
    history-all = played-all.whole

    logs-are : map log_in all ≡ run_logs (threads_of p limits inputs) (tallies_of p limits inputs) (world_after p limits inputs (threads_in list)).threads
    logs-are =
        map_by log_in thread_in (λ (t : ℕ). run_log (threads_of p limits inputs) (tallies_of p limits inputs) t (part t list)) all
        (λ f c. (done-at f c).1.logged ∙ ap (run_log (threads_of p limits inputs) (tallies_of p limits inputs) (thread_in f)) (sym (part-of f c))) ∙
        ap (map (λ (t : ℕ). run_log (threads_of p limits inputs) (tallies_of p limits inputs) t (part t list))) numbered ∙
        sym (run_logs-range (threads_of p limits inputs) (tallies_of p limits inputs) (λ (t : ℕ). part t list) 0 (length p.threads)) ∙
        ap (run_logs (threads_of p limits inputs) (tallies_of p limits inputs)) (sym played-all.runs)

    reports-are : map report_in all ≡ reports_of p limits inputs (world_after p limits inputs (threads_in list))
    reports-are =
        map_by report_in thread_in (λ (t : ℕ). report_of (state_after p limits inputs t (part t list))) all
        (λ f c. (done-at f c).1.reported ∙ ap (λ (x : List Step). report_of (state_after p limits inputs (thread_in f) x)) (sym (part-of f c))) ∙
        ap (map (λ (t : ℕ). report_of (state_after p limits inputs t (part t list)))) numbered ∙
        map_by (λ (t : ℕ). report_of (state_after p limits inputs t (part t list))) (λ (t : ℕ). t)
        (λ (t : ℕ). report_of (state_after p limits inputs t (steps_of (world_after p limits inputs (threads_in list)).threads t))) (range_with_len 0 (length p.threads))
        (λ t c. ap (λ (x : List Step). report_of (state_after p limits inputs t x)) (sym (played-all.steps t (of_range (length p.threads) t c)))) ∙
        ap (map (λ (t : ℕ). report_of (state_after p limits inputs t (steps_of (world_after p limits inputs (threads_in list)).threads t)))) (map-id (range_with_len 0 (length p.threads)))

    -- it is recorded of this history
    pub recorded-all : record { log = record { digest = no_digest; limits = limits; threads = map log_in all; last_tags = last_tags cells }; reports = map report_in all; last_values = map (λ (cell : Cell). cell.value) cells } ≡ recorded_of p limits inputs (threads_in list)
    recorded-all =
        let made : List ThreadLog → List Tag → List Report → List ℕ → RecordedValue = λ ts tags rs vs. record { log = record { digest = no_digest; limits = limits; threads = ts; last_tags = tags }; reports = rs; last_values = vs } in
        ap (λ (ts : List ThreadLog). made ts (last_tags cells) (map report_in all) (map (λ (cell : Cell). cell.value) cells)) logs-are ∙
        ap (λ (rs : List Report). made (run_logs (threads_of p limits inputs) (tallies_of p limits inputs) (world_after p limits inputs (threads_in list)).threads) (last_tags cells) rs (map (λ (cell : Cell). cell.value) cells)) reports-are ∙
        ap (λ (m : List Cell). made (run_logs (threads_of p limits inputs) (tallies_of p limits inputs) (world_after p limits inputs (threads_in list)).threads) (last_tags m)
        (reports_of p limits inputs (world_after p limits inputs (threads_in list))) (map (λ (cell : Cell). cell.value) m)) (sym played-all.memory)

    pub formed-all : IsProgram p → AreLimits limits → AreShort inputs → IsWellFormed (record { digest = no_digest; limits = limits; threads = map log_in all; last_tags = last_tags cells })
    formed-all rules bounds short =
        subst IsWellFormed (sym (ap (λ (r : RecordedValue). r.log) recorded-all)) (history-formed p limits inputs no_digest (threads_in list) rules bounds short history-all)
