-- The end of a play by an order: it shows the runs that fit the log.
use Rattle.std.proofs.Common.{◌≡◌, ℕ, zero, suc, ◌<◌, ◌≤◌, Bool, List, [], length, take, refl, sym, ◌∙◌, ap, subst, arith, inl, inr, ◌⊎◌}
use Rattle.std.specs.Prelude.{◌≢◌, Some, None}
use Rattle.std.proofs.lemmas.List.{take_all, length-replicate, get_or-map, length-map, same_lists, get_or_default}
use Rattle.std.proofs.lemmas.Bool.{cases_eq}
use Rattle.replay_model.specs.Steps.{Event, Cell, Step, no_cell}
use Rattle.replay_model.specs.Threads.{Threads, StaysWithin, EndsWithin, IsRun}
use Rattle.replay_model.specs.Histories.{World, steps_of, opening}
use Rattle.replay_model.specs.Logs.{Log, last_tag}
use Rattle.replay_model.specs.RunLogs.{Tallies, last_tags}
use Rattle.replay_model.specs.Events.{keeps}
use Rattle.replay_model.specs.Orders.{Respects}
use Rattle.replay_model.specs.Fitting.{IsGrounded, Fits}
use Rattle.replay_model.specs.SkipPlay.{moves, turns, finish, skip_play, ShowsRuns}
use Rattle.replay_model.proofs.Moves.{opening_steps}
use Rattle.replay_model.proofs.RunLogs.{logged_threads}
use Rattle.replay_laws.proofs.Places.{place-contains, same_place}
use Rattle.replay_laws.proofs.Skip.{Told, HasLastTag, Serves, IsLatest, Inv}
use Rattle.replay_laws.proofs.Turns.{turns_all, to_end}
use Rattle.replay_laws.proofs.Told.{told_by_fit, run_short, grounded_last_values}
use Rattle.replay_laws.proofs.Kept.{kept_serves}

-- the latest write of a word is a write of the runs
pub grounded_latest : (initial : List ℕ) (keep : Event → Bool) (runs : List (List Step)) (order : List Event) (i word : ℕ) (cell : Cell) →
    IsLatest initial keep runs order i word cell → IsGrounded initial runs word cell
grounded_latest initial keep runs order i word cell (inl fresh) = inl (fresh.tag, fresh.value)
grounded_latest initial keep runs order i word cell (inr from) = inr (from.event, from.tag, from.written)

module _ (initial : List ℕ) (keep : Event → Bool) (log : Log) (runs : List (List Step)) (order : List Event)
    (serves : Serves (length initial) keep log runs order) where
  -- at the end each word holds its last tag
  pub last_tag_is : (word : ℕ) → word < length initial → (cell : Cell) → IsLatest initial keep runs order (length order) word cell → cell.tag ≡ last_tag log word
  last_tag_is word w cell latest = go latest (serves.last_tags word w)
    where
      go : IsLatest initial keep runs order (length order) word cell → HasLastTag keep log runs order word → cell.tag ≡ last_tag log word
      go (inl fresh) (inl (q, none)) = fresh.tag ∙ sym q
      go (inl fresh) (inr (z, v, q, k, hw, last)) =
          let n = fresh.none z v k hw in
          let p = place-contains order z (serves.made z word v k hw) in
          absurd (omega arith)
      go (inr from) (inl (q, none)) = absurd (none from.event cell.value from.kept from.written)
      go (inr from) (inr (z, v, q, k, hw, last)) =
          let p = place-contains order z (serves.made z word v k hw) in
          let m = from.latest z v k hw p in
          let n = last from.event cell.value from.kept from.written in
          from.tag ∙ ap Some (sym (same_place order z from.event (omega arith) p)) ∙ sym q

  -- the opening state
  pub opening_inv : Inv initial keep runs order 0 (opening initial (length runs))
  opening_inv = record {
    sized = length-map initial _;
    counted = length-replicate (length runs) [];
    short = λ t. subst (λ (s : List Step). length s ≤ length (steps_of runs t)) (sym (opening_steps (length runs) t)) (omega arith);
    prefix = λ t. subst (λ (s : List Step). s ≡ take (length s) (steps_of runs t)) (sym (opening_steps (length runs) t)) refl;
    done = λ e ev l. absurd (omega arith);
    todo = λ e ev l. let y = serves.inside e ev in
        subst (λ (s : List Step). length s < e.step) (sym (opening_steps (length runs) e.thread)) (omega arith);
    memory = λ word w. subst (λ (c : Cell). IsLatest initial keep runs order 0 word c) (sym (get_or-map (λ (value : ℕ). record { value = value; tag = None }) initial word 0 no_cell w))
        (inl (record { tag = refl; value = refl; none = λ e v k hw. omega arith }));
  }

  -- once the whole order is done and every thread has taken all steps of its run, the state shows the runs
  pub all_shown : (world : World) → length log.last_tags ≡ length initial → Inv initial keep runs order (length order) world →
      ((u : ℕ) → u < length runs → length (steps_of world.threads u) ≡ length (steps_of runs u)) → ShowsRuns initial log runs world
  all_shown world sized inv same = record {
    threads = threads_same;
    tags = tags_same;
    values = grounded_last_values initial runs world.memory log.last_tags tags_same inv.sized
        (λ word w. grounded_latest initial keep runs order (length order) word _ (inv.memory word w));
  }
    where
      threads_same : world.threads ≡ runs
      threads_same = same_lists world.threads runs inv.counted (λ k d l.
          let c = inv.counted in
          let kl : k < length runs = omega arith in
          let s = same k kl in
          let e : steps_of world.threads k ≡ steps_of runs k = inv.prefix k ∙ take_all (length (steps_of world.threads k)) (steps_of runs k) (omega arith) in
          get_or_default world.threads k d [] l ∙ e ∙ get_or_default runs k [] d kl)

      tags_same : last_tags world.memory ≡ log.last_tags
      tags_same =
          let m : length (last_tags world.memory) ≡ length world.memory = length-map world.memory (λ (cell : Cell). cell.tag) in
          same_lists (last_tags world.memory) log.last_tags (m ∙ inv.sized ∙ sym sized) (λ k d l.
          let s = inv.sized in
          let kl : k < length world.memory = omega arith in
          let ki : k < length initial = omega arith in
          let kt : k < length log.last_tags = omega arith in
          get_or-map (λ (cell : Cell). cell.tag) world.memory k no_cell d kl ∙
          last_tag_is k ki _ (inv.memory k ki) ∙ get_or_default log.last_tags k None d kt)

module _ (threads : Threads) (initial : List ℕ) (keep : Event → Bool) (log : Log) (runs : List (List Step)) (order : List Event)
    (told : Told initial log runs) (serves : Serves (length initial) keep log runs order)
    (run : (t : ℕ) → t < length runs → IsRun threads t (steps_of runs t))
    (within : StaysWithin threads (length initial)) where
  -- after the order each thread goes to the end of its run
  pub finish_all : (bound : ℕ) → ((t : ℕ) → length (steps_of runs t) ≤ bound) → (count : ℕ) → count ≤ length runs →
      (world : World) → Inv initial keep runs order (length order) world →
      Inv initial keep runs order (length order) (finish threads keep bound count world) ×
      ((u : ℕ) → u < count → length (steps_of (finish threads keep bound count world).threads u) ≡ length (steps_of runs u))
  unfolding finish
  finish_all bound long zero l world inv = (inv, λ u ul. absurd (omega arith))
  finish_all bound long (suc t) l world inv =
      let (inv2, before) = finish_all bound long t (omega arith) world inv in
      let h = long t in
      let (a, b, c) = to_end threads initial keep log runs order told serves run within bound (finish threads keep bound t world) inv2 t (omega arith) (omega arith) in
      (a, λ u ul. each b c before u ul (cases_eq u t))
    where
      each : (length (steps_of (moves threads keep bound t (finish threads keep bound t world)).threads t) ≡ length (steps_of runs t)) →
          ((u : ℕ) → (u ≡ t → ⊥) → steps_of (moves threads keep bound t (finish threads keep bound t world)).threads u ≡ steps_of (finish threads keep bound t world).threads u) →
          ((u : ℕ) → u < t → length (steps_of (finish threads keep bound t world).threads u) ≡ length (steps_of runs u)) →
          (u : ℕ) → u < suc t → (u ≡ t) ⊎ (u ≡ t → ⊥) →
          length (steps_of (moves threads keep bound t (finish threads keep bound t world)).threads u) ≡ length (steps_of runs u)
      each b c before u ul (inl e) =
          subst (λ (x : ℕ). length (steps_of (moves threads keep bound t (finish threads keep bound t world)).threads x) ≡ length (steps_of runs x)) (sym e) b
      each b c before u ul (inr n) = ap length (c u n) ∙ before u (let ne : u ≢ t = n in omega arith)

-- where runs fit a log and an order respects it, the skip play shows these runs
pub fit_shown : (threads : Threads) (tallies : Tallies) (initial : List ℕ) (log : Log) (runs : List (List Step)) (order : List Event) →
    StaysWithin threads (length initial) → EndsWithin threads log.limits.steps → Fits threads tallies initial log runs → Respects log order →
    ShowsRuns initial log runs (skip_play threads initial log order)
fit_shown threads tallies initial log runs order within stops fits respects =
    let told = told_by_fit threads tallies initial log runs fits in
    let serves = kept_serves threads tallies initial log runs order fits respects in
    let start = opening_inv initial (keeps log) log runs order serves in
    let mid = turns_all threads initial (keeps log) log runs order told serves fits.run within order 0 (opening initial (length runs)) refl (omega arith) start in
    let n : length (opening initial (length runs)).threads ≡ length runs = length-replicate (length runs) [] in
    let (inv, same) = finish_all threads initial (keeps log) log runs order told serves fits.run within log.limits.steps (run_short threads runs log.limits.steps stops fits.run)
    (length runs) (omega arith) (turns threads (keeps log) order (opening initial (length runs))) mid in
    let P : ℕ → Type 0 = λ x. ShowsRuns initial log runs (finish threads (keeps log) log.limits.steps x (turns threads (keeps log) order (opening initial (length runs)))) in
    let Q : ℕ → Type 0 = λ x. ShowsRuns initial log runs (finish threads (keeps log) log.limits.steps (length (opening initial x).threads) (turns threads (keeps log) order (opening initial x))) in
    subst Q (sym (logged_threads threads tallies log runs fits.logs)) (subst P (sym n)
    (all_shown initial (keeps log) log runs order serves (finish threads (keeps log) log.limits.steps (length runs) (turns threads (keeps log) order (opening initial (length runs)))) fits.words inv same))

-- the runs that fit a log are unique where some order respects it
pub fit_unique : (threads : Threads) (tallies : Tallies) (initial : List ℕ) (log : Log) (one two : List (List Step)) (order : List Event) →
    StaysWithin threads (length initial) → EndsWithin threads log.limits.steps → Respects log order →
    Fits threads tallies initial log one → Fits threads tallies initial log two → one ≡ two
fit_unique threads tallies initial log one two order within stops respects f g =
    let x = fit_shown threads tallies initial log one order within stops f respects in
    let y = fit_shown threads tallies initial log two order within stops g respects in
    sym x.threads ∙ y.threads
