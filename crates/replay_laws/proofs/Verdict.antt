-- A state that has the log shows runs that fit it, and the verdict of a skip play is exact.
use Rattle.std.proofs.Common.{◌≡◌, ℕ, ◌<◌, List, length, sym, ◌∙◌, ap, arith}
use Rattle.std.specs.Prelude.{◌↔◌, None, slice_index_or}
use Rattle.std.proofs.lemmas.List.{get_or-map, length-map, length-replicate}
use Rattle.replay_model.specs.Steps.{Event, Tag, Cell, Step, no_cell}
use Rattle.replay_model.specs.Threads.{Threads, StaysWithin, HasOnly, EndsWithin}
use Rattle.replay_model.specs.Histories.{World, opening, IsWhole}
use Rattle.replay_model.specs.Logs.{Log, last_tag}
use Rattle.replay_model.specs.RunLogs.{Tallies, run_logs, HasLog}
use Rattle.replay_model.specs.Events.{keeps}
use Rattle.replay_model.specs.Orders.{Respects}
use Rattle.replay_model.specs.Fitting.{Fits}
use Rattle.replay_model.specs.SkipPlay.{turns, skip_play}
use Rattle.replay_laws.proofs.Told.{grounded_writes}
use Rattle.replay_laws.proofs.Shown.{fit_shown}
use Rattle.replay_laws.proofs.Sound.{IsSound, IsGoing, going_turns, going_finish, going_opening}
use Rattle.replay_laws.proofs.Endings.{finish_ends}

-- the runs of a sound, whole state with this log fit it
pub sound_fits : (threads : Threads) (tallies : Tallies) (initial : List ℕ) (log : Log) (world : World) → IsSound threads initial world →
    HasLog threads tallies log world → IsWhole threads world → Fits threads tallies initial log world.threads
sound_fits threads tallies initial log world sound has whole = record {
  run = λ t l. record {
    wants = λ k kl. (sound.steps t k kl).wants;
    lives = λ k kl. (sound.steps t k kl).lives;
    found = λ k kl. (sound.steps t k kl).found;
    ends = whole t l;
  };
  grounded = λ t k cell kl q. (sound.steps t k kl).grounded cell q;
  logs = sym has.logs;
  words = ap length (sym has.last_tags) ∙ length-map world.memory (λ (cell : Cell). cell.tag) ∙ sound.sized;
  last_tags = λ word event w q.
      let l : word < length world.memory = let s = sound.sized in omega arith in
      let tag : last_tag log word ≡ (slice_index_or world.memory word no_cell).tag =
      ap (λ (x : List Tag). slice_index_or x word None) (sym has.last_tags) ∙ get_or-map (λ (cell : Cell). cell.tag) world.memory word no_cell None l in
      ((slice_index_or world.memory word no_cell).value, grounded_writes initial world.threads word (slice_index_or world.memory word no_cell) event (sound.memory word w) (sym tag ∙ q));
}

module _ (threads : Threads) (tallies : Tallies) (initial : List ℕ) (log : Log) (order : List Event)
    (within : StaysWithin threads (length initial)) (only : HasOnly threads (length log.threads)) (stops : EndsWithin threads log.limits.steps) where
  -- the end of a skip play is sound
  pub skip_going : IsGoing threads initial (length log.threads) (skip_play threads initial log order)
  skip_going =
      going_finish threads initial (length log.threads) within only (keeps log) log.limits.steps (length (opening initial (length log.threads)).threads) (turns threads (keeps log) order (opening initial (length log.threads)))
      (going_turns threads initial (length log.threads) within only (keeps log) order (opening initial (length log.threads)) (going_opening threads initial (length log.threads) within only))

  turned : IsGoing threads initial (length log.threads) (turns threads (keeps log) order (opening initial (length log.threads)))
  turned = going_turns threads initial (length log.threads) within only (keeps log) order (opening initial (length log.threads)) (going_opening threads initial (length log.threads) within only)

  opened : length (opening initial (length log.threads)).threads ≡ length log.threads
  opened = length-replicate (length log.threads) _

  -- and whole
  pub skip_whole : IsWhole threads (skip_play threads initial log order)
  skip_whole t l =
      let c = turned.counted in
      let o = opened in
      let g = skip_going.counted in
      finish_ends threads (keeps log) log.limits.steps (length (opening initial (length log.threads)).threads) (turns threads (keeps log) order (opening initial (length log.threads))) stops (omega arith) t (omega arith)

  -- where the state after a skip play has the log, its runs fit the log
  pub skipped_fit : HasLog threads tallies log (skip_play threads initial log order) → Fits threads tallies initial log (skip_play threads initial log order).threads
  skipped_fit has = sound_fits threads tallies initial log (skip_play threads initial log order) skip_going.sound has skip_whole

  -- where runs fit, the state after the skip play has the log
  pub fit_logged : Respects log order → (runs : List (List Step)) → Fits threads tallies initial log runs → HasLog threads tallies log (skip_play threads initial log order)
  fit_logged respects runs fits =
      let s = fit_shown threads tallies initial log runs order within stops fits respects in
      record { logs = ap (run_logs threads tallies) s.threads ∙ sym fits.logs; last_tags = s.tags }

-- the verdict is exact
pub verdict_exact : (threads : Threads) (tallies : Tallies) (initial : List ℕ) (log : Log) (order : List Event) →
    StaysWithin threads (length initial) → HasOnly threads (length log.threads) → EndsWithin threads log.limits.steps → Respects log order →
    (HasLog threads tallies log (skip_play threads initial log order) ↔ ((runs : List (List Step)) × Fits threads tallies initial log runs))
verdict_exact threads tallies initial log order within only stops respects = (
  λ has. ((skip_play threads initial log order).threads, skipped_fit threads tallies initial log order within only stops has),
  λ some. fit_logged threads tallies initial log order within only stops respects some.0 some.1,
)

-- and the same under every respecting order
pub verdict_same : (threads : Threads) (tallies : Tallies) (initial : List ℕ) (log : Log) (one two : List Event) →
    StaysWithin threads (length initial) → HasOnly threads (length log.threads) → EndsWithin threads log.limits.steps → Respects log one → Respects log two →
    (HasLog threads tallies log (skip_play threads initial log one) ↔ HasLog threads tallies log (skip_play threads initial log two))
verdict_same threads tallies initial log one two within only stops r s = (
  λ has. fit_logged threads tallies initial log two within only stops s _ (skipped_fit threads tallies initial log one within only stops has),
  λ has. fit_logged threads tallies initial log one within only stops r _ (skipped_fit threads tallies initial log two within only stops has),
)
