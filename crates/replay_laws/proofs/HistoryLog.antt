-- The log of a whole history: its runs fit it, and its events respect it; a replay of it ends as the history did.
use Rattle.std.proofs.Common.{◌≡◌, ℕ, ◌<◌, List, length, map, refl, sym, ◌∙◌, ap, arith, subst}
use Rattle.std.specs.Prelude.{slice_index_or, None}
use Rattle.std.proofs.lemmas.List.{length-map, get_or-map, same_lists}
use Rattle.replay_model.specs.Steps.{Event, Tag, Cell}
use Rattle.replay_model.specs.Threads.{Threads, StaysWithin, HasOnly, EndsWithin}
use Rattle.replay_model.specs.Histories.{opening}
use Rattle.replay_model.specs.Logs.{Limits, Log}
use Rattle.replay_model.specs.RunLogs.{Tallies, last_tags}
use Rattle.replay_model.specs.Orders.{Respects}
use Rattle.replay_model.specs.Fitting.{Fits}
use Rattle.replay_model.specs.SkipPlay.{skip_play, ShowsRuns}
use Rattle.replay_model.specs.Events.{events_of}
use Rattle.replay_model.specs.WholeHistories.{IsWholeHistory, played, history_log, history_order}
use Rattle.replay_laws.proofs.Told.{grounded_last_values}
use Rattle.replay_laws.proofs.Shown.{fit_shown}
use Rattle.replay_laws.proofs.Verdict.{sound_fits}
use Rattle.replay_laws.proofs.Linear.{going, history_linear}
use Rattle.replay_laws.proofs.LinearOrder.{linear_respects}

-- cells with equal tags and values are equal
pub same_cells : (one two : List Cell) → last_tags one ≡ last_tags two → map (λ (cell : Cell). cell.value) one ≡ map (λ (cell : Cell). cell.value) two → one ≡ two
same_cells one two tags values =
    let a : length (last_tags one) ≡ length one = length-map one (λ (cell : Cell). cell.tag) in
    let b : length (last_tags two) ≡ length two = length-map two (λ (cell : Cell). cell.tag) in
    let n : length one ≡ length two = sym a ∙ ap length tags ∙ b in
    same_lists one two n (λ k d l.
    let l2 : k < length two = omega arith in
    let p : (slice_index_or one k d).tag ≡ (slice_index_or two k d).tag =
    sym (get_or-map (λ (cell : Cell). cell.tag) one k d None l) ∙ ap (λ (x : List Tag). slice_index_or x k None) tags ∙ get_or-map (λ (cell : Cell). cell.tag) two k d None l2 in
    let q : (slice_index_or one k d).value ≡ (slice_index_or two k d).value =
    sym (get_or-map (λ (cell : Cell). cell.value) one k d 0 l) ∙ ap (λ (x : List ℕ). slice_index_or x k 0) values ∙ get_or-map (λ (cell : Cell). cell.value) two k d 0 l2 in
    λ j. record { value = q j; tag = p j })

module _ (threads : Threads) (tallies : Tallies) (digest : List ℕ) (limits : Limits) (initial : List ℕ) (count : ℕ) (history : List ℕ)
    (within : StaysWithin threads (length initial)) (only : HasOnly threads count) (whole : IsWholeHistory threads initial count history) where
  -- the runs of a whole history fit its log
  pub history_fits : Fits threads tallies initial (history_log threads tallies digest limits initial count history) (played threads initial count history).threads
  history_fits = sound_fits threads tallies initial (history_log threads tallies digest limits initial count history) (played threads initial count history)
      (going threads initial count history within only whole.legal).sound (record { logs = refl; last_tags = refl }) whole.whole

  -- each word ends with the value that its last tag names
  pub history_shows : ShowsRuns initial (history_log threads tallies digest limits initial count history) (played threads initial count history).threads (played threads initial count history)
  history_shows =
      let s = (going threads initial count history within only whole.legal).sound in
      record {
        threads = refl;
        tags = refl;
        values = grounded_last_values initial (played threads initial count history).threads (played threads initial count history).memory (last_tags (played threads initial count history).memory) refl s.sized s.memory;
      }

  -- the history's order respects its log
  pub history_respects : Respects (history_log threads tallies digest limits initial count history) (history_order threads initial count history (history_log threads tallies digest limits initial count history))
  history_respects = linear_respects threads tallies initial (history_log threads tallies digest limits initial count history) (played threads initial count history).threads
      (events_of threads history (opening initial count)) history_fits (history_linear threads initial count history within only whole.legal)

  -- the replay of the log ends as the history did
  pub history_replayed : (order : List Event) → EndsWithin threads limits.steps → Respects (history_log threads tallies digest limits initial count history) order →
      skip_play threads initial (history_log threads tallies digest limits initial count history) order ≡ played threads initial count history
  history_replayed order stops respects =
      let s = fit_shown threads tallies initial (history_log threads tallies digest limits initial count history) (played threads initial count history).threads order within stops history_fits respects in
      let m : (skip_play threads initial (history_log threads tallies digest limits initial count history) order).memory ≡ (played threads initial count history).memory =
      same_cells _ (played threads initial count history).memory s.tags (s.values ∙ sym history_shows.values) in
      let r = s.threads in
      λ j. record { memory = m j; threads = r j }

-- two histories with one log end in one state
pub histories_alike : (threads : Threads) (tallies : Tallies) (digest : List ℕ) (limits : Limits) (initial : List ℕ) (count : ℕ) (one two : List ℕ) →
    StaysWithin threads (length initial) → HasOnly threads count → EndsWithin threads limits.steps →
    IsWholeHistory threads initial count one → IsWholeHistory threads initial count two →
    history_log threads tallies digest limits initial count one ≡ history_log threads tallies digest limits initial count two →
    played threads initial count one ≡ played threads initial count two
histories_alike threads tallies digest limits initial count one two within only stops w x same =
    let order : List Event = history_order threads initial count one (history_log threads tallies digest limits initial count one) in
    let r = history_respects threads tallies digest limits initial count one within only w in
    let a = history_replayed threads tallies digest limits initial count one within only w order stops r in
    let b = history_replayed threads tallies digest limits initial count two within only x order stops (subst (λ (l : Log). Respects l order) same r) in
    sym a ∙ ap (λ (l : Log). skip_play threads initial l order) same ∙ b
