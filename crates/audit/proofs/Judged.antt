-- What an audit comes to, from a replay and a search.
use Rattle.std.proofs.Common.{◌≡◌, ℕ, ◌<◌, ◌^◌, true, false, cond, List, length, map, sym, ◌∙◌, ap, subst, arith, inr}
use Rattle.light_base.specs.declared.tag.Event.{Event}
use Rattle.plain_search.specs.Searches.{PairProblem, Solves, outcome}
use Rattle.replay_model.specs.Steps.{Step}
use Rattle.replay_model.specs.Threads.{StaysWithin, HasOnly}
use Rattle.replay_model.specs.Logs.{Log}
use Rattle.replay_model.specs.Orders.{Respects}
use Rattle.replay_model.specs.WellFormed.{IsWellFormed}
use Rattle.machine.specs.Programs.{ProgramValue}
use Rattle.machine.specs.Laws.{taken_in}
use Rattle.machine.specs.Runs.{threads_of, tallies_of}
use Rattle.machine.proofs.Runs.{stays_within, has_only, ends_within}
use Rattle.replay_laws.proofs.Verdict.{skipped_fit}
use Rattle.replayer.specs.Replays.{replay_by}
use Rattle.replayer.specs.Verdicts.{ShowsLog}
use Rattle.history.specs.HistoryLogs.{FitsProgram}
use Rattle.constraints.specs.Laws.{IsLine}
use Rattle.audit_laws.specs.Placings.{placing_turns}
use Rattle.order_solver.specs.Rivals.{AreRivals, problem_in}
use Rattle.order_solver.specs.Findings.{IsLineOf}
use Rattle.audit.specs.Positions.{placed_list, placed_at}
use Rattle.audit.specs.Constraints.{placing_problem, placing_dead, impossible}
use Rattle.audit.specs.Judging.{HasThisLog, IsNotLegal, MeetsMore}
use Rattle.audit.specs.PlacingLaws.{places_in, PlacesIsSolving, LinesArePlacings}
use Rattle.audit.specs.LegalLaws.{LegalHasPlacing, PlacingIsLegal}
use Rattle.audit.specs.Rivalries.{rivalry_of, PlacingsAreSearched, WritesAreRivals}
use Rattle.audit.proofs.Rivaling.{counts-sum}

-- the runs of a replay that has the log fit it
pub runs-fit : (p : ProgramValue) (log : Log) (order : List Event) → length p.threads ≡ length log.threads → ShowsLog p log (replay_by p log order) → FitsProgram p log (replay_by p log order).threads
runs-fit p log order counted shows = skipped_fit (threads_of p log.limits (taken_in log)) (tallies_of p log.limits (taken_in log)) p.words log order (stays_within p log.limits (taken_in log))
    (subst (HasOnly (threads_of p log.limits (taken_in log))) counted (has_only p log.limits (taken_in log))) (ends_within p log.limits (taken_in log)) shows

module _ (p : ProgramValue) (log : Log) (runs : List (List Step)) (fits : FitsProgram p log runs) where
  within : StaysWithin (threads_of p log.limits (taken_in log)) (length p.words)
  within = stays_within p log.limits (taken_in log)

  pub are-rivals : WritesAreRivals → IsWellFormed log → length (placed_list log runs) < 2 ^ 32 → AreRivals (rivalry_of log runs)
  are-rivals law formed small = law (threads_of p log.limits (taken_in log)) (tallies_of p log.limits (taken_in log)) p.words log runs within fits formed small

  -- a step wrote a word whose last tag is initial
  pub never-legal : PlacesIsSolving → LegalHasPlacing → (order : List Event) → Respects log order → impossible log runs ≡ true → IsNotLegal p log
  never-legal solving legal order respects h = legal p log runs order respects fits
      (λ placing places.
      let (once, never, solves) = (solving (threads_of p log.limits (taken_in log)) (tallies_of p log.limits (taken_in log)) p.words log runs placing within fits).0 places in
      let no : true ≡ false = sym h ∙ never in cc no)

  -- no ranking solves the problem
  pub none-legal : PlacesIsSolving → LegalHasPlacing → PlacingsAreSearched → (order : List Event) → Respects log order → ((rank : ℕ → ℕ) → Solves (problem_in (rivalry_of log runs)) rank → ⊥) → IsNotLegal p log
  none-legal solving legal searched order respects none = legal p log runs order respects fits
      (λ placing places.
      let (once, never, solves) = (solving (threads_of p log.limits (taken_in log)) (tallies_of p log.limits (taken_in log)) p.words log runs placing within fits).0 places in
      none (places_in log runs placing) (subst (λ (problem : PairProblem). Solves problem (places_in log runs placing)) (sym (searched log runs)) solves))

  -- the search met more dead ends
  pub spent-more : PlacingsAreSearched → (order : List Event) → Respects log order → impossible log runs ≡ false → (budget : ℕ) → budget < (outcome (problem_in (rivalry_of log runs))).dead → MeetsMore p log budget
  spent-more searched order respects never budget more = inr (
    order,
    runs,
    respects,
    fits,
    (
        let same : (outcome (problem_in (rivalry_of log runs))).dead ≡ (outcome (placing_problem log runs)).dead = ap (λ (problem : PairProblem). (outcome problem).dead) (searched log runs) in
        let dead : placing_dead log runs ≡ (outcome (placing_problem log runs)).dead = ap (λ b. cond b 0 (outcome (placing_problem log runs)).dead) never in
        omega (arith, more, same, dead)),
  )

  -- a row was found
  pub line-legal : LinesArePlacings → PlacingIsLegal → PlacingsAreSearched → length p.threads ≡ length log.threads → impossible log runs ≡ false → (line : List ℕ) → IsLineOf (rivalry_of log runs) line →
      HasThisLog p log.limits (taken_in log) log (placing_turns (length log.threads) (map (placed_at log runs) line))
  line-legal lines legal searched counted never line found = legal p log runs (map (placed_at log runs) line) counted fits
      (lines (threads_of p log.limits (taken_in log)) (tallies_of p log.limits (taken_in log)) p.words log runs found.edges line within fits never
      (let P : ℕ → Type 0 = λ n. IsLine found.edges n line in subst P (counts-sum log runs) found.row)
      (λ rank holds. subst (λ (problem : PairProblem). Solves problem rank) (searched log runs) (found.solve rank holds)))
