use Rattle.std.proofs.Common.{◌≡◌, ◌<◌, ◌^◌, ℕ, List, true, false, Ok, length, map, ◌∙◌, sym, ap, subst}
use Rattle.std.specs.Prelude.{All}
use Rattle.light_base.specs.declared.tag.Event.{Event}
use Rattle.plain_search.specs.Searches.{Solves}
use Rattle.machine.specs.Laws.{taken_in}
use Rattle.machine.specs.Runs.{threads_of, tallies_of}
use Rattle.order_solver.specs.Rivals.{problem_in}
use Rattle.order_solver.specs.Findings.{IsLineOf, Finds}
use Rattle.order_solver.specs.declared.finding.Finding.{Finding}
use Rattle.audit_laws.specs.Placings.{placing_turns}
use Rattle.audit.specs.Positions.{placed_list, placed_at}
use Rattle.audit.specs.Constraints.{impossible}
use Rattle.audit.specs.Judging.{HasThisLog}
use Rattle.audit.specs.Tables.{Audited, runs_in, rivalry_in, IsPlacing}
use Rattle.audit.specs.Cases.{case_of}
use Rattle.audit.proofs.Rivaling.{counts-sum}
use Rattle.audit.proofs.Judged.{are-rivals, never-legal, none-legal, line-legal}
use Rattle.audit.proofs.judging.judge_case.Goals as goal

pub returns-then-is_impossible : goal.returns-then-is_impossible
returns-then-is_impossible c =
    let p = c.args.case.now.program.now in
    let log = c.args.case.now.log.now in
    let runs = runs_in (case_of c.args.case.now) in
    let never : impossible log runs ≡ true =
    sym (c.is_impossible.ensures (threads_of p log.limits (taken_in log)) (tallies_of p log.limits (taken_in log)) p.words runs c.requires.case.fits c.requires.case.writes) ∙ c.if-is_impossible.true in
    never-legal p log runs c.requires.case.fits c.constraint_law.ensures.solving c.legal_law.ensures.placing c.args.case.now.order.now.items c.requires.order never

pub find-requires : goal.find-requires
find-requires c =
    let a = c.in_ok-placing.placing in
    let P : Audited → Type 0 = λ a. IsPlacing a c.placing.inside.steps.items c.placing.inside.counts.items c.placing.inside.base.items c.placing.inside.sources.items c.placing.inside.lasts.items c.placing.inside.starts.items c.placing.inside.nexts.items in
    let is : P a = subst P c.placing.view_is c.placing.invariant in
    are-rivals a.program a.log (runs_in a) is.fits c.rivalry_law.ensures.rivals is.formed (subst (λ (xs : List Event). length xs < 2 ^ 32) is.listed is.small)

pub turns-requires : goal.turns-requires
turns-requires c =
    let a = c.in_ok-placing.placing in
    let found : IsLineOf (rivalry_in a) c.in-Line.line.items = subst (λ (f : Finding). Finds (rivalry_in a) c.args.budget (Ok f)) c.in-Line.is c.in_ok-line.ensures in
    let Q : ℕ → Type 0 = λ n. All (λ p. p < n) c.in-Line.line.items in
    let R : List ℕ → Type 0 = λ xs. All (λ p. p < length (placed_list a.log (runs_in a))) xs in
    subst R (sym c.deref.ensures.value) (subst Q (counts-sum a.log (runs_in a)) found.row.within)

pub returns-in-Line : goal.returns-in-Line
returns-in-Line c =
    let p = c.args.case.now.program.now in
    let log = c.args.case.now.log.now in
    let runs = runs_in (case_of c.args.case.now) in
    let a = c.in_ok-placing.placing in
    let never : impossible log runs ≡ false =
    sym (c.is_impossible.ensures (threads_of p log.limits (taken_in log)) (tallies_of p log.limits (taken_in log)) p.words runs c.requires.case.fits c.requires.case.writes) ∙ c.if-is_impossible.false in
    let found : IsLineOf (rivalry_in a) c.in-Line.line.items = subst (λ (f : Finding). Finds (rivalry_in a) c.args.budget (Ok f)) c.in-Line.is c.in_ok-line.ensures in
    let here : IsLineOf (rivalry_in (case_of c.args.case.now)) c.in-Line.line.items = subst (λ (b : Audited). IsLineOf (rivalry_in b) c.in-Line.line.items) c.in_ok-placing.ensures found in
    let turned : c.in_ok-turns-in-Line.field-0.items ≡ placing_turns (length log.threads) (map (placed_at log runs) c.in-Line.line.items) =
    c.in_ok-turns-in-Line.ensures ∙ ap (λ (b : Audited). placing_turns (length b.log.threads) (map (placed_at b.log (runs_in b)) c.deref.result.now)) c.in_ok-placing.ensures ∙
    ap (λ (xs : List ℕ). placing_turns (length log.threads) (map (placed_at log runs) xs)) c.deref.ensures.value in
    subst (λ (history : List ℕ). HasThisLog p log.limits (taken_in log) log history) (sym turned)
    (line-legal p log runs c.requires.case.fits c.constraint_law.ensures.lines c.legal_law.ensures.history c.rivalry_law.ensures.problem c.requires.threads never c.in-Line.line.items here)

pub returns-in-None : goal.returns-in-None
returns-in-None c =
    let p = c.args.case.now.program.now in
    let log = c.args.case.now.log.now in
    let runs = runs_in (case_of c.args.case.now) in
    let a = c.in_ok-placing.placing in
    let N : Audited → Type 0 = λ b. (rank : ℕ → ℕ) → Solves (problem_in (rivalry_in b)) rank → ⊥ in
    let none : N a = subst (λ (f : Finding). Finds (rivalry_in a) c.args.budget (Ok f)) c.in-None.is c.in_ok-line.ensures in
    none-legal p log runs c.requires.case.fits c.constraint_law.ensures.solving c.legal_law.ensures.placing c.rivalry_law.ensures.problem c.args.case.now.order.now.items c.requires.order
    (subst N c.in_ok-placing.ensures none)
