use Rattle.std.proofs.Common.{ap, arith, length, ◌∙◌}
use Rattle.constraints.proofs.SideEdges.{sources_few}
use Rattle.races.proofs.Based.{counts-length}
use Rattle.races.proofs.Tabled.{table-is, blocks-read, ends-size, tops-same, floors-over}
use Rattle.races.proofs.table.table_of.Goals as goal

pub tops_of-requires-clause-width : goal.tops_of-requires-clause-width
tops_of-requires-clause-width c =
    let e = counts-length c.args.problem.now c.counts-threads.result.now c.events-events.ensures.rules c.counts-threads.ensures in
    let r = c.events-events.ensures.rules.range.some_thread in
    omega (arith, e, r)

pub tops_of-requires-clause-narrow : goal.tops_of-requires-clause-narrow
tops_of-requires-clause-narrow c =
    let e = counts-length c.args.problem.now c.counts-threads.result.now c.events-events.ensures.rules c.counts-threads.ensures in
    let r = c.events-events.ensures.rules.range.threads in
    omega (arith, e, r)

pub tops_of-requires-clause-rows : goal.tops_of-requires-clause-rows
tops_of-requires-clause-rows c =
    let e = counts-length c.args.problem.now c.counts-threads.result.now c.events-events.ensures.rules c.counts-threads.ensures in
    let n = ends-size c.args.problem.now c.args.word _ _ e c.in_ok-ends.ensures in (
      _,
      sources_few c.args.problem.now c.args.word c.events-events.ensures.rules,
      blocks-read c.args.problem.now c.args.word _ _ _ c.deref.ensures.value c.events-events.ensures.rules e c.in_ok-starts.ensures,
      ap (λ xs. length xs) c.deref-2.ensures.value ∙ n,
    )

pub floors_of-requires-clause-width : goal.floors_of-requires-clause-width
floors_of-requires-clause-width c =
    let e = counts-length c.args.problem.now c.counts-threads.result.now c.events-events.ensures.rules c.counts-threads.ensures in
    let r = c.events-events.ensures.rules.range.some_thread in
    omega (arith, e, r)

pub floors_of-requires-clause-narrow : goal.floors_of-requires-clause-narrow
floors_of-requires-clause-narrow c =
    let e = counts-length c.args.problem.now c.counts-threads.result.now c.events-events.ensures.rules c.counts-threads.ensures in
    let r = c.events-events.ensures.rules.range.threads in
    omega (arith, e, r)

pub floors_of-requires-clause-rows : goal.floors_of-requires-clause-rows
floors_of-requires-clause-rows c =
    let e = counts-length c.args.problem.now c.counts-threads.result.now c.events-events.ensures.rules c.counts-threads.ensures in
    let n = ends-size c.args.problem.now c.args.word _ _ e c.in_ok-ends.ensures in (
      _,
      sources_few c.args.problem.now c.args.word c.events-events.ensures.rules,
      blocks-read c.args.problem.now c.args.word _ _ _ c.deref-3.ensures.value c.events-events.ensures.rules e c.in_ok-starts.ensures,
      ap (λ xs. length xs) c.deref-4.ensures.value ∙ n,
    )

pub returns : goal.returns
returns c = table-is c.args.problem.now c.args.word _ (counts-length c.args.problem.now c.counts-threads.result.now c.events-events.ensures.rules c.counts-threads.ensures) (ap (λ xs. length xs) c.sources.ensures) c.in_ok-starts.ensures
    c.in_ok-ends.ensures (tops-same _ _ _ _ _ _ c.deref.ensures.value c.deref-2.ensures.value c.in_ok-tops.ensures) (floors-over _ _ _ _ _ _ c.deref-3.ensures.value c.deref-4.ensures.value c.in_ok-floors.ensures)
