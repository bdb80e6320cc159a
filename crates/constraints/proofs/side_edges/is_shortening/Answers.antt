use Rattle.std.proofs.Common.{length, sym, ap, arith, List, ℕ, subst}
use Rattle.std.specs.Prelude.{◌&&◌, Bool}
use Rattle.constraints.specs.Constraints.{sources_of, last_reads_of, last_reads_from}
use Rattle.constraints.specs.SideEdges.{has, shortens}
use Rattle.constraints.proofs.SideEdges.{sources_few, row_found, row_missing}
use Rattle.constraints.proofs.side_edges.is_shortening.Goals as goal

pub overflow_cast-place : goal.overflow_cast-place
overflow_cast-place c =
    let n = sources_few c.args.problem.now c.args.word c.requires.rules in
    let l = (row_found c.args.problem.now c.args.word c.sources-sources.result.now c.args.last c.binary_search.result c.in-Ok.place c.sources-sources.ensures c.binary_search.ensures.position c.in-Ok.is).0 in
    omega (arith, n, l)

pub returns-in-Err : goal.returns-in-Err
returns-in-Err c = row_missing c.args.problem.now c.args.word c.sources-sources.result.now c.args.last c.binary_search.result c.in-Err.field-0 c.sources-sources.ensures c.binary_search.ensures.position c.in-Err.is _
