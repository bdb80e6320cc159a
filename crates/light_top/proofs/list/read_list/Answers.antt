use Rattle.std.proofs.Common.{◌≡◌, ◌+◌, ◌++◌, ◌<◌, false, List, Result, sym, ap, ◌∙◌, arith}
use Rattle.std.specs.Prelude.{nat_lt}
use Rattle.std.proofs.lemmas.Grind.{common_steps}
use Rattle.assembler.specs.Lines.{lines_of}
use Rattle.batch.specs.Jobs.{most_jobs}
use Rattle.light_top.specs.Lists.{pairs_from}
use Rattle.light_top.specs.declared.list.Pair.{Pair}
use Rattle.light_top.proofs.Listing.{and_those, next_pair, few_so_far}
use Rattle.light_top.proofs.list.read_list.Goals as goal

pub loop-rest-preserved : goal.loop-rest-preserved
loop-rest-preserved c =
    let front = c.loop-rest.pairs.items in
    let line = c.loop-rest.line in
    let lines = lines_of c.split_line.result.1.now in
    record {
      read = c.loop-rest.invariant.read
          ∙ (ap (λ all. and_those front (pairs_from line all)) c.split_line.ensures.lines
          ∙ (next_pair line c.split_line.result.0.now lines front c.in-Some.pair (few_so_far line c.if-line-gt-MOST_JOBS.false) (sym c.pair_in.ensures ∙ c.in-Some.is)
          ∙ ap (λ (now : List Pair). and_those now (pairs_from (line + 1) lines)) (sym c.push_reserved.ensures.items)));
      count = grind (arith, common_steps);
      few = omega arith;
      room = grind (arith, common_steps);
    }
