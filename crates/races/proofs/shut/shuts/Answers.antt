use Rattle.std.proofs.Common.{refl}
use Rattle.races.proofs.Shuts.{shut-based, source-node, last_reads-nodes}
use Rattle.races.specs.Shut.{source_at}
use Rattle.races.proofs.shut.shuts.Goals as goal

pub is_shut-requires-clause-source : goal.is_shut-requires-clause-source
is_shut-requires-clause-source c = source-node c.args.problem.now c.args.graph.now c.args.first.word c.args.then c.sources.result.now c.requires.base.counts c.requires.then c.sources.ensures

pub is_shut-requires-clause-last_reads : goal.is_shut-requires-clause-last_reads
is_shut-requires-clause-last_reads c =
    last_reads-nodes c.args.problem.now c.args.graph.now c.args.first.word (source_at c.args.problem.now c.args.first.word c.args.first.place) c.lasts.result.now c.requires.base.counts c.lasts.ensures

pub returns : goal.returns
returns c = shut-based c.args.problem.now c.args.graph.now c.args.first.word c.args.first.place c.args.then _ c.lasts.result.now c.sources.result.now c.is_shut.result c.requires.base c.lasts.ensures c.sources.ensures refl c.is_shut.ensures
