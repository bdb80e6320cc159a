use Rattle.races.proofs.Shuts.{source-event}
use Rattle.races.proofs.list.pair_with.Goals as goal

pub bounds-events-sources : goal.bounds-events-sources
bounds-events-sources c = source-event c.args.problem.now c.args.row.word c.args.row.place c.sources-sources.result.now c.events-events.result.now c.requires.lesser c.sources-sources.ensures c.events-events.ensures.value

pub bounds-events-sources-2 : goal.bounds-events-sources-2
bounds-events-sources-2 c = source-event c.args.problem.now c.args.row.word c.args.greater c.sources-sources.result.now c.events-events.result.now c.requires.greater c.sources-sources.ensures c.events-events.ensures.value
