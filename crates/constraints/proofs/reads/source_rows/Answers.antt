use Rattle.constraints.proofs.Rowing.{word_more, word_starts-end, source_starts-of, source_rows-of}
use Rattle.constraints.proofs.reads.source_rows.Goals as goal

pub loop-word-preserved : goal.loop-word-preserved
loop-word-preserved c =
    word_more c.args.keys.now c.loop-word.word c.word_end.result c.loop-word.starts.items c.push-in-loop-word.new.self.items c.loop-word.invariant c.word_end.ensures c.in_ok-push-2.ensures.items

pub new-requires : goal.new-requires
new-requires c =
    source_starts-of c.args.keys.now c.args.words c.in_ok-sources.field-0.items c.loop-word.starts.items c.in_ok-sources.ensures
    (word_starts-end c.args.keys.now c.loop-word.word c.args.words c.loop-word.starts.items c.loop-word.auto.word-end c.loop-word-test.false c.loop-word.invariant)

pub returns : goal.returns
returns c =
    source_rows-of c.args.keys.now c.args.words c.in_ok-sources.field-0.items c.loop-word.starts.items c.new.result c.requires c.in_ok-sources.ensures
    (word_starts-end c.args.keys.now c.loop-word.word c.args.words c.loop-word.starts.items c.loop-word.auto.word-end c.loop-word-test.false c.loop-word.invariant) c.new.ensures
