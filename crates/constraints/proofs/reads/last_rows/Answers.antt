use Rattle.constraints.proofs.LastRows.{key_more, key_starts-end, last_starts-of, last_rows-of}
use Rattle.constraints.proofs.reads.last_rows.Goals as goal

pub loop-key-preserved : goal.loop-key-preserved
loop-key-preserved c =
    key_more c.args.keys.now c.args.reads.now c.loop-key.key-index c.key_end.result c.loop-key.starts.items c.push-in-loop-key.new.self.items c.loop-key-test.true c.loop-key.invariant c.key_end.ensures c.in_ok-push-2.ensures.items

pub new-requires : goal.new-requires
new-requires c =
    last_starts-of c.args.keys.now c.args.reads.now c.in_ok-last_reads.field-0.items c.loop-key.starts.items c.requires.keys c.in_ok-last_reads.ensures
    (key_starts-end c.args.keys.now c.args.reads.now c.loop-key.key-index c.loop-key.starts.items c.loop-key-test.false c.loop-key.invariant)

pub returns : goal.returns
returns c =
    last_rows-of c.args.keys.now c.args.reads.now c.in_ok-last_reads.field-0.items c.loop-key.starts.items c.new.result c.requires.keys c.requires.reads c.in_ok-last_reads.ensures
    (key_starts-end c.args.keys.now c.args.reads.now c.loop-key.key-index c.loop-key.starts.items c.loop-key-test.false c.loop-key.invariant) c.new.ensures
