use Rattle.std.proofs.Common.{arith}
use Rattle.replayer.proofs.Items.{tags-differ-at, tags-same-all}
use Rattle.replayer.proofs.difference.tag_difference.Goals as goal

pub returns-then-not-same_tag : goal.returns-then-not-same_tag
returns-then-not-same_tag c =
    tags-differ-at c.args.threads c.loop-word.word c.args.logged.now c.args.cells.now c.index-logged-word.result c.index-cells-word.result c.requires.words c.loop-word-test.true c.index-logged-word.is
    c.index-cells-word.is c.if-not-same_tag.ensures c.loop-word.invariant

pub returns : goal.returns
returns c = tags-same-all c.loop-word.word c.args.logged.now c.args.cells.now c.requires.words (omega (arith, c.loop-word-test.false)) c.loop-word.invariant
