use Rattle.std.specs.Mem.Slots.{slots_items}
use Rattle.tagged_words.proofs.Bounds.{read_more}
use Rattle.tagged_words.proofs.ends.read_all.Goals as goal

pub loop-i-preserved : goal.loop-i-preserved
loop-i-preserved c =
    read_more (slots_items c.args.closed.now.words) c.loop-i.i c.word.result c.loop-i.cells.items c.push.new.self.items c.unpack.result c.word.ensures c.unpack.ensures.cell c.loop-i.invariant c.in_ok-push.ensures.items
