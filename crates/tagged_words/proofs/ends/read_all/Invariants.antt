use Rattle.std.proofs.Common.{◌≡◌, map, take}
use Rattle.std.specs.Mem.Slots.{slots_items}
use Rattle.light_base.specs.Cells.{unpacked}
use Rattle.tagged_words.proofs.ends.read_all.Given as goal

abbrev pub invariant-loop-i : goal.invariant-loop-i
invariant-loop-i l = l.cells.items ≡ map unpacked (take l.i (slots_items l.closed.words))
