use Rattle.std.proofs.Common.{◌≡◌, ◌++◌, drop}
use Rattle.std.specs.List.{flat_map}
use Rattle.races.specs.Texts.{pair_line}
use Rattle.races.proofs.text.put_pairs.Given as goal

abbrev pub invariant-loop-pair : goal.invariant-loop-pair
invariant-loop-pair l = l.initial.text.items ++ flat_map pair_line l.pairs ≡ l.text.items ++ flat_map pair_line (drop l.pair-index l.pairs)
