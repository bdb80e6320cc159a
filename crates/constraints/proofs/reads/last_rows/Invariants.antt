use Rattle.std.proofs.Common.{◌≡◌, ◌∷◌, map, take}
use Rattle.std.specs.List.{count_by}
use Rattle.constraints.specs.declared.reads.Key.{Key}
use Rattle.constraints.specs.Building.{is_read_up_to}
use Rattle.constraints.proofs.reads.last_rows.Given as goal

abbrev pub invariant-loop-key : goal.invariant-loop-key
invariant-loop-key l = l.starts.items ≡ 0 ∷ map (λ (key : Key). count_by (is_read_up_to key) l.reads) (take l.key-index l.keys)
