use Rattle.std.proofs.Common.{◌≡◌, ◌∷◌, nat_le, map}
use Rattle.std.specs.List.{range_with_len, count_by}
use Rattle.constraints.specs.declared.reads.Key.{Key}
use Rattle.constraints.proofs.reads.source_rows.Given as goal

abbrev pub invariant-loop-word : goal.invariant-loop-word
invariant-loop-word l = l.starts.items ≡ 0 ∷ map (λ word. count_by (λ (key : Key). nat_le key.word word) l.keys) (range_with_len 0 l.word)
