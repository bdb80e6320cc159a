use Rattle.std.proofs.Common.{◌≡◌, ◌++◌}
use Rattle.std.specs.Prelude.{None, slice_index_or}
use Rattle.std.specs.List.{flat_map, range_with_len}
use Rattle.constraints.specs.Building.{placed_edges}
use Rattle.audit.specs.Rows.{row_at}
use Rattle.audit.specs.Tables.{word_edges_in}
use Rattle.audit.proofs.edges.base_edges.Given as goal

abbrev pub invariant-loop-word : goal.invariant-loop-word
invariant-loop-word l =
    l.edges.items ≡
    flat_map (placed_edges l.sources l.last_tags) l.placed ++
    flat_map (λ word. word_edges_in (row_at l.sources word) (slice_index_or l.last_tags word None)) (range_with_len 0 l.word)
