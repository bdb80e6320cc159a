use Rattle.std.proofs.Common.{◌∙◌, ◌++◌, ap, sym, ℕ}
use Rattle.arena_samples.specs.Arenas.{room_words}
use Rattle.arena_samples.proofs.Ranges.{flat_map_more}
use Rattle.arena_samples.proofs.arenas.words.Goals as goal

pub loop-preserved : goal.loop-preserved
loop-preserved c =
    c.in_ok-extend_from_slice.ensures.items ∙ ap (λ ws. ws ++ room_words) c.loop.invariant ∙ sym (flat_map_more (λ (_ : ℕ). room_words) c.loop.counter)
