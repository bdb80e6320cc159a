use Rattle.std.proofs.Common.{◌≡◌, ℕ, ◌<◌}
use Rattle.std.specs.Prelude.{None, slice_index_or}
use Rattle.replay_model.specs.RunLogs.{last_tags}
use Rattle.replayer.proofs.difference.tag_difference.Given as goal

abbrev pub invariant-loop-word : goal.invariant-loop-word
invariant-loop-word l = (j : ℕ) → j < l.word → slice_index_or l.logged j None ≡ slice_index_or (last_tags l.cells) j None
