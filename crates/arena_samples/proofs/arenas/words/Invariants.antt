use Rattle.std.proofs.Common.{◌≡◌, ℕ}
use Rattle.std.specs.List.{flat_map, range_with_len}
use Rattle.arena_samples.specs.Arenas.{room_words}
use Rattle.arena_samples.proofs.arenas.words.Given as goal

abbrev pub invariant-loop : goal.invariant-loop
invariant-loop l = l.words.items ≡ flat_map (λ (_ : ℕ). room_words) (range_with_len 0 l.counter)
