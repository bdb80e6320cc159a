-- The summary of an arena.
use Rattle.std.specs.Prelude.{ℕ, ◌+◌, ◌*◌, List, ◌++◌, codes, decimal, sum, slice_range}
use Rattle.std.specs.List.{range_with_len, sum_by}

-- the points of a room's players
abbrev pub room_points : List ℕ → ℕ → ℕ
room_points values room = sum (slice_range values (6 * room + 1) (6 * room + 6))

-- the points of the players of the first rooms
abbrev pub points_of : List ℕ → ℕ → ℕ
points_of values rooms = sum_by (room_points values) (range_with_len 0 rooms)

abbrev pub size_line : ℕ → List ℕ
size_line number = codes "arena " ++ decimal number ++ codes " threads 8 words 24 moves 128\n"

abbrev pub points_line : ℕ → List ℕ
points_line points = codes "points " ++ decimal points ++ codes "\n"

-- the summary of the arena of a number whose words have these values at the end
abbrev pub summary_of : ℕ → List ℕ → List ℕ
summary_of number values = size_line number ++ points_line (points_of values 4) ++ codes "replay same\n"
