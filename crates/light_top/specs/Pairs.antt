-- A line of a list: the names of an image and of a log.
use Rattle.std.specs.Prelude.{ℕ, Bool, ◌+◌, ◌==◌, ◌&&◌, nat_le, List, take, drop, Option, None, Some, if◌then◌else◌}
use Rattle.std.specs.List.{position, list_all}
use Rattle.light_top.specs.Words.{◌>>=◌, name_of}
use Rattle.light_top.specs.declared.list.Pair.{Pair}

-- a byte that can be seen
abbrev pub is_visible : ℕ → Bool
is_visible b = nat_le 33 b && nat_le b 126

-- a name in a list: some bytes that can all be seen
abbrev pub listed_name : List ℕ → Option (List ℕ)
listed_name bytes = if list_all is_visible bytes then name_of bytes else None

abbrev pub is_space : ℕ → Bool
is_space b = b == 32

-- the name of an image, one space, and the name of a log
abbrev pub pair_of : List ℕ → Option Pair
pair_of line = do
  space ← position is_space line
  image ← listed_name (take space line)
  log ← listed_name (drop (space + 1) line)
  Some (record { image = image; log = log })
