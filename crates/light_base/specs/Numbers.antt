-- Numbers in bytes, the highest byte first.
use Rattle.std.specs.Prelude.{◌≡◌, ℕ, ◌+◌, ◌<◌, ◌≤◌, slice_index, List, length, slice_range, Option, Some, None, nat_le, if◌then◌else◌}
use Rattle.std.specs.Int.{Width, byte_len, from_be_bytes}

-- each number of the list is a byte
abbrev pub IsBytes : List ℕ → Type 0
IsBytes bytes = (i : ℕ) → slice_index bytes i < 256

-- so many of the bytes, from a place on, and the bytes do not end before
abbrev pub IsPart : List ℕ → ℕ → ℕ → List ℕ → Type 0
IsPart bytes at len part = (at + len ≤ length bytes) × (part ≡ slice_range bytes at (at + len))

-- the number of this width that stands at a place; None where the bytes end before
unfoldable pub big_endian_at : Width → List ℕ → ℕ → Option ℕ
big_endian_at w bytes at =
    if nat_le (at + byte_len w) (length bytes) then Some (from_be_bytes w (slice_range bytes at (at + byte_len w))) else None
