-- Files as a finite map from names to bytes.
use Rattle.std.specs.Prelude.{ℕ, List, Vec, String, map, string_bytes}
use Rattle.std.specs.Ordering.{nat_cmp}
use Rattle.std.specs.Cmp.Lexicographic.{slice_cmp}
use Rattle.std.specs.BTreeMap.{BTreeMap}
use Rattle.std.specs.FinMap.{FinMap, from_entries}

-- the bytes under each name
abbrev pub Files : Type 0
Files = FinMap (slice_cmp nat_cmp) (List ℕ)

-- the files that a map of the program keeps
abbrev pub files_of : {Y Z : Type 0} → BTreeMap (String Y) (Vec ℕ Z) → Files
files_of m = from_entries (map (λ e. (string_bytes e.0, e.1.items)) m.entries)
