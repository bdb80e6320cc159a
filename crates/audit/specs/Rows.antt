-- Rows of numbers, each number once in its row, and rising.
use Rattle.std.specs.Prelude.{◌≡◌, ℕ, ◌<◌, ◌==◌, ◌↔◌, List, [], ◌++◌, length, map, filter, slice_index_or, Contains}
use Rattle.std.specs.List.{AllPairs}
use Rattle.audit.specs.declared.rows.Mark.{Mark}

-- the numbers of a row, in the order in which they are put there
abbrev pub numbers_of : List Mark → ℕ → List ℕ
numbers_of marks row = map (λ (mark : Mark). mark.number) (filter (λ (mark : Mark). mark.row == row) marks)

abbrev pub row_at : List (List ℕ) → ℕ → List ℕ
row_at rows row = slice_index_or rows row []

-- the same numbers, each once and rising
pub record IsOrdered (old new : List ℕ) : Type 0 where
  pub rising : AllPairs (λ m n. m < n) new
  pub same : (n : ℕ) → Contains new n ↔ Contains old n

-- the numbers were added to their rows
pub record AreFilled (old : List (List ℕ)) (marks : List Mark) (new : List (List ℕ)) : Type 0 where
  pub counted : length new ≡ length old
  pub each : (row : ℕ) → row < length old → row_at new row ≡ row_at old row ++ numbers_of marks row

-- each row was ordered
pub record AreOrdered (old new : List (List ℕ)) : Type 0 where
  pub counted : length new ≡ length old
  pub each : (row : ℕ) → row < length old → IsOrdered (row_at old row) (row_at new row)

-- so many rows, which rise and hold just these numbers
pub record AreRows (count : ℕ) (marks : List Mark) (rows : List (List ℕ)) : Type 0 where
  pub counted : length rows ≡ count
  pub rising : (row : ℕ) → row < count → AllPairs (λ m n. m < n) (row_at rows row)
  pub holds : (row n : ℕ) → row < count → Contains (row_at rows row) n ↔ Contains marks (record { row = row; number = n })
