-- Lists of jobs: which images and logs they name.
use Rattle.std.specs.Prelude.{ℕ, ◌+◌, nat_lt, List, [], ◌∷◌, Option, None, Some, Result, Ok, Err, if◌then◌else◌}
use Rattle.machine.specs.Reading.{◌>>=◌}
use Rattle.assembler.specs.Lines.{lines_of}
use Rattle.batch.specs.Jobs.{most_jobs}
use Rattle.light_top.specs.Pairs.{pair_of}
use Rattle.light_top.specs.declared.list.Pair.{Pair}
use Rattle.light_top.specs.declared.status.Status.{Status}
use Rattle.light_top.specs.declared.status.Status.TheVariants as status

-- the pair, or this line is at fault
abbrev pub or_refused : {X : Type 0} → ℕ → Option X → Result X Status
or_refused line None = Err (status.ListRefused line)
or_refused line (Some x) = Ok x

-- the pairs of the lines, of which the first has this number
abbrev pub pairs_from : ℕ → List (List ℕ) → Result (List Pair) Status
pairs_from number [] = Ok []
pairs_from number (line ∷ lines) = do
  pair ← (if nat_lt most_jobs number then Err (status.ListRefused number) else or_refused number (pair_of line))
  pairs ← pairs_from (number + 1) lines
  Ok (pair ∷ pairs)

abbrev pub some_pairs : List Pair → Result (List Pair) Status
some_pairs [] = Err (status.ListRefused 1)
some_pairs (pair ∷ pairs) = Ok (pair ∷ pairs)

-- the pairs of a list of 1 to 64 lines, or its first line at fault
abbrev pub as_list : List ℕ → Result (List Pair) Status
as_list text = do
  pairs ← pairs_from 1 (lines_of text)
  some_pairs pairs
