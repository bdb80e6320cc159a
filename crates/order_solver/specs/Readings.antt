-- Sources with their last reads, as the reads that a judge of orders sees.
use Rattle.std.specs.Prelude.{ℕ, List, map}
use Rattle.std.specs.List.{flat_map, range_with_len}
use Rattle.order_judge.specs.declared.judging.Read.{Read}
use Rattle.order_solver.specs.Rivals.{Rivalry}

abbrev pub read : ℕ → ℕ → ℕ → Read
read word source last = record { word = word; source = source; last = last }

-- the reads of a source of a word that has these last reads
abbrev pub reads_of : ℕ → ℕ → List ℕ → List Read
reads_of word source last_reads = map (read word source) last_reads

-- the reads of a word
abbrev pub reads_at : Rivalry → ℕ → List Read
reads_at r word = flat_map (λ s. reads_of word s (r.last_reads word s)) (r.sources word)

-- the reads of the first words
abbrev pub reads_up_to : Rivalry → ℕ → List Read
reads_up_to r count = flat_map (reads_at r) (range_with_len 0 count)

-- the reads of all words
unfoldable pub reads_in : Rivalry → List Read
reads_in r = reads_up_to r r.words
