-- How much a thread may log.
use Rattle.std.specs.Prelude.{ℕ}

-- the most entries of a thread's log
abbrev pub most_entries : ℕ
most_entries = 16384

-- the most input numbers that a thread takes
abbrev pub most_inputs : ℕ
most_inputs = 65536
