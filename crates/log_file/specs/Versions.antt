-- The versions of logs, and where they differ.
use Rattle.std.specs.Prelude.{◌≡◌, ◌≢◌, ℕ, List, [], codes, All}
use Rattle.replay_model.specs.declared.End.TheVariants.{InputEmpty}
use Rattle.replay_model.specs.Logs.{ThreadLog, Log}
pub use Rattle.log_file.specs.declared.version.Version.{Version}
use Rattle.log_file.specs.declared.version.Version.TheVariants.{One, Two}

-- the first four bytes
abbrev pub magic_of : Version → List ℕ
magic_of One = codes "LLG1"
magic_of Two = codes "LLG2"

-- how many bytes stand before the headers: the first four, the numbers of threads and of words, the digest and the limits
abbrev pub head_len : ℕ
head_len = 51

-- how many bytes the header of a thread has
abbrev pub header_len : Version → ℕ
header_len One = 17
header_len Two = 21

-- the greatest number of an end
abbrev pub last_end : Version → ℕ
last_end One = 5
last_end Two = 6

-- no thread took input numbers, or ended for want of one
pub record HasNoInput (log : Log) : Type 0 where
  pub taken : All (λ (thread : ThreadLog). thread.taken ≡ []) log.threads
  pub ends : All (λ (thread : ThreadLog). thread.end ≢ InputEmpty) log.threads

-- the version can tell the log: version 1 knows no input
abbrev pub CanTell : Version → Log → Type 0
CanTell One log = HasNoInput log
CanTell Two log = Prim.Unit {0}
