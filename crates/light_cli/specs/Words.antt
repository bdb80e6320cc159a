-- When the words that the program was called with are refused.
use Rattle.std.specs.Prelude.{◌≡◌, ◌≢◌, Result, Ok, Err}
use Rattle.std.specs.IoError.{error_kind}
use Rattle.std.specs.declared.io.Error.{Error}
use Rattle.std.specs.declared.io.ErrorKind.TheVariants.{OutOfMemory}
use Rattle.light_top.specs.declared.status.Status.{Status}
use Rattle.light_top.specs.declared.status.Status.TheVariants as status

-- with which statuses: memory was refused; a word is no text
abbrev pub WordsRefused : {T : Type 0} → Result T Error → Status → Type 0
WordsRefused (Ok _) s = s ≡ status.Memory
WordsRefused (Err error) s = (error_kind error ≡ OutOfMemory → s ≡ status.Memory) × (error_kind error ≢ OutOfMemory → s ≡ status.Usage)
