-- What tells one program from another.
use Rattle.std.specs.Prelude.{ℕ, List, length, Bool, ◌&&◌, ◌==◌}
use Rattle.std.specs.Str.{bytes_eq}
use Rattle.sha2.specs.Sha256.{sha256}
use Rattle.replay_model.specs.Logs.{Log}
use Rattle.machine.specs.Programs.{ProgramValue}
use Rattle.batch.specs.declared.print.Print.{Print}

-- what a log says of its program, and what an image is
abbrev pub logged_print : Log → Print
logged_print log = record { digest = log.digest; words = length log.last_tags; threads = length log.threads }

abbrev pub print_of_image : List ℕ → ProgramValue → Print
print_of_image image p = record { digest = sha256 image; words = length p.words; threads = length p.threads }

-- whether two prints are the same
abbrev pub same_print : Print → Print → Bool
same_print a b = bytes_eq a.digest b.digest && (a.words == b.words && a.threads == b.threads)
