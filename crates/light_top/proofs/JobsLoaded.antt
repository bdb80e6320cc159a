-- Jobs that are loaded one after the other.
use Rattle.std.proofs.Common.{◌≡◌, ℕ, List, ◌++◌, drop, Result, Ok}
use Rattle.light_base.specs.FileMap.{Files}
use Rattle.batch.specs.Jobs.{JobValue}
use Rattle.light_top.specs.Given.{◌>>=◌, jobs_in}
use Rattle.light_top.specs.declared.list.Pair.{Pair}
use Rattle.light_top.specs.declared.status.Status.{Status}

-- these jobs, and then those
abbrev pub and_those : List JobValue → Result (List JobValue) Status → Result (List JobValue) Status
and_those front r = r >>= λ more. Ok (front ++ more)

-- so far the jobs of the first pairs are these
abbrev pub AreSoFar : List Pair → ℕ → List JobValue → Files → Type 0
AreSoFar pairs k front files = jobs_in files pairs ≡ and_those front (jobs_in files (drop k pairs))
