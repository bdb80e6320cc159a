-- Jobs as values.
use Rattle.std.specs.Prelude.{ℕ, ◌≤◌, List, length}

pub record JobValue : Type 0 where
  pub image : List ℕ
  pub log : List ℕ

abbrev pub job_of : List ℕ → List ℕ → JobValue
job_of image log = record { image = image; log = log }

-- the most bytes of a file
abbrev pub most_bytes : ℕ
most_bytes = 8388608

-- the most jobs of a batch
abbrev pub most_jobs : ℕ
most_jobs = 64

-- both files are of a size that is loaded
pub record IsShort (job : JobValue) : Type 0 where
  pub image : length job.image ≤ most_bytes
  pub log : length job.log ≤ most_bytes
