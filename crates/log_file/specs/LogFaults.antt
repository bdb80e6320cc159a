-- The faults of logs.
use Rattle.std.specs.Prelude.{ℕ}
pub use Rattle.log_file.specs.declared.log_fault.LogFault.{LogFault}
pub use Rattle.log_file.specs.declared.log_fault.LogKind.{LogKind}
use Rattle.log_file.specs.declared.log_fault.LogKind.TheVariants as kind

-- the number of a kind
abbrev pub number_of_kind : LogKind → ℕ
number_of_kind kind.Short = 1
number_of_kind kind.Magic = 2
number_of_kind kind.Counts = 3
number_of_kind kind.EndCode = 4
number_of_kind kind.Order = 5
number_of_kind kind.Range = 6
number_of_kind kind.Source = 7
number_of_kind kind.Word = 8
number_of_kind kind.Twice = 9
number_of_kind kind.Overlap = 10
number_of_kind kind.Long = 11
number_of_kind kind.Memory = 12

-- a fault at a place
abbrev pub fault : LogKind → ℕ → LogFault
fault k at = record { kind = k; at = at }

-- the fault that tells of a request for memory that was refused
abbrev pub out_of_memory : LogFault
out_of_memory = fault kind.Memory 0
