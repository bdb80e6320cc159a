-- A cell as one number: the value in the high 32 bits, and the number of the tag in the low 32.
use Rattle.std.specs.Prelude.{ℕ, ◌+◌, ◌*◌, ◌/◌, ◌%◌, ◌^◌}
use Rattle.light_base.specs.declared.tag.Cell.{Cell}
use Rattle.light_base.specs.Tags.{bits_of, writer_of}

abbrev pub packed : Cell → ℕ
packed cell = cell.value * 2 ^ 32 + bits_of cell.tag

abbrev pub unpacked : ℕ → Cell
unpacked word = record { value = word / 2 ^ 32; tag = writer_of (word % 2 ^ 32) }
