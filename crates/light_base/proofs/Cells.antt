-- A cell and its number, both ways.
use Rattle.std.proofs.Common.{◌≡◌, ℕ, ◌+◌, ◌*◌, ◌/◌, ◌%◌, ◌^◌, ◌<◌, ◌∙◌, arith}
use Rattle.light_base.specs.declared.tag.Cell.{Cell}
use Rattle.light_base.specs.Tags.{IsTag, IsWriter, bits_of, writer_of, bits_of-writer_of}
use Rattle.light_base.specs.Cells.{packed, unpacked}
use Rattle.light_base.proofs.Tags.{bits_of-lt, bits_of-IsTag, writer_of-bits_of}

high : (value bits : ℕ) → bits < 2 ^ 32 → (value * 2 ^ 32 + bits) / 2 ^ 32 ≡ value
high value bits l = omega arith

-- the low half of a number
pub low : (value bits : ℕ) → bits < 2 ^ 32 → (value * 2 ^ 32 + bits) % 2 ^ 32 ≡ bits
low value bits l = omega arith

-- a number made of two halves is the cell of both
pub unpacked-halves : (value bits : ℕ) → bits < 2 ^ 32 → unpacked (value * 2 ^ 32 + bits) ≡ record { value = value; tag = writer_of bits }
unpacked-halves value bits l = λ i. record { value = high value bits l i; tag = writer_of (low value bits l i) }

-- a cell is the one of its number
pub unpacked-packed : (cell : Cell) → IsWriter cell.tag → unpacked (packed cell) ≡ cell
unpacked-packed cell w = unpacked-halves cell.value (bits_of cell.tag) (bits_of-lt cell.tag w) ∙ (λ i. record { value = cell.value; tag = writer_of-bits_of cell.tag w i })

-- its low half is a tag
pub packed-IsTag : (cell : Cell) → IsWriter cell.tag → IsTag (packed cell % 2 ^ 32)
packed-IsTag cell w = rw (low cell.value (bits_of cell.tag) (bits_of-lt cell.tag w)) (bits_of-IsTag cell.tag w)

-- a number whose low half is a tag is the one of its cell
pub packed-unpacked : (word : ℕ) → IsTag (word % 2 ^ 32) → packed (unpacked word) ≡ word
packed-unpacked word t = omega (arith, bits_of-writer_of (word % 2 ^ 32) t)
