-- Tags as numbers. A tag is seen as the writer of a word: a memory step of a thread, or nobody for the initial contents.
use Rattle.std.specs.Prelude.{◌≡◌, ℕ, zero, suc, ◌+◌, ◌-◌, ◌*◌, ◌/◌, ◌%◌, ◌^◌, ◌<◌, ◌≤◌, ◌⊎◌, Option, Some, None, IfSome, refl}
use Rattle.std.proofs.Common.{arith, inl, inr}
use Rattle.light_base.specs.declared.tag.Event.{Event}

-- one more than the greatest step that a tag can name, and what one thread is worth in a tag's number
abbrev pub step_end : ℕ
step_end = 2 ^ 28

-- the number of a tag: 0 for the initial contents, else the thread's number plus 1 in the high four bits and the step in the low 28
abbrev pub bits_of : Option Event → ℕ
bits_of None = 0
bits_of (Some event) = (event.thread + 1) * step_end + event.step

-- an event that has a tag
pub record HasTag (event : Event) : Type 0 where
  pub thread : event.thread ≤ 14
  pub first : 1 ≤ event.step
  pub last : event.step < step_end

-- the writer that a number names
abbrev pub writer_of : ℕ → Option Event
writer_of zero = None
writer_of (suc n) = Some record { thread = suc n / step_end - 1; step = suc n % step_end }

-- the number is a tag's: both parts are 0, or neither is
abbrev pub IsTag : ℕ → Type 0
IsTag bits = (bits ≡ 0) ⊎ ((step_end ≤ bits) × (0 < bits % step_end))

-- nobody, or an event that has a tag
abbrev pub IsWriter : Option Event → Type 0
IsWriter writer = IfSome writer HasTag

-- a tag's number names a writer with that number
pub bits_of-writer_of : (n : ℕ) → IsTag n → bits_of (writer_of n) ≡ n
bits_of-writer_of zero h = refl
bits_of-writer_of (suc n) (inl e) = omega (arith, e)
bits_of-writer_of (suc n) (inr h) = omega (arith, h.0)
