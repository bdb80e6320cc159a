-- The number of a tag and its writer, both ways. `bits_of-writer_of` stands beside the definitions.
use Rattle.std.proofs.Common.{◌≡◌, ℕ, zero, suc, ◌+◌, ◌*◌, ◌/◌, ◌%◌, ◌^◌, ◌<◌, Option, Some, None, refl, arith, inl, inr}
use Rattle.light_base.specs.declared.tag.Event.{Event}
use Rattle.light_base.specs.Tags.{IsTag, IsWriter, bits_of, writer_of}

-- the two parts of a tag's number
thread_of : (thread step : ℕ) → step < 2 ^ 28 → ((thread + 1) * 2 ^ 28 + step) / 2 ^ 28 ≡ thread + 1
thread_of thread step h = omega arith

step_of : (thread step : ℕ) → step < 2 ^ 28 → ((thread + 1) * 2 ^ 28 + step) % 2 ^ 28 ≡ step
step_of thread step h = omega arith

same_event : (a b c d : ℕ) → a ≡ c → b ≡ d → ◌≡◌ {A = Option Event} (Some record { thread = a; step = b }) (Some record { thread = c; step = d })
same_event a b c d p q = cc

-- a number that isn't 0 names the event of its two parts
named : (n thread step : ℕ) → n / 2 ^ 28 ≡ thread + 1 → n % 2 ^ 28 ≡ step → writer_of n ≡ Some record { thread = thread; step = step }
named zero thread step p q = absurd (omega arith)
named (suc n) thread step p q = same_event _ _ thread step (omega arith) q

-- a writer is the one that its number names
pub writer_of-bits_of : (writer : Option Event) → IsWriter writer → writer_of (bits_of writer) ≡ writer
writer_of-bits_of None h = refl
writer_of-bits_of (Some event) h = named _ event.thread event.step (thread_of event.thread event.step h.last) (step_of event.thread event.step h.last)

-- a writer's number is a tag's
pub bits_of-IsTag : (writer : Option Event) → IsWriter writer → IsTag (bits_of writer)
bits_of-IsTag None h = inl refl
bits_of-IsTag (Some event) h = inr (omega (arith, h.first), omega (arith, step_of event.thread event.step h.last, h.first))

-- a writer's number has 32 bits
pub bits_of-lt : (writer : Option Event) → IsWriter writer → bits_of writer < 2 ^ 32
bits_of-lt None h = omega arith
bits_of-lt (Some event) h = omega (arith, h.thread, h.last)
