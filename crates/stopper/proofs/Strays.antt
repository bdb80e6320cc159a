-- Where a thread has seen something else than its log.
use Rattle.std.proofs.Common.{◌≡◌, ℕ, zero, suc, ◌+◌, ◌<◌, ◌≤◌, List, [], ◌∷◌, length, arith, inl, inr, ◌⊎◌}
use Rattle.std.specs.Prelude.{slice_get}
use Rattle.std.specs.List.{AllZip}
use Rattle.replay_model.specs.declared.Entry.{Entry}
use Rattle.cut_laws.specs.Cuts.{IsSeenOf}
use Rattle.stopper.specs.Strays.{AreSeenAt, AllFrom}

-- where both sides agree at each place up to the end of either, they agree
pub all-from : (number : ℕ) (logged seen : List Entry) → ((k : ℕ) → k ≤ length logged → k ≤ length seen → AreSeenAt number (slice_get logged k) (slice_get seen k)) → AllFrom number logged seen
all-from number [] [] h = tt
all-from number [] (y ∷ ys) h = h 0 (omega arith) (omega arith)
all-from number (x ∷ xs) [] h = h 0 (omega arith) (omega arith)
all-from number (x ∷ xs) (y ∷ ys) h = (h 0 (omega arith) (omega arith), all-from number xs ys (λ k a b. h (suc k) (omega (arith, a)) (omega (arith, b))))
