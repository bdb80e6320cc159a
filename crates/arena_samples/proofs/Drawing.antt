-- States after several draws.
use Rattle.std.proofs.Common.{◌≡◌, ℕ, zero, suc, ◌+◌, ◌*◌, ap, sym, arith}
use Rattle.arena_samples.specs.Draws.{next_state, state_after}

pub state_after-add : (x m n : ℕ) → state_after x (m + n) ≡ state_after (state_after x m) n
unfolding state_after
state_after-add x m zero = let e : m + zero ≡ m = omega arith in rw e
state_after-add x m (suc n) =
    let next : m + suc n ≡ suc (m + n) = omega arith in
    let before : state_after x (m + n) ≡ state_after (state_after x m) n = state_after-add x m n in
    rw next (ap next_state before)

-- so many draws more, as many each time
pub state_after-more : (x y k n : ℕ) → y ≡ state_after x (k * n) → state_after y k ≡ state_after x (k * (n + 1))
state_after-more x y k n h =
    let e : k * (n + 1) ≡ k * n + k = grind arith in
    rw (e, h) (sym (state_after-add x (k * n) k))
