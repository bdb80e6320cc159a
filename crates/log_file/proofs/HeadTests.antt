-- Tests of the head of a log.
use Rattle.std.proofs.Common.{◌≡◌, ◌^◌, true, false, cond, leb, ltb, ◌&&◌, Option, Some, None, sym, ◌∙◌, ap, arith, inl, inr, ◌⊎◌}
use Rattle.std.specs.Option.{SomeIff}
use Rattle.std.proofs.lemmas.Bool.{and_from, and_parts, cases_Bool, ltb-true, leb-true, lt-ltb, le-leb, cond-true, cond-false}
use Rattle.replay_model.specs.Logs.{Limits}
use Rattle.machine.specs.Programs.{AreLimits}
use Rattle.log_file.specs.LogReading.{are_limits}

-- limits are in range exactly where the test says so
pub limits_pass : (l : Limits) → AreLimits l → are_limits l ≡ true
limits_pass l h =
    and_from (ltb l.steps (2 ^ 28) && leb l.instr (2 ^ 30)) (leb l.entries 16384)
    (and_from (ltb l.steps (2 ^ 28)) (leb l.instr (2 ^ 30)) (lt-ltb l.steps (2 ^ 28) (omega (arith, h.steps))) (le-leb l.instr (2 ^ 30) (omega (arith, h.instr)))) (le-leb l.entries 16384 h.entries)

pub limits_keep : (l : Limits) → are_limits l ≡ true → AreLimits l
limits_keep l h =
    let a = and_parts (ltb l.steps (2 ^ 28) && leb l.instr (2 ^ 30)) (leb l.entries 16384) h in
    let b = and_parts (ltb l.steps (2 ^ 28)) (leb l.instr (2 ^ 30)) a.0 in
    record {
      steps = let s = ltb-true l.steps (2 ^ 28) b.0 in omega arith;
      instr = let i = leb-true l.instr (2 ^ 30) b.1 in omega arith;
      entries = leb-true l.entries 16384 a.1;
    }

-- so are limits that are given only where they are in range
pub limits_given : (r : Option Limits) (l : Limits) → SomeIff r (AreLimits l) l → r ≡ cond (are_limits l) (Some l) None
limits_given None l h = sym (cond-false (are_limits l) (Some l) None (go (cases_Bool (are_limits l))))
  where
    go : (are_limits l ≡ true) ⊎ (are_limits l ≡ false) → are_limits l ≡ false
    go (inl t) = absurd (h (limits_keep l t))
    go (inr f) = f
limits_given (Some x) l h = ap Some h.1 ∙ sym (cond-true (are_limits l) (Some l) None (limits_pass l h.0))
