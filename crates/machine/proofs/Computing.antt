-- Instructions that only compute or jump: no end comes before one but that of the limit, and the run goes on after it.
use Rattle.std.proofs.Common.{◌≡◌, ℕ, ◌+◌, ◌<◌, Bool, true, false, cond, ◌&&◌, leb, List, [], refl, ◌∙◌, ap, subst, arith}
use Rattle.std.specs.Prelude.{slice_get, Option, Some, None}
use Rattle.std.proofs.lemmas.Bool.{leb-true}
use Rattle.replay_model.specs.declared.End.{End}
use Rattle.machine.specs.declared.program.Instr.{Instr}
use Rattle.machine.specs.declared.program.Op.{Op}
use Rattle.machine.specs.declared.program.Op.TheVariants as op
use Rattle.machine.specs.Programs.{LimitsValue, AreLimits, IsCode}
use Rattle.machine.specs.Cores.{State, IsState, first_state, is_halt, is_memory, is_reading, is_out, is_input, computes, end_before, step_wanted, ended_or, comes_to, ran, run_on}
use Rattle.machine.specs.Turns.{moved}
use Rattle.machine.proofs.Local.{run_on-more}
use Rattle.machine.proofs.Keeps.{ran-is_state}

-- what an operation that computes is not
record IsPlain (o : Op) (s : State) (i : Instr) : Type 0 where
  halts : is_halt o ≡ false
  memory : is_memory o ≡ false
  reading : is_reading o ≡ false
  out : is_out o ≡ false
  input : is_input o ≡ false
  wanted : step_wanted o s i ≡ None

plain : (o : Op) (s : State) (i : Instr) → computes o ≡ true → IsPlain o s i
plain op.Halt s i h = cc
plain op.Out s i h = cc
plain op.Load s i h = cc
plain op.Store s i h = cc
plain op.Xchg s i h = cc
plain op.Cas s i h = cc
plain op.Input s i h = cc
plain _ s i h = record { halts = refl; memory = refl; reading = refl; out = refl; input = refl; wanted = refl }

-- an operation that is none of the others computes
pub others_compute : (o : Op) → (o ≡ op.Halt → ⊥) → (o ≡ op.Out → ⊥) → (o ≡ op.Input → ⊥) → (o ≡ op.Load → ⊥) → (o ≡ op.Store → ⊥) → (o ≡ op.Xchg → ⊥) → (o ≡ op.Cas → ⊥) → computes o ≡ true
others_compute op.Halt h o i l s x c = absurd (h refl)
others_compute op.Out h o i l s x c = absurd (o refl)
others_compute op.Input h o i l s x c = absurd (i refl)
others_compute op.Load h o i l s x c = absurd (l refl)
others_compute op.Store h o i l s x c = absurd (s refl)
others_compute op.Xchg h o i l s x c = absurd (x refl)
others_compute op.Cas h o i l s x c = absurd (c refl)
others_compute _ h o i l s x c = refl

-- a test for an end that is answered no
pass : (b : Bool) (e : End) (rest : Option End) → b ≡ false → rest ≡ None → cond b (Some e) rest ≡ None
pass false e rest h r = r
pass true e rest h r = cc

no_and : (a b : Bool) → a ≡ false → (a && b) ≡ false
no_and false b h = refl
no_and true b h = cc

left_over : (a b : ℕ) (t : Bool) → leb a b ≡ t → b < a → t ≡ false
left_over a b false e l = refl
left_over a b true e l = absurd (let h = leb-true a b e in omega (arith, h, l))

-- where an instruction is left, one that computes is local
pub computes-none : (words : ℕ) (limits : LimitsValue) (inputs : List ℕ) (full : Bool) (s : State) (i : Instr) → computes i.op ≡ true → s.instr < limits.instr → comes_to words limits inputs full s (Some i) ≡ None
computes-none words limits inputs full s i h room =
    let p = plain i.op s i h in
    let e : end_before words limits inputs full s i ≡ None =
    pass _ _ _ p.halts (pass _ _ _ (left_over limits.instr s.instr (leb limits.instr s.instr) refl room) (pass _ _ _ (no_and _ _ p.memory) (pass _ _ _ (no_and _ _ p.memory) (pass _ _ _ (no_and _ _ p.reading) (pass _ _ _ (no_and _ _ p.out) (pass _ _ _ (no_and _ _ p.input) refl)))))) in
    ap (λ (x : Option End). ended_or x (step_wanted i.op s i)) e ∙ p.wanted

-- the run goes on after it
pub goes_along : (code : List Instr) (words : ℕ) (limits : LimitsValue) (inputs : List ℕ) (full : Bool) (s next : State) (i : Instr) → slice_get code s.place ≡ Some i → computes i.op ≡ true → s.instr < limits.instr →
    ran inputs i.op s i ≡ next → run_on code words limits inputs full s ≡ run_on code words limits inputs full next
goes_along code words limits inputs full s next i at h room is =
    run_on-more code words limits inputs full s i at (computes-none words limits inputs full s i h room) ∙ ap (λ (x : State). run_on code words limits inputs full x) is

-- and what holds of a state is kept
pub keeps_along : (code : List Instr) (limits : LimitsValue) (registers : List ℕ) (place instr : ℕ) (registers2 : List ℕ) (next : ℕ) (i : Instr) → IsCode code → AreLimits limits → slice_get code place ≡ Some i → computes i.op ≡ true → instr < limits.instr →
    ran [] i.op (moved (first_state 0) registers place [] 0 instr 0) i ≡ moved (first_state 0) registers2 next [] 0 (instr + 1) 0 →
    IsState (moved (first_state 0) registers place [] 0 instr 0) → IsState (moved (first_state 0) registers2 next [] 0 (instr + 1) 0)
keeps_along code limits registers place instr registers2 next i rules bounds at h room is state =
    let s = moved (first_state 0) registers place [] 0 instr 0 in
    subst IsState is (ran-is_state code 0 limits [] false s (Some i) rules bounds (omega arith) at (computes-none 0 limits [] false s i h room) refl refl state)
