-- A code that puts out nothing leaves the output as it is.
use Rattle.std.proofs.Common.{◌≡◌, ℕ, zero, suc, ◌<◌, Bool, true, false, List, length, refl, sym, ◌∙◌, ap, arith, inl, inr, ◌⊎◌}
use Rattle.std.specs.Prelude.{slice_get, Option, Some, None}
use Rattle.std.proofs.lemmas.Bool.{cases_Bool}
use Rattle.std.proofs.lemmas.Option.{slice_get_within, get_or_from_slice_get}
use Rattle.replay_model.specs.declared.Want.{Want}
use Rattle.replay_model.proofs.Tags.{element-any}
use Rattle.machine.specs.declared.cores.Expected.{Expected}
use Rattle.machine.specs.declared.program.Instr.{Instr}
use Rattle.machine.specs.declared.program.Op.{Op}
use Rattle.machine.specs.declared.program.Op.TheVariants as op
use Rattle.machine.specs.Programs.{ProgramValue, LimitsValue, code_of}
use Rattle.machine.specs.Cores.{State, is_out, comes_to, output_after, ran, instr_or_halt, waiting_or, run_local, run_on, resumed, settled}
use Rattle.machine.proofs.Rests.{settled-none, settled-some}
use Rattle.running_thread.specs.Running.{puts_out}

-- another operation than `out` puts out nothing
quiet_op : (o : Op) (s : State) (i : Instr) → is_out o ≡ false → output_after o s i ≡ s.output
quiet_op op.Out s i h = cc
quiet_op _ s i h = refl

-- an instruction of the code
quiet_at : (code : List Instr) (place : ℕ) (o : Option Instr) → slice_get code place ≡ o → puts_out code ≡ false → is_out (instr_or_halt o).op ≡ false
quiet_at code place None at h = refl
quiet_at code place (Some i) at h = go (cases_Bool (is_out i.op))
  where
    go : (is_out i.op ≡ true) ⊎ (is_out i.op ≡ false) → is_out i.op ≡ false
    go (inr f) = f
    go (inl t) = absurd (let some = element-any (λ (x : Instr). is_out x.op) code i (place, slice_get_within code place i at, get_or_from_slice_get code place i i at) t in let no : true ≡ false = sym some ∙ h in cc no)

quiet_wait : (s next : State) (o : Option Instr) (t : Option Want) → next.output ≡ s.output → (waiting_or s o t next).output ≡ s.output
quiet_wait s next o None h = h
quiet_wait s next o (Some wanted) h = refl

quiet_local : (n : ℕ) (code : List Instr) (words : ℕ) (limits : LimitsValue) (list : List ℕ) (full : Bool) (s : State) → puts_out code ≡ false → (run_local n code words limits list full s).output ≡ s.output
unfolding run_local
quiet_local zero code words limits list full s h = refl
quiet_local (suc n) code words limits list full s h =
    let i = instr_or_halt (slice_get code s.place) in
    quiet_wait s _ (slice_get code s.place) (comes_to words limits list full s (slice_get code s.place))
    (quiet_local n code words limits list full (ran list i.op s i) h ∙ quiet_op i.op s i (quiet_at code s.place (slice_get code s.place) refl h))

quiet_run : (code : List Instr) (words : ℕ) (limits : LimitsValue) (list : List ℕ) (full : Bool) (s : State) → puts_out code ≡ false → (run_on code words limits list full s).output ≡ s.output
unfolding run_on
quiet_run code words limits list full s h = quiet_local _ code words limits list full s h

quiet_resumed : (p : ProgramValue) (limits : LimitsValue) (list : List ℕ) (full : Bool) (s : State) (e : Option Expected) → puts_out (code_of p s.thread) ≡ false → (resumed p limits list full s e).output ≡ s.output
quiet_resumed p limits list full s None h = quiet_run (code_of p s.thread) (length p.words) limits list full s h
quiet_resumed p limits list full s (Some e) h = refl

quiet_settled : (p : ProgramValue) (limits : LimitsValue) (list : List ℕ) (full : Bool) (s : State) (o : Option Want) → s.pending ≡ o → puts_out (code_of p s.thread) ≡ false → (settled p limits list full s).output ≡ s.output
quiet_settled p limits list full s None e h = ap (λ (n : State). n.output) (settled-none p limits list full s s.expected e refl) ∙ quiet_resumed p limits list full s s.expected h
quiet_settled p limits list full s (Some w) e h = ap (λ (n : State). n.output) (settled-some p limits list full s w e)

-- where the output grows, the code has an `out`
pub grows-puts_out : (p : ProgramValue) (limits : LimitsValue) (list : List ℕ) (full : Bool) (s : State) → length s.output < length (settled p limits list full s).output → puts_out (code_of p s.thread) ≡ true
grows-puts_out p limits list full s more = go (cases_Bool (puts_out (code_of p s.thread)))
  where
    go : (puts_out (code_of p s.thread) ≡ true) ⊎ (puts_out (code_of p s.thread) ≡ false) → puts_out (code_of p s.thread) ≡ true
    go (inl h) = h
    go (inr h) = let same = ap length (quiet_settled p limits list full s s.pending refl h) in absurd (omega (arith, more, same))
