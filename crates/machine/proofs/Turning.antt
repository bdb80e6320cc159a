-- What one turn of a thread means for the run that it is part of.
use Rattle.std.proofs.Common.{◌≡◌, ℕ, ◌+◌, ◌<◌, ◌≤◌, Bool, true, false, List, length, take, refl, sym, ◌∙◌, ap, subst, arith}
use Rattle.std.specs.Prelude.{slice_get, Some, None, Result, Ok, Err, OnOk, OnErr, is_err}
use Rattle.std.proofs.lemmas.Bool.{both_ways}
use Rattle.std.proofs.lemmas.List.{length_push, length-take, take-take}
use Rattle.replay_model.specs.declared.Want.{Want}
use Rattle.machine.specs.declared.program.Instr.{Instr}
use Rattle.machine.specs.declared.program.Op.{Op}
use Rattle.machine.specs.declared.program.Op.TheVariants as op
use Rattle.machine.specs.declared.courses.Turn.{Turn}
use Rattle.machine.specs.declared.courses.Turn.TheVariants as turn
use Rattle.machine.specs.Programs.{LimitsValue}
use Rattle.machine.specs.Cores.{State, comes_to, ran, register, run_on}
use Rattle.machine.specs.Turns.{Turns}
use Rattle.machine.proofs.Local.{goes_on, run_on-more, run_on-stop, run_on-follows}

-- the state that a thread goes on from
abbrev gone : State → List ℕ → ℕ → List ℕ → ℕ → State
gone old registers place output taken = record old { registers = registers; place = place; output = output; instr = old.instr + 1; taken = taken }

-- what a turn that goes on says
next_of : (words : ℕ) (limits : LimitsValue) (inputs : List ℕ) (full : Bool) (i : Instr) (old : State) (t : Turn) (next : ℕ) (registers output : List ℕ) (taken : ℕ) → t ≡ turn.Next next →
    Turns words limits inputs full i old t registers output taken → (comes_to words limits inputs full old (Some i) ≡ None) × (ran inputs i.op old i ≡ gone old registers next output taken)
next_of words limits inputs full i old t next registers output taken e h = let P : Turn → Type 0 = λ u. Turns words limits inputs full i old u registers output taken in subst P e h

-- a thread goes on only where an instruction is left to it
pub next-room : (words : ℕ) (limits : LimitsValue) (inputs : List ℕ) (full : Bool) (i : Instr) (old : State) (t : Turn) (next : ℕ) (registers output : List ℕ) (taken : ℕ) → t ≡ turn.Next next →
    Turns words limits inputs full i old t registers output taken → old.instr < limits.instr
next-room words limits inputs full i old t next registers output taken e h = (goes_on words limits inputs full old i (next_of words limits inputs full i old t next registers output taken e h).0).room

-- the run goes on from the next place
pub next-goes : (code : List Instr) (words : ℕ) (limits : LimitsValue) (inputs : List ℕ) (full : Bool) (i : Instr) (old : State) (t : Turn) (next : ℕ) (registers output : List ℕ) (taken : ℕ) → slice_get code old.place ≡ Some i →
    t ≡ turn.Next next → Turns words limits inputs full i old t registers output taken → run_on code words limits inputs full old ≡ run_on code words limits inputs full (gone old registers next output taken)
next-goes code words limits inputs full i old t next registers output taken at e h =
    let n = next_of words limits inputs full i old t next registers output taken e h in
    run_on-more code words limits inputs full old i at n.0 ∙ ap (λ (s : State). run_on code words limits inputs full s) n.1

-- the run stops there
pub stop-rests : (code : List Instr) (words : ℕ) (limits : LimitsValue) (inputs : List ℕ) (full : Bool) (i : Instr) (old : State) (t : Turn) (wanted : Want) (registers output : List ℕ) (taken : ℕ) → slice_get code old.place ≡ Some i →
    t ≡ turn.Stop wanted → Turns words limits inputs full i old t registers output taken →
    run_on code words limits inputs full old ≡ record old { registers = registers; output = output; taken = taken; doing = i; pending = Some wanted }
stop-rests code words limits inputs full i old t wanted registers output taken at e h =
    let P : Turn → Type 0 = λ u. Turns words limits inputs full i old u registers output taken in
    let s : (comes_to words limits inputs full old (Some i) ≡ Some wanted) × (registers ≡ old.registers) × (output ≡ old.output) × (taken ≡ old.taken) = subst P e h in
    run_on-stop code words limits inputs full old (Some i) wanted at s.0 ∙
    ap (λ (r : List ℕ). record old { registers = r; doing = i; pending = Some wanted }) (sym s.1) ∙
    ap (λ (o : List ℕ). record old { registers = registers; output = o; doing = i; pending = Some wanted }) (sym s.2) ∙
    ap (λ (n : ℕ). record old { registers = registers; output = output; taken = n; doing = i; pending = Some wanted }) (sym s.3)

-- where a value is put out, the run puts it out
pub out-grows : (code : List Instr) (words : ℕ) (limits : LimitsValue) (inputs : List ℕ) (full : Bool) (i : Instr) (old : State) → slice_get code old.place ≡ Some i →
    comes_to words limits inputs full old (Some i) ≡ None → i.op ≡ op.Out → length old.output < length (run_on code words limits inputs full old).output
out-grows code words limits inputs full i old at none out =
    let e : run_on code words limits inputs full old ≡ run_on code words limits inputs full (ran inputs op.Out old i) =
    run_on-more code words limits inputs full old i at none ∙ ap (λ (o : Op). run_on code words limits inputs full (ran inputs o old i)) out in
    let l : length (run_on code words limits inputs full old).output ≡ length (run_on code words limits inputs full (ran inputs op.Out old i)).output = ap (λ (s : State). length s.output) e in
    let f = (run_on-follows code words limits inputs full (ran inputs op.Out old i)).output in
    let p : length (ran inputs op.Out old i).output ≡ length old.output + 1 = length_push old.output (register old i.a) in
    omega arith

-- what begins with a list is at least as long
pub begins-long : (first list : List ℕ) → take (length first) list ≡ first → length first ≤ length list
begins-long first list h = let l = length-take (length first) list in let e = ap length h in omega (arith, l, e)

-- a list that begins with one that begins with the first begins with the first
pub begins-on : (first middle list : List ℕ) → take (length first) middle ≡ first → take (length middle) list ≡ middle → take (length first) list ≡ first
begins-on first middle list a b =
    let l = begins-long first middle a in
    sym (take-take (length first) (length middle) list l) ∙ ap (take (length first)) b ∙ a

-- what holds, holds on an error
pub on_err : {T E P : Type 0} (r : Result T E) → P → OnErr r P
on_err (Ok x) p = tt
on_err (Err e) p = p

-- what holds of an answer that is one, and of an error that is one
pub ok_there : {T E : Type 0} (r : Result T E) (P : Type 0) → is_err r ≡ false → OnOk r P → P
ok_there (Ok x) P e p = p
ok_there (Err x) P e p = absurd (both_ways true e refl)

pub err_there : {T E : Type 0} (r : Result T E) (P : Type 0) → is_err r ≡ true → OnErr r P → P
err_there (Ok x) P e p = absurd (both_ways false refl e)
err_there (Err x) P e p = p
