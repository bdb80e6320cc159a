-- How a run of local instructions settles a state, from what is known where it is called.
use Rattle.std.proofs.Common.{◌≡◌, ℕ, ◌<◌, Bool, List, [], length, sym, ◌∙◌, ap, subst, arith}
use Rattle.std.specs.Prelude.{Some, None}
use Rattle.std.proofs.lemmas.List.Elements.{All-get_or}
use Rattle.replay_model.specs.declared.Want.{Want}
use Rattle.machine.specs.declared.program.Instr.{Instr}
use Rattle.machine.specs.Programs.{ProgramValue, LimitsValue, AreLimits, IsCode, IsProgram, code_of}
use Rattle.machine.specs.Cores.{State, run_on, settled}
use Rattle.machine.proofs.Local.{run_on-entries}
use Rattle.machine.specs.Turns.{IsUnderWay}
use Rattle.machine.proofs.Rests.{settled-some, settled-none}

-- something is pending already
pub settled_already : (p : ProgramValue) (limits : LimitsValue) (inputs : List ℕ) (full : Bool) (s now : State) (wanted : Want) → s ≡ now → s.pending ≡ Some wanted →
    (now ≡ settled p limits inputs full now) × (now.pending ≡ Some wanted)
settled_already p limits inputs full s now wanted same h =
    let P : State → Type 0 = λ n. (n ≡ settled p limits inputs full n) × (n.pending ≡ Some wanted) in
    subst P same (sym (settled-some p limits inputs full s wanted h), h)

-- a run that comes to a place goes on from there
pub under_way : (p : ProgramValue) (limits : LimitsValue) (inputs : List ℕ) (full : Bool) (old new : State) → old.pending ≡ None → old.expected ≡ None →
    old ≡ record new { registers = old.registers; place = old.place; instr = old.instr } →
    run_on (code_of p old.thread) (length p.words) limits inputs full old ≡ run_on (code_of p new.thread) (length p.words) limits inputs full new → IsUnderWay p limits inputs full old new
under_way p limits inputs full old new none fresh rest same = record {
  leads = settled-none p limits inputs full new None (sym (ap (λ (n : State). n.pending) rest) ∙ none) (sym (ap (λ (n : State). n.expected) rest) ∙ fresh) ∙ sym same ∙
      sym (settled-none p limits inputs full old None none fresh);
  rest = rest;
}

-- the code of a thread of a program keeps the rules
pub code_rules : (p : ProgramValue) (thread : ℕ) (code : List Instr) → IsProgram p → thread < length p.threads → code ≡ code_of p thread → IsCode code
code_rules p thread code rules there e = subst IsCode (sym e) (All-get_or IsCode p.threads thread [] there rules.each)

-- the limits that bound a course are limits
pub limits_rules : (limits : LimitsValue) (steps instr : ℕ) → AreLimits limits → steps ≡ limits.steps → instr ≡ limits.instr → AreLimits (record { steps = steps; instr = instr; entries = 0 })
limits_rules limits steps instr rules s i = let a = rules.steps in let b = rules.instr in record { steps = omega arith; instr = omega arith; entries = omega arith }

-- the run of a core is that of its program
pub run_on-of : (p : ProgramValue) (limits : LimitsValue) (inputs : List ℕ) (full : Bool) (s now : State) → s ≡ now → (thread : ℕ) → thread ≡ s.thread →
    (code : List Instr) → code ≡ code_of p thread → (words : List ℕ) → words ≡ p.words → (steps instr : ℕ) → steps ≡ limits.steps → instr ≡ limits.instr →
    run_on code (length words) (record { steps = steps; instr = instr; entries = 0 }) inputs full s ≡ run_on (code_of p now.thread) (length p.words) limits inputs full now
run_on-of p limits inputs full s now same thread t code c words w steps instr n i =
    ap (λ (k : List Instr). run_on k (length words) (record { steps = steps; instr = instr; entries = 0 }) inputs full s) (c ∙ ap (code_of p) t) ∙
    ap (λ (k : List ℕ). run_on (code_of p s.thread) (length k) (record { steps = steps; instr = instr; entries = 0 }) inputs full s) w ∙
    ap (λ (k : ℕ). run_on (code_of p s.thread) (length p.words) (record { steps = k; instr = instr; entries = 0 }) inputs full s) n ∙
    ap (λ (k : ℕ). run_on (code_of p s.thread) (length p.words) (record { steps = limits.steps; instr = k; entries = 0 }) inputs full s) i ∙
    run_on-entries (code_of p s.thread) (length p.words) limits inputs 0 full s ∙
    ap (λ (k : State). run_on (code_of p k.thread) (length p.words) limits inputs full k) same
