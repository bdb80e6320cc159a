-- Local instructions: where they go on, where they stop, and what they keep.
use Rattle.std.proofs.Common.{◌≡◌, ℕ, zero, suc, ◌+◌, ◌-◌, ◌<◌, ◌≤◌, Bool, true, false, cond, ◌&&◌, leb, List, length, refl, ◌∙◌, ap, arith}
use Rattle.std.specs.Prelude.{slice_get, slice_index, Option, Some, None}
use Rattle.std.proofs.lemmas.Bool.{leb-false}
use Rattle.std.proofs.lemmas.List.{length_push}
use Rattle.replay_model.specs.declared.Want.{Want}
use Rattle.replay_model.specs.declared.End.{End}
use Rattle.replay_model.specs.declared.End.TheVariants as end
use Rattle.machine.specs.declared.program.Instr.{Instr}
use Rattle.machine.specs.declared.program.Op.{Op}
use Rattle.machine.specs.declared.program.Op.TheVariants as op
use Rattle.machine.specs.Programs.{LimitsValue}
use Rattle.machine.specs.Cores.{State, address_of, is_halt, is_memory, is_reading, is_out, is_input, most_outputs, end_before, step_wanted, ended_or, comes_to, ran, output_after, taken_after, instr_or_halt, waiting, waiting_or, run_local, run_on}

-- where neither an end nor a memory step comes, no end comes
pub no_end : (e : Option End) (w : Option Want) → ended_or e w ≡ None → (e ≡ None) × (w ≡ None)
no_end None w h = (refl, h)
no_end (Some e) w h = cc

-- a test whose yes is an end was answered no
passed : (b : Bool) (e : End) (rest : Option End) → cond b (Some e) rest ≡ None → (b ≡ false) × (rest ≡ None)
passed false e rest h = (refl, h)
passed true e rest h = cc

-- no end comes before this instruction: each test for one is answered no
pub record Lives (words : ℕ) (limits : LimitsValue) (inputs : List ℕ) (full : Bool) (s : State) (i : Instr) : Type 0 where
  pub halts : is_halt i.op ≡ false
  pub room : s.instr < limits.instr
  pub address : (is_memory i.op && leb words (address_of s i)) ≡ false
  pub steps : (is_memory i.op && leb limits.steps s.steps) ≡ false
  pub entries : (is_reading i.op && full) ≡ false
  pub output : (is_out i.op && leb most_outputs (length s.output)) ≡ false
  pub numbers : (is_input i.op && leb (length inputs) s.taken) ≡ false

pub lives : (words : ℕ) (limits : LimitsValue) (inputs : List ℕ) (full : Bool) (s : State) (i : Instr) → end_before words limits inputs full s i ≡ None → Lives words limits inputs full s i
lives words limits inputs full s i h =
    let a = passed (is_halt i.op) end.Halted _ h in
    let b = passed (leb limits.instr s.instr) end.InstrSpent _ a.1 in
    let c = passed (is_memory i.op && leb words (address_of s i)) (end.BadAddress (address_of s i)) _ b.1 in
    let d = passed (is_memory i.op && leb limits.steps s.steps) end.StepsSpent _ c.1 in
    let f = passed (is_reading i.op && full) end.EntriesFull _ d.1 in
    let g = passed (is_out i.op && leb most_outputs (length s.output)) end.OutputFull _ f.1 in
    let k = passed (is_input i.op && leb (length inputs) s.taken) end.InputEmpty None g.1 in
    record { halts = a.0; room = leb-false _ _ b.0; address = c.0; steps = d.0; entries = f.0; output = g.0; numbers = k.0 }

-- where the thread goes on
pub record GoesOn (limits : LimitsValue) (inputs : List ℕ) (s : State) (i : Instr) : Type 0 where
  pub room : s.instr < limits.instr
  pub counts : (ran inputs i.op s i).instr ≡ s.instr + 1

-- a local instruction is counted, and one was left
pub goes_on : (words : ℕ) (limits : LimitsValue) (inputs : List ℕ) (full : Bool) (s : State) (i : Instr) → comes_to words limits inputs full s (Some i) ≡ None → GoesOn limits inputs s i
goes_on words limits inputs full s i h = record { room = (lives words limits inputs full s i (no_end (end_before words limits inputs full s i) (step_wanted i.op s i) h).0).room; counts = refl }

-- past the end of the code nothing goes on
pub going_instr : (words : ℕ) (limits : LimitsValue) (inputs : List ℕ) (full : Bool) (s : State) (o : Option Instr) → comes_to words limits inputs full s o ≡ None → GoesOn limits inputs s (instr_or_halt o)
going_instr words limits inputs full s None h = cc
going_instr words limits inputs full s (Some i) h = goes_on words limits inputs full s i h

-- one step of a local run
pub run_local-none : (n : ℕ) (code : List Instr) (words : ℕ) (limits : LimitsValue) (inputs : List ℕ) (full : Bool) (s : State) → comes_to words limits inputs full s (slice_get code s.place) ≡ None →
    run_local (suc n) code words limits inputs full s ≡ run_local n code words limits inputs full (ran inputs (instr_or_halt (slice_get code s.place)).op s (instr_or_halt (slice_get code s.place)))
unfolding run_local
run_local-none n code words limits inputs full s h = ap (λ t. waiting_or s (slice_get code s.place) t (run_local n code words limits inputs full (ran inputs (instr_or_halt (slice_get code s.place)).op s (instr_or_halt (slice_get code s.place))))) h

-- the last step of a local run
pub run_local-some : (n : ℕ) (code : List Instr) (words : ℕ) (limits : LimitsValue) (inputs : List ℕ) (full : Bool) (s : State) (wanted : Want) → comes_to words limits inputs full s (slice_get code s.place) ≡ Some wanted →
    run_local (suc n) code words limits inputs full s ≡ waiting s (slice_get code s.place) wanted
unfolding run_local
run_local-some n code words limits inputs full s wanted h = ap (λ t. waiting_or s (slice_get code s.place) t (run_local n code words limits inputs full (ran inputs (instr_or_halt (slice_get code s.place)).op s (instr_or_halt (slice_get code s.place))))) h

-- where the instruction is local, the thread runs on from what it does
pub run_on-more : (code : List Instr) (words : ℕ) (limits : LimitsValue) (inputs : List ℕ) (full : Bool) (s : State) (i : Instr) → slice_get code s.place ≡ Some i → comes_to words limits inputs full s (Some i) ≡ None →
    run_on code words limits inputs full s ≡ run_on code words limits inputs full (ran inputs i.op s i)
unfolding run_on
run_on-more code words limits inputs full s i at h =
    let g = goes_on words limits inputs full s i h in
    let room = g.room in
    let counts = g.counts in
    let n : (limits.instr - s.instr) + 1 ≡ suc ((limits.instr - (ran inputs i.op s i).instr) + 1) = omega arith in
    ap (λ k. run_local k code words limits inputs full s) n ∙
    run_local-none _ code words limits inputs full s (ap (comes_to words limits inputs full s) at ∙ h) ∙
    ap (λ o. run_local ((limits.instr - (ran inputs i.op s i).instr) + 1) code words limits inputs full (ran inputs (instr_or_halt o).op s (instr_or_halt o))) at

-- where it is not, the thread stops there
pub run_on-stop : (code : List Instr) (words : ℕ) (limits : LimitsValue) (inputs : List ℕ) (full : Bool) (s : State) (o : Option Instr) (wanted : Want) → slice_get code s.place ≡ o → comes_to words limits inputs full s o ≡ Some wanted →
    run_on code words limits inputs full s ≡ waiting s o wanted
unfolding run_on
run_on-stop code words limits inputs full s o wanted at h =
    let n : (limits.instr - s.instr) + 1 ≡ suc (limits.instr - s.instr) = omega arith in
    ap (λ k. run_local k code words limits inputs full s) n ∙
    run_local-some _ code words limits inputs full s wanted (ap (comes_to words limits inputs full s) at ∙ h) ∙
    ap (λ o. waiting s o wanted) at

-- what a local run keeps of a state
pub record Follows (old new : State) : Type 0 where
  pub thread : new.thread ≡ old.thread
  pub steps : new.steps ≡ old.steps
  pub expected : new.expected ≡ old.expected
  pub output : length old.output ≤ length new.output
  pub taken : old.taken ≤ new.taken

-- kept and kept again is kept
follows_all : {a b c : State} → Follows a b → Follows b c → Follows a c
follows_all ab bc = record { thread = bc.thread ∙ ab.thread; steps = bc.steps ∙ ab.steps; expected = bc.expected ∙ ab.expected; output = let x = ab.output in let y = bc.output in omega arith; taken = let x = ab.taken in let y = bc.taken in omega arith }

-- no instruction takes back what was put out
output_longer : (o : Op) (s : State) (i : Instr) → length s.output ≤ length (output_after o s i)
output_longer op.Out s i = omega (arith, length_push s.output (slice_index s.registers i.a))
output_longer _ s i = omega arith

-- nor gives back what it took
taken_more : (o : Op) (s : State) → s.taken ≤ taken_after o s
taken_more op.Input s = omega arith
taken_more _ s = omega arith

-- an instruction keeps it
pub ran-follows : (inputs : List ℕ) (o : Op) (s : State) (i : Instr) → Follows s (ran inputs o s i)
ran-follows inputs o s i = record { thread = refl; steps = refl; expected = refl; output = output_longer o s i; taken = taken_more o s }

-- so does stopping
pub waiting-follows : (s : State) (o : Option Instr) (wanted : Want) → Follows s (waiting s o wanted)
waiting-follows s o wanted = record { thread = refl; steps = refl; expected = refl; output = omega arith; taken = omega arith }

-- either of the two does
waiting_or-follows : (s : State) (o : Option Instr) (t : Option Want) (next : State) → Follows s next → Follows s (waiting_or s o t next)
waiting_or-follows s o None next h = h
waiting_or-follows s o (Some wanted) next h = waiting-follows s o wanted

-- so do many local instructions
pub run_local-follows : (n : ℕ) (code : List Instr) (words : ℕ) (limits : LimitsValue) (inputs : List ℕ) (full : Bool) (s : State) → Follows s (run_local n code words limits inputs full s)
unfolding run_local
run_local-follows zero code words limits inputs full s = record { thread = refl; steps = refl; expected = refl; output = omega arith; taken = omega arith }
run_local-follows (suc n) code words limits inputs full s =
    let i = instr_or_halt (slice_get code s.place) in
    waiting_or-follows s (slice_get code s.place) (comes_to words limits inputs full s (slice_get code s.place)) _
    (follows_all (ran-follows inputs i.op s i) (run_local-follows n code words limits inputs full (ran inputs i.op s i)))

-- so does a run
pub run_on-follows : (code : List Instr) (words : ℕ) (limits : LimitsValue) (inputs : List ℕ) (full : Bool) (s : State) → Follows s (run_on code words limits inputs full s)
unfolding run_on
run_on-follows code words limits inputs full s = run_local-follows _ code words limits inputs full s

-- how many entries a log may have does not matter to local instructions
pub run_local-entries : (n : ℕ) (code : List Instr) (words : ℕ) (limits : LimitsValue) (inputs : List ℕ) (entries : ℕ) (full : Bool) (s : State) →
    run_local n code words (record limits { entries = entries }) inputs full s ≡ run_local n code words limits inputs full s
unfolding run_local
run_local-entries zero code words limits inputs entries full s = refl
run_local-entries (suc n) code words limits inputs entries full s =
    let o = slice_get code s.place in
    let i = instr_or_halt o in
    ap (λ (next : State). waiting_or s o (comes_to words limits inputs full s o) next) (run_local-entries n code words limits inputs entries full (ran inputs i.op s i))

-- the same of a run
pub run_on-entries : (code : List Instr) (words : ℕ) (limits : LimitsValue) (inputs : List ℕ) (entries : ℕ) (full : Bool) (s : State) →
    run_on code words (record limits { entries = entries }) inputs full s ≡ run_on code words limits inputs full s
unfolding run_on
run_on-entries code words limits inputs entries full s = run_local-entries _ code words limits inputs entries full s
