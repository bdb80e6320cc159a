-- What a thread comes to at the end of its local instructions.
use Rattle.std.proofs.Common.{◌≡◌, ℕ, zero, suc, ◌-◌, ◌<◌, ◌≤◌, Bool, true, false, cond, ◌&&◌, leb, List, length, refl, sym, ◌∙◌, ap, subst, arith}
use Rattle.std.specs.Prelude.{slice_get, slice_index, Option, Some, None}
use Rattle.std.proofs.lemmas.Bool.{leb-true, leb-false}
use Rattle.replay_model.specs.Steps.{Tag, has_ended, word_of, reads}
use Rattle.replay_model.specs.declared.Want.{Want}
use Rattle.replay_model.specs.declared.Want.TheVariants as want
use Rattle.replay_model.specs.declared.End.{End}
use Rattle.replay_model.specs.declared.End.TheVariants as end
use Rattle.machine.specs.declared.cores.Expected.{Expected}
use Rattle.machine.specs.declared.program.Instr.{Instr}
use Rattle.machine.specs.declared.program.Op.{Op}
use Rattle.machine.specs.declared.program.Op.TheVariants as op
use Rattle.machine.specs.Programs.{ProgramValue, LimitsValue, code_of}
use Rattle.machine.specs.Cores.{State, address_of, is_halt, is_memory, is_reading, is_out, is_input, most_outputs, register, end_before, step_wanted, ended_or, comes_to, ran, instr_or_halt, waiting, waiting_or, run_local, run_on, second_wanted, resumed, settled, if_none}
use Rattle.machine.proofs.Local.{lives as lives_at, GoesOn, going_instr, ran-follows}

-- ---- what an instruction wants

-- whether the step is a conditional write
abbrev pub is_conditional : Want → Bool
is_conditional (want.Cond word seen value) = true
is_conditional _ = false

-- the first memory step of an instruction
record IsStep (o : Op) (s : State) (i : Instr) (wanted : Want) : Type 0 where
  memory : is_memory o ≡ true
  word : word_of wanted ≡ address_of s i
  reading : reads wanted ≡ is_reading o
  lives : has_ended wanted ≡ false
  first : is_conditional wanted ≡ false

step_is : (o : Op) (s : State) (i : Instr) (wanted : Want) → step_wanted o s i ≡ Some wanted → IsStep o s i wanted
step_is op.Load s i wanted h = let e : want.Load (address_of s i) ≡ wanted = cc in subst (IsStep op.Load s i) e (record { memory = refl; word = refl; reading = refl; lives = refl; first = refl })
step_is op.Store s i wanted h =
    let e : want.Store (address_of s i) (slice_index s.registers i.a) ≡ wanted = cc in subst (IsStep op.Store s i) e (record { memory = refl; word = refl; reading = refl; lives = refl; first = refl })
step_is op.Xchg s i wanted h =
    let e : want.Swap (address_of s i) (slice_index s.registers i.a) ≡ wanted = cc in subst (IsStep op.Xchg s i) e (record { memory = refl; word = refl; reading = refl; lives = refl; first = refl })
step_is op.Cas s i wanted h = let e : want.Load (address_of s i) ≡ wanted = cc in subst (IsStep op.Cas s i) e (record { memory = refl; word = refl; reading = refl; lives = refl; first = refl })
step_is _ s i wanted h = absurd cc

-- of two tests that do not both hold, the first of which does, the second does not
not_both : (a b : Bool) → a ≡ true → (a && b) ≡ false → b ≡ false
not_both true b t h = h
not_both false b t h = cc

-- of two tests that both hold the second does
both_true : (a b : Bool) → (a && b) ≡ true → b ≡ true
both_true true b h = h
both_true false b h = cc

-- either an end comes, or no end and this memory step
some_of : (e : Option End) (w : Option Want) (wanted : Want) → ended_or e w ≡ Some wanted → has_ended wanted ≡ false → (e ≡ None) × (w ≡ Some wanted)
some_of None w wanted h lives = (refl, h)
some_of (Some e) w wanted h lives =
    let q : wanted ≡ want.Ended e = cc in
    let t : has_ended wanted ≡ true = ap has_ended q in
    cc

-- an instruction does not begin with a conditional write
first_of_either : (e : Option End) (o : Op) (s : State) (i : Instr) (wanted : Want) → ended_or e (step_wanted o s i) ≡ Some wanted → is_conditional wanted ≡ false
first_of_either None o s i wanted h = (step_is o s i wanted h).first
first_of_either (Some e) o s i wanted h = let q : want.Ended e ≡ wanted = cc in sym (ap is_conditional q)

comes_first : (words : ℕ) (limits : LimitsValue) (inputs : List ℕ) (full : Bool) (s : State) (o : Option Instr) (wanted : Want) → comes_to words limits inputs full s o ≡ Some wanted → is_conditional wanted ≡ false
comes_first words limits inputs full s None wanted h = let q : want.Ended end.Halted ≡ wanted = cc in sym (ap is_conditional q)
comes_first words limits inputs full s (Some i) wanted h = first_of_either (end_before words limits inputs full s i) i.op s i wanted h

-- a memory step that the thread may take
pub record MayBeTaken (words : ℕ) (limits : LimitsValue) (s : State) (wanted : Want) : Type 0 where
  pub word : word_of wanted < words
  pub steps : s.steps < limits.steps
  pub instr : s.instr < limits.instr

-- where a thread comes to a memory step, it may take it
pub comes-taken : (words : ℕ) (limits : LimitsValue) (inputs : List ℕ) (full : Bool) (s : State) (i : Instr) (wanted : Want) →
    comes_to words limits inputs full s (Some i) ≡ Some wanted → has_ended wanted ≡ false → MayBeTaken words limits s wanted
comes-taken words limits inputs full s i wanted h lives =
    let e = some_of (end_before words limits inputs full s i) (step_wanted i.op s i) wanted h lives in
    let l = lives_at words limits inputs full s i e.0 in
    let step = step_is i.op s i wanted e.1 in
    let w = step.word in
    let far = leb-false _ _ (not_both (is_memory i.op) (leb words (address_of s i)) step.memory l.address) in
    record { word = omega (arith, w, far); steps = leb-false _ _ (not_both (is_memory i.op) (leb limits.steps s.steps) step.memory l.steps); instr = l.room }

-- past its code a thread comes to its end
pub comes-past : (words : ℕ) (limits : LimitsValue) (inputs : List ℕ) (full : Bool) (s : State) (wanted : Want) → comes_to words limits inputs full s None ≡ Some wanted → has_ended wanted ≡ true
comes-past words limits inputs full s wanted h = cc

-- what is asked for is within the limits: a read comes only where the log is not full, and an address is bad only where no word has it
pub record IsAsked (words : ℕ) (full : Bool) (wanted : Want) : Type 0 where
  pub room : reads wanted ≡ true → full ≡ false
  pub address : (a : ℕ) → wanted ≡ want.Ended (end.BadAddress a) → words ≤ a

-- a memory step is no end, and a read is one of a reading instruction
step_asked : (o : Op) (words : ℕ) (full : Bool) (s : State) (i : Instr) (wanted : Want) → step_wanted o s i ≡ Some wanted → (is_reading o && full) ≡ false → IsAsked words full wanted
step_asked o words full s i wanted h f =
    let step = step_is o s i wanted h in
    record {
      room = λ r. not_both (is_reading o) full (sym step.reading ∙ r) f;
      address = λ a e. let t : has_ended wanted ≡ true = ap has_ended e in let l = step.lives in cc;
    }

ended_asked : (words : ℕ) (full : Bool) (e : End) (wanted : Want) → Some (want.Ended e) ≡ Some wanted → ((a : ℕ) → e ≡ end.BadAddress a → words ≤ a) → IsAsked words full wanted
ended_asked words full e wanted h address =
    let q : wanted ≡ want.Ended e = cc in
    record { room = λ r. let z : reads wanted ≡ false = ap reads q in cc; address = λ a b. address a cc }

-- the ends in their order, by the tests that they come from
chain_asked : (words : ℕ) (full : Bool) (address : ℕ) (w : Option Want) (wanted : Want) (halts spent bad steps entries outputs inputs : Bool) →
    ended_or (cond halts (Some end.Halted) (cond spent (Some end.InstrSpent) (cond bad (Some (end.BadAddress address)) (cond steps (Some end.StepsSpent) (cond entries (Some end.EntriesFull) (cond outputs (Some end.OutputFull) (cond inputs (Some end.InputEmpty) None))))))) w ≡ Some wanted →
    (bad ≡ true → words ≤ address) → (entries ≡ false → w ≡ Some wanted → IsAsked words full wanted) → IsAsked words full wanted
chain_asked words full address w wanted true spent bad steps entries outputs inputs h far last = ended_asked words full _ wanted h (λ a e. cc)
chain_asked words full address w wanted false true bad steps entries outputs inputs h far last = ended_asked words full _ wanted h (λ a e. cc)
chain_asked words full address w wanted false false true steps entries outputs inputs h far last =
    ended_asked words full _ wanted h (λ a e. let q : address ≡ a = cc in let l = far refl in omega (arith, q, l))
chain_asked words full address w wanted false false false true entries outputs inputs h far last = ended_asked words full _ wanted h (λ a e. cc)
chain_asked words full address w wanted false false false false true outputs inputs h far last = ended_asked words full _ wanted h (λ a e. cc)
chain_asked words full address w wanted false false false false false true inputs h far last = ended_asked words full _ wanted h (λ a e. cc)
chain_asked words full address w wanted false false false false false false true h far last = ended_asked words full _ wanted h (λ a e. cc)
chain_asked words full address w wanted false false false false false false false h far last = last refl h

comes_asked : (words : ℕ) (limits : LimitsValue) (inputs : List ℕ) (full : Bool) (s : State) (o : Option Instr) (wanted : Want) → comes_to words limits inputs full s o ≡ Some wanted → IsAsked words full wanted
comes_asked words limits inputs full s None wanted h = ended_asked words full _ wanted h (λ a e. cc)
comes_asked words limits inputs full s (Some i) wanted h =
    chain_asked words full (address_of s i) (step_wanted i.op s i) wanted (is_halt i.op) (leb limits.instr s.instr) (is_memory i.op && leb words (address_of s i)) (is_memory i.op && leb limits.steps s.steps)
    (is_reading i.op && full) (is_out i.op && leb most_outputs (length s.output)) (is_input i.op && leb (length inputs) s.taken) h
    (λ b. leb-true _ _ (both_true (is_memory i.op) _ b))
    (λ f q. step_asked i.op words full s i wanted q f)

-- ---- settling

-- a conditional write is the second step of a compare-exchange that is left
pub record IsLeft (s : State) (word : ℕ) (seen : Tag) : Type 0 where
  pub expected : Expected
  pub left : s.expected ≡ Some expected
  pub at : expected.word ≡ word
  pub tag : expected.tag ≡ seen

-- the new state is the old one with something pending: an end, or a memory step that may be taken
pub record Settles (words : ℕ) (limits : LimitsValue) (full : Bool) (old new : State) : Type 0 where
  pub thread : new.thread ≡ old.thread
  pub steps : new.steps ≡ old.steps
  pub wanted : Want
  pub pending : new.pending ≡ Some wanted
  pub step : has_ended wanted ≡ false → MayBeTaken words limits new wanted
  pub asked : IsAsked words full wanted
  pub second : (word : ℕ) (seen : Tag) (value : ℕ) → wanted ≡ want.Cond word seen value → IsLeft old word seen

-- a first step is no second one
not_second : (s : State) (wanted : Want) → is_conditional wanted ≡ false → (word : ℕ) (seen : Tag) (value : ℕ) → wanted ≡ want.Cond word seen value → IsLeft s word seen
not_second s wanted first word seen value h = let q : is_conditional wanted ≡ true = ap is_conditional h in absurd cc

-- stopping at an instruction settles
waiting-settles : (words : ℕ) (limits : LimitsValue) (inputs : List ℕ) (full : Bool) (s : State) (o : Option Instr) (wanted : Want) → comes_to words limits inputs full s o ≡ Some wanted → Settles words limits full s (waiting s o wanted)
waiting-settles words limits inputs full s None wanted h =
    record { thread = refl; steps = refl; wanted = wanted; pending = refl; step = λ lives. let e = comes-past words limits inputs full s wanted h in cc; asked = comes_asked words limits inputs full s None wanted h; second = not_second s wanted (comes_first words limits inputs full s None wanted h) }
waiting-settles words limits inputs full s (Some i) wanted h = record {
  thread = refl;
  steps = refl;
  wanted = wanted;
  pending = refl;
  step = λ lives. (let t = comes-taken words limits inputs full s i wanted h lives in record { word = t.word; steps = t.steps; instr = t.instr });
  asked = comes_asked words limits inputs full s (Some i) wanted h;
  second = not_second s wanted (comes_first words limits inputs full s (Some i) wanted h);
}

-- stopping does, or what follows does
waiting_or-settles : (words : ℕ) (limits : LimitsValue) (inputs : List ℕ) (full : Bool) (s : State) (o : Option Instr) (t : Option Want) → comes_to words limits inputs full s o ≡ t →
    (next : State) → (GoesOn limits inputs s (instr_or_halt o) → Settles words limits full s next) → Settles words limits full s (waiting_or s o t next)
waiting_or-settles words limits inputs full s o None h next f = f (going_instr words limits inputs full s o h)
waiting_or-settles words limits inputs full s o (Some wanted) h next f = waiting-settles words limits inputs full s o wanted h

-- what settles the state after an instruction settles the state before it
ran-settles : (words : ℕ) (limits : LimitsValue) (inputs : List ℕ) (full : Bool) (s : State) (i : Instr) (new : State) → Settles words limits full (ran inputs i.op s i) new → Settles words limits full s new
ran-settles words limits inputs full s i new h =
    let f = ran-follows inputs i.op s i in
    record {
      thread = h.thread ∙ f.thread;
      steps = h.steps ∙ f.steps;
      wanted = h.wanted;
      pending = h.pending;
      step = h.step;
      asked = h.asked;
      second = λ word seen value q. (let l = h.second word seen value q in record { expected = l.expected; left = l.left; at = l.at; tag = l.tag });
    }

-- enough local instructions settle
run_local-settles : (n : ℕ) (code : List Instr) (words : ℕ) (limits : LimitsValue) (inputs : List ℕ) (full : Bool) (s : State) → limits.instr - s.instr < n → Settles words limits full s (run_local n code words limits inputs full s)
unfolding run_local
run_local-settles zero code words limits inputs full s h = absurd (omega arith)
run_local-settles (suc n) code words limits inputs full s h =
    waiting_or-settles words limits inputs full s (slice_get code s.place) (comes_to words limits inputs full s (slice_get code s.place)) refl _
    (λ g. let room = g.room in let counts = g.counts in
    ran-settles words limits inputs full s (instr_or_halt (slice_get code s.place)) _ (run_local-settles n code words limits inputs full _ (omega arith)))

-- a run settles
pub run_on-settles : (code : List Instr) (words : ℕ) (limits : LimitsValue) (inputs : List ℕ) (full : Bool) (s : State) → Settles words limits full s (run_on code words limits inputs full s)
unfolding run_on
run_on-settles code words limits inputs full s = run_local-settles _ code words limits inputs full s (omega arith)

-- the second step of a compare-exchange, by the tests that it comes from
record IsSecond (spent full : Bool) (word : ℕ) (seen : Tag) (wanted : Want) : Type 0 where
  step : has_ended wanted ≡ false → (spent ≡ false) × (word_of wanted ≡ word)
  room : reads wanted ≡ true → full ≡ false
  address : (a : ℕ) → wanted ≡ want.Ended (end.BadAddress a) → ⊥
  second : (at : ℕ) (tag : Tag) (value : ℕ) → wanted ≡ want.Cond at tag value → (word ≡ at) × (seen ≡ tag)

second_is : (spent full : Bool) (word : ℕ) (seen : Tag) (value : ℕ) → IsSecond spent full word seen (cond spent (want.Ended end.StepsSpent) (cond full (want.Ended end.EntriesFull) (want.Cond word seen value)))
second_is true full word seen value = record { step = λ lives. cc; room = λ r. cc; address = λ a e. cc; second = λ at tag v e. absurd cc }
second_is false true word seen value = record { step = λ lives. cc; room = λ r. cc; address = λ a e. cc; second = λ at tag v e. absurd cc }
second_is false false word seen value = record { step = λ lives. (refl, refl); room = λ r. refl; address = λ a e. cc; second = λ at tag v e. (cc, cc) }

-- coming to it settles, where its word is there and an instruction is left
second-settles : (words : ℕ) (limits : LimitsValue) (full : Bool) (s : State) (e : Expected) → s.expected ≡ Some e → e.word < words → s.instr < limits.instr → Settles words limits full s (record s { pending = Some (second_wanted limits full s e) })
second-settles words limits full s e left word instr =
    let h = second_is (leb limits.steps s.steps) full e.word e.tag (register s s.doing.c) in
    record {
      thread = refl;
      steps = refl;
      wanted = second_wanted limits full s e;
      pending = refl;
      step = λ lives. (let t = h.step lives in let w = t.1 in record { word = omega (arith, w, word); steps = leb-false _ _ t.0; instr = instr });
      asked = record { room = h.room; address = λ a q. absurd (h.address a q) };
      second = λ word seen value q. (let l = h.second word seen value q in record { expected = e; left = left; at = l.0; tag = l.1 });
    }

-- what holds of a state before it settles: nothing is pending, and a compare-exchange whose second step is left has its word, an instruction and a code
pub record IsBetween (p : ProgramValue) (limits : LimitsValue) (s : State) : Type 0 where
  pub pending : s.pending ≡ None
  pub word : (e : Expected) → s.expected ≡ Some e → e.word < length p.words
  pub instr : (e : Expected) → s.expected ≡ Some e → s.instr < limits.instr
  pub past : length p.threads ≤ s.thread → s.expected ≡ None

-- with something pending a state is settled
pub settled-some : (p : ProgramValue) (limits : LimitsValue) (inputs : List ℕ) (full : Bool) (s : State) (wanted : Want) → s.pending ≡ Some wanted → settled p limits inputs full s ≡ s
unfolding settled
settled-some p limits inputs full s wanted h = ap (λ o. if_none o s (resumed p limits inputs full s s.expected)) h

-- with nothing pending the thread goes on
pub settled-none : (p : ProgramValue) (limits : LimitsValue) (inputs : List ℕ) (full : Bool) (s : State) (e : Option Expected) → s.pending ≡ None → s.expected ≡ e → settled p limits inputs full s ≡ resumed p limits inputs full s e
unfolding settled
settled-none p limits inputs full s e h q = ap (λ o. if_none o s (resumed p limits inputs full s s.expected)) h ∙ ap (resumed p limits inputs full s) q

resumed-settles : (p : ProgramValue) (limits : LimitsValue) (inputs : List ℕ) (full : Bool) (s : State) (e : Option Expected) → s.expected ≡ e → IsBetween p limits s → Settles (length p.words) limits full s (resumed p limits inputs full s e)
resumed-settles p limits inputs full s None q h = run_on-settles (code_of p s.thread) (length p.words) limits inputs full s
resumed-settles p limits inputs full s (Some e) q h = second-settles (length p.words) limits full s e q (h.word e q) (h.instr e q)

-- and then it has something pending
pub settled-settles : (p : ProgramValue) (limits : LimitsValue) (inputs : List ℕ) (full : Bool) (s : State) → IsBetween p limits s → Settles (length p.words) limits full s (settled p limits inputs full s)
settled-settles p limits inputs full s h = let P : State → Type 0 = λ n. Settles (length p.words) limits full s n in
    subst P (sym (settled-none p limits inputs full s s.expected h.pending refl)) (resumed-settles p limits inputs full s s.expected refl h)
