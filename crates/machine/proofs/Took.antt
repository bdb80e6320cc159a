-- What a memory step does to a thread.
use Rattle.std.proofs.Common.{◌≡◌, ℕ, ◌+◌, ◌≤◌, Bool, true, false, cond, eqb, length, refl, sym, ◌∙◌, ap, arith}
use Rattle.std.specs.Prelude.{Option, Some, None}
use Rattle.light_base.specs.declared.tag.Cell.{Cell}
use Rattle.replay_model.specs.Steps.{has_ended, word_of, same_tag}
use Rattle.replay_model.specs.declared.Want.{Want}
use Rattle.replay_model.specs.declared.Want.TheVariants as want
use Rattle.replay_model.specs.declared.End.TheVariants as end
use Rattle.machine.specs.declared.cores.Expected.{Expected}
use Rattle.machine.specs.Programs.{ProgramValue, LimitsValue}
use Rattle.machine.specs.Cores.{State, pending_want, want_or, register, is_cas, step_done, told, given, compared, cas_found, found, took}
use Rattle.machine.proofs.Rests.{MayBeTaken, IsBetween}

-- the second step of a compare-exchange is left: its load found the tag that is expected in the word that it wanted
pub record IsHalf (s : State) (cell : Option Cell) (new : State) (e : Expected) : Type 0 where
  pub wanted : pending_want s ≡ want.Load e.word
  pub seen : Cell
  pub was : cell ≡ Some seen
  pub tag : seen.tag ≡ e.tag
  pub instr : new.instr ≡ s.instr

-- a memory step counts, and nothing is pending after it
pub record Takes (s : State) (cell : Option Cell) (new : State) : Type 0 where
  pub thread : new.thread ≡ s.thread
  pub steps : new.steps ≡ s.steps + 1
  pub instr : new.instr ≤ s.instr + 1
  pub taken : new.taken ≡ s.taken
  pub pending : new.pending ≡ None
  pub half : (e : Expected) → new.expected ≡ Some e → IsHalf s cell new e

-- one that ends its instruction
done_takes : (s t : State) (cell : Option Cell) → t.thread ≡ s.thread → t.steps ≡ s.steps → t.instr ≡ s.instr → t.taken ≡ s.taken → Takes s cell (step_done t)
done_takes s t cell thread steps instr taken = record { thread = thread; steps = ap (λ n. n + 1) steps; instr = omega arith; taken = taken; pending = refl; half = λ e h. absurd cc }

-- either of two
either_takes : (s : State) (cell : Option Cell) (b : Bool) (x y : State) → Takes s cell x → Takes s cell y → Takes s cell (cond b x y)
either_takes s cell true x y p q = p
either_takes s cell false x y p q = q

-- the load of a compare-exchange
compared_takes : (s : State) (word : ℕ) (cell : Cell) → pending_want s ≡ want.Load word → Takes s (Some cell) (compared s word cell)
compared_takes s word cell h =
    either_takes s (Some cell) (eqb cell.value (register s s.doing.a)) _ _ (record {
      thread = refl;
      steps = refl;
      instr = omega arith;
      taken = refl;
      pending = refl;
      half = λ e q.
          let x : record { word = word; tag = cell.tag } ≡ e = cc in
          record { wanted = h ∙ ap (λ (y : Expected). want.Load y.word) x; seen = cell; was = refl; tag = ap (λ (y : Expected). y.tag) x; instr = refl };
    }) (done_takes s (told (given s cell) 0) (Some cell) refl refl refl refl)

cas_found_takes : (s : State) (wanted : Want) (cell : Cell) → pending_want s ≡ wanted → Takes s (Some cell) (cas_found s wanted cell)
cas_found_takes s (want.Load word) cell h = compared_takes s word cell h
cas_found_takes s (want.Cond word seen value) cell h =
    either_takes s (Some cell) (same_tag cell.tag seen) _ _ (done_takes s (told s 1) (Some cell) refl refl refl refl) (done_takes s (told (given s cell) 2) (Some cell) refl refl refl refl)
cas_found_takes s _ cell h = done_takes s (given s cell) (Some cell) refl refl refl refl

found_takes : (s : State) (wanted : Want) (cell : Cell) → pending_want s ≡ wanted → Takes s (Some cell) (found s wanted cell)
found_takes s wanted cell h = either_takes s (Some cell) (is_cas s.doing.op) _ _ (cas_found_takes s wanted cell h) (done_takes s (given s cell) (Some cell) refl refl refl refl)

pub took_takes : (s : State) (cell : Option Cell) → Takes s cell (took s cell)
took_takes s None = done_takes s s None refl refl refl refl
took_takes s (Some cell) = found_takes s (pending_want s) cell refl

-- no second step is left where there is no load
no_half : (o : Option Expected) → ((e : Expected) → o ≡ Some e → ⊥) → o ≡ None
no_half None h = refl
no_half (Some e) h = absurd (h e refl)

-- after a memory step that a thread may take it goes on; one that the program does not have has ended
pub took_between : (p : ProgramValue) (limits : LimitsValue) (s : State) (wanted : Want) (cell : Option Cell) → s.pending ≡ Some wanted → (has_ended wanted ≡ false → MayBeTaken (length p.words) limits s wanted) →
    (length p.threads ≤ s.thread → has_ended wanted ≡ true) → IsBetween p limits (took s cell)
took_between p limits s wanted cell pending step past =
    let t = took_takes s cell in
    let is : pending_want s ≡ wanted = ap (want_or (want.Ended end.Halted)) pending in
    let lives : (e : Expected) → (took s cell).expected ≡ Some e → has_ended wanted ≡ false = λ e q. ap has_ended (sym is ∙ (t.half e q).wanted) in
    record {
      pending = t.pending;
      word = λ e q. (let w = ap word_of (sym is ∙ (t.half e q).wanted) in let m = (step (lives e q)).word in omega (arith, w, m));
      instr = λ e q. (let i = (t.half e q).instr in let m = (step (lives e q)).instr in omega (arith, i, m));
      past = λ over.
          no_half (took s cell).expected (λ e q. let l = lives e q in let thread = t.thread in let there : length p.threads ≤ s.thread = omega (arith, thread, over) in let ends = past there in cc);
    }
