-- Threads that run scripts meet all premises of the laws.
use Rattle.std.proofs.Common.{◌≡◌, ℕ, ◌<◌, ◌≤◌, Bool, true, false, cond, List, length, take, refl, sym, ◌∙◌, ap, arith, inl, inr, ◌⊎◌}
use Rattle.std.specs.Prelude.{◌&&◌, nat_le, slice_index_or}
use Rattle.std.proofs.lemmas.List.{get_or_past, length-take-le}
use Rattle.std.proofs.lemmas.Bool.{cases_Bool, leb-false, leb-true}
use Rattle.replay_model.specs.Steps.{Step, word_of, has_ended, reads}
use Rattle.replay_model.specs.declared.Want.{Want}
use Rattle.replay_model.specs.declared.Want.TheVariants.{Ended}
use Rattle.replay_model.specs.declared.End.TheVariants.{Halted, BadAddress, StepsSpent, EntriesFull}
use Rattle.replay_model.specs.Threads.{StaysWithin, HasOnly, EndsWithin, IsRun}
use Rattle.replay_model.specs.ThreadLogs.{is_full}
use Rattle.replay_model.specs.Logs.{Limits}
use Rattle.replay_model.specs.KeptLimits.{KeepsLimits}
use Rattle.replay_laws.specs.Scripts.{Script, silent, cells_found, guarded, script_threads, one_each, ScriptsMeetThePremises}

-- the cases of the guard
pub guard_cases : (size : ℕ) (limits : Limits) (steps : List Step) (want : Want) (P : Want → Type 0) →
    P (Ended Halted) → (size ≤ word_of want → P (Ended (BadAddress (word_of want)))) → P (Ended StepsSpent) → P (Ended EntriesFull) →
    (has_ended want ≡ false → word_of want < size → length steps < limits.steps → (reads want && is_full limits.entries steps) ≡ false → P want) →
    P (guarded size limits steps want)
guard_cases size limits steps want P halted bad spent full live = one (has_ended want) refl
  where
    four : (b : Bool) → (reads want && is_full limits.entries steps) ≡ b → has_ended want ≡ false → word_of want < size → length steps < limits.steps → P (cond b (Ended EntriesFull) want)
    four true q e w l = full
    four false q e w l = live e w l q

    three : (b : Bool) → nat_le limits.steps (length steps) ≡ b → has_ended want ≡ false → word_of want < size →
        P (cond b (Ended StepsSpent) (cond (reads want && is_full limits.entries steps) (Ended EntriesFull) want))
    three true q e w = spent
    three false q e w = four (reads want && is_full limits.entries steps) refl e w (leb-false limits.steps (length steps) q)

    two : (b : Bool) → nat_le size (word_of want) ≡ b → has_ended want ≡ false →
        P (cond b (Ended (BadAddress (word_of want))) (cond (nat_le limits.steps (length steps)) (Ended StepsSpent) (cond (reads want && is_full limits.entries steps) (Ended EntriesFull) want)))
    two true q e = bad (leb-true size (word_of want) q)
    two false q e = three (nat_le limits.steps (length steps)) refl e (leb-false size (word_of want) q)

    one : (b : Bool) → has_ended want ≡ b →
        P (cond b (Ended Halted) (cond (nat_le size (word_of want)) (Ended (BadAddress (word_of want))) (cond (nat_le limits.steps (length steps)) (Ended StepsSpent) (cond (reads want && is_full limits.entries steps) (Ended EntriesFull) want))))
    one true q = halted
    one false q = two (nat_le size (word_of want)) refl q

-- the guard lets no word pass that is not there
pub guard_within : (size : ℕ) (limits : Limits) (steps : List Step) (want : Want) → has_ended (guarded size limits steps want) ≡ false → word_of (guarded size limits steps want) < size
guard_within size limits steps want = guard_cases size limits steps want (λ w. has_ended w ≡ false → word_of w < size) (λ q. cc q) (λ l q. cc q) (λ q. cc q) (λ q. cc q) (λ e w l f q. w)

-- it ends a thread at the limit of steps
pub guard_ends : (size : ℕ) (limits : Limits) (steps : List Step) (want : Want) → limits.steps ≤ length steps → has_ended (guarded size limits steps want) ≡ true
guard_ends size limits steps want l = guard_cases size limits steps want (λ w. has_ended w ≡ true) refl (λ b. refl) refl refl (λ e w s f. absurd (omega arith))

-- it lets nothing be read by a full log
pub guard_room : (size : ℕ) (limits : Limits) (steps : List Step) (want : Want) → reads (guarded size limits steps want) ≡ true → is_full limits.entries steps ≡ false
guard_room size limits steps want = guard_cases size limits steps want (λ w. reads w ≡ true → is_full limits.entries steps ≡ false) (λ q. cc q) (λ l q. cc q) (λ q. cc q) (λ q. cc q)
    (λ e w l f q. sym (ap (λ (b : Bool). b && is_full limits.entries steps) q) ∙ f)

-- it calls no address bad that a word has
pub guard_addresses : (size : ℕ) (limits : Limits) (steps : List Step) (want : Want) (address : ℕ) → guarded size limits steps want ≡ Ended (BadAddress address) → size ≤ address
guard_addresses size limits steps want address = guard_cases size limits steps want (λ w. w ≡ Ended (BadAddress address) → size ≤ address)
    (λ q. cc q) (λ l q. let e : word_of want ≡ address = cc q in omega arith) (λ q. cc q) (λ q. cc q)
    (λ e w l f q. let no : false ≡ true = sym e ∙ ap has_ended q in cc no)

module _ (scripts : List Script) (size : ℕ) (limits : Limits) where
  -- no script asks for a word that is not there
  pub script_within : StaysWithin (script_threads scripts size limits) size
  script_within t steps e = guard_within size limits steps (slice_index_or {A = Script} scripts t silent (cells_found steps)) e

  -- threads are no more than their scripts
  pub script_only : HasOnly (script_threads scripts size limits) (length {A = Script} scripts)
  script_only t steps l =
      ap (λ (s : Script). has_ended (guarded size limits steps (s (cells_found steps)))) (get_or_past {X = Script} scripts t silent l)

  -- each ends within the limit of steps
  pub script_ends : EndsWithin (script_threads scripts size limits) limits.steps
  script_ends t steps l = guard_ends size limits steps (slice_index_or {A = Script} scripts t silent (cells_found steps)) l

  -- and keeps to the other limits
  pub script_keeps : limits.steps ≤ limits.instr → KeepsLimits (script_threads scripts size limits) one_each size limits
  script_keeps le = record {
    counts = λ t steps run. short t steps run (cases_Bool (nat_le (length steps) limits.steps));
    taken = λ t steps run. omega arith;
    room = λ t steps r. guard_room size limits steps (slice_index_or {A = Script} scripts t silent (cells_found steps)) r;
    addresses = λ t steps address q. guard_addresses size limits steps (slice_index_or {A = Script} scripts t silent (cells_found steps)) address q;
  }
    where
      short : (t : ℕ) (steps : List Step) → IsRun (script_threads scripts size limits) t steps → (nat_le (length steps) limits.steps ≡ true) ⊎ (nat_le (length steps) limits.steps ≡ false) → length steps ≤ limits.instr
      short t steps run (inl q) = let x = leb-true (length steps) limits.steps q in omega arith
      short t steps run (inr q) =
          let x = leb-false (length steps) limits.steps q in
          let k : length (take limits.steps steps) ≡ limits.steps = length-take-le limits.steps steps (omega arith) in
          let ended : has_ended (script_threads scripts size limits t (take limits.steps steps)) ≡ true = script_ends t (take limits.steps steps) (omega (arith, k)) in
          let lives : has_ended (script_threads scripts size limits t (take limits.steps steps)) ≡ false = ap has_ended (run.wants limits.steps x) ∙ run.lives limits.steps x in
          let z : true ≡ false = sym ended ∙ lives in cc z

-- all premises of the laws
pub scripts_meet : ScriptsMeetThePremises
scripts_meet scripts size limits = (script_within scripts size limits, script_only scripts size limits, script_ends scripts size limits, script_keeps scripts size limits)
