-- Threads in groups, of which each takes turns on a worker of its own.
use Rattle.std.specs.Prelude.{◌≡◌, ℕ, zero, suc, ◌+◌, ◌-◌, ◌%◌, ◌==◌, ◌<◌, ◌≤◌, Bool, true, false, List, All, length, map, reverse, slice_index_or}
use Rattle.std.specs.List.{filter, range_with_len, sum_by}
use Rattle.std.specs.Global.{Vec}
use Rattle.machine.specs.Programs.{ProgramValue, LimitsValue, code_of}
use Rattle.machine.specs.Inputs.{InputsValue, inputs_of}
use Rattle.tagged_words.specs.Views.{SharedWords, Progress}
use Rattle.recorder.specs.declared.thread_runs.Finished.{Finished}
use Rattle.running_thread.specs.Running.{puts_out}
use Rattle.recorder.specs.Running.{Running, IsSame, IsAtEnd, new_runner}
use Rattle.recorder.specs.Gathered.{IsReady, IsDone, HasBegunIn, thread_of_hand, thread_in}

-- ---- turns

-- it has taken n more steps, or has ended
abbrev pub RanFor : Running → Bool → ℕ → Running → Type 0
RanFor old true n new = (length new.hand.steps ≡ length old.hand.steps + n) × (length new.hand.steps ≤ old.limits.steps)
RanFor old false n new = (length old.hand.steps ≤ length new.hand.steps) × IsAtEnd new

-- a thread of this program at these words
pub record RunsIn (words : SharedWords) (p : ProgramValue) (limits : LimitsValue) (inputs : InputsValue) (r : Running) : Type 0 where
  pub program : r.program ≡ p
  pub bounds : r.limits ≡ limits
  pub list : r.list ≡ inputs_of inputs r.hand.thread
  pub own : r.hand.words ≡ words

abbrev pub hand_of : Running → Progress
hand_of r = r.hand

-- its code has an instruction that puts out a value
abbrev pub MayPutOut : Running → Type 0
MayPutOut r = puts_out (code_of r.program r.hand.thread) ≡ true

-- at each place the same thread
pub record AreSame (old new : List Running) : Type 0 where
  pub count : length new ≡ length old
  pub each : (k : ℕ) (d : Running) → k < length old → IsSame (slice_index_or old k d) (slice_index_or new k d)

-- how many steps they may still take, all together
abbrev pub steps_left : List Running → ℕ
steps_left runners = sum_by (λ r. r.limits.steps - length r.hand.steps) runners

-- it ran for so many steps, or to its end
abbrev pub TookTurn : ℕ → Running → Running → Type 0
TookTurn slice old new = (goes_on : Bool) × RanFor old goes_on slice new

-- after a turn of each, in a round: where one is left that has not ended, there are fewer steps left
pub record TookTurns (slice : ℕ) (old : List Running) (left : Bool) (new : List Running) : Type 0 where
  pub each : (k : ℕ) (d : Running) → k < length old → TookTurn slice (slice_index_or old k d) (slice_index_or new k d)
  pub fewer : left ≡ true → steps_left new < steps_left old
  pub ended : left ≡ false → All IsAtEnd new

-- so many rounds lead from the first ones to the last ones
abbrev pub TookRounds : ℕ → ℕ → List Running → List Running → Type 0
TookRounds slice zero firsts lasts = lasts ≡ firsts
TookRounds slice (suc n) firsts lasts = (before : List Running) × (left : Bool) × TookRounds slice n firsts before × TookTurns slice before left lasts

-- rounds lead from the first ones to the last ones
abbrev pub RanInRounds : ℕ → List Running → List Running → Type 0
RanInRounds slice firsts lasts = (n : ℕ) × TookRounds slice n firsts lasts

-- it is at its start
abbrev pub IsAtStart : ProgramValue → LimitsValue → InputsValue → Running → Type 0
IsAtStart p limits inputs r = r ≡ new_runner p limits (inputs_of inputs r.hand.thread) r.hand

-- rounds led the threads of these hands from their starts to where those hands are; the runners stand the last one first
pub record WentInRounds (slice : ℕ) (p : ProgramValue) (limits : LimitsValue) (inputs : InputsValue) (hands ends : List Progress) : Type 0 where
  pub firsts : List Running
  pub lasts : List Running
  pub started : All (IsAtStart p limits inputs) firsts
  pub begin : reverse (map hand_of firsts) ≡ hands
  pub rounds : RanInRounds slice firsts lasts
  pub end : reverse (map hand_of lasts) ≡ ends

-- wherever these ran, that is what came of them
abbrev pub CameOf : List Running → List Finished → Type 0
CameOf runners all =
    (words : SharedWords) (p : ProgramValue) (limits : LimitsValue) (inputs : InputsValue) →
    All (RunsIn words p limits inputs) runners → All (IsDone words p limits inputs) all

-- wherever these ran, the hands have begun there, if those before them have
abbrev pub HaveBegun : List Running → List Progress → List Progress → Type 0
HaveBegun runners before hands =
    (words : SharedWords) (p : ProgramValue) (limits : LimitsValue) (inputs : InputsValue) → All (RunsIn words p limits inputs) runners →
    All (HasBegunIn p limits inputs) before → All (HasBegunIn p limits inputs) hands

-- ---- workers

-- the part of a worker: those whose number is the worker's modulo the number of workers
abbrev pub share : {X : Type 0} → (X → ℕ) → ℕ → List X → ℕ → List X
share number workers xs worker = filter (λ x. number x % workers == worker) xs

-- the part of each worker
abbrev pub shares : {X : Type 0} → (X → ℕ) → ℕ → List X → List (List X)
shares number workers xs = map (share number workers xs) (range_with_len 0 workers)

abbrev pub hands_in : Vec Progress → List Progress
hands_in group = group.items

abbrev pub threads_of : Vec Progress → List ℕ
threads_of group = map thread_of_hand group.items

abbrev pub threads_in : Vec Finished → List ℕ
threads_in group = map thread_in group.items

abbrev pub AreReady : SharedWords → ProgramValue → Vec Progress → Type 0
AreReady words p group = All (IsReady words p) group.items

-- what these groups need to run at these words, for turns of so many steps
abbrev pub MayRun : SharedWords → ProgramValue → InputsValue → ℕ → List (Vec Progress) → Type 0
MayRun words p inputs slice groups =
    All (AreReady words p) groups × (length words.start.initial ≡ length p.words) × (length inputs ≡ length p.threads) × (1 ≤ slice)

abbrev pub AreDone : SharedWords → ProgramValue → LimitsValue → InputsValue → Vec Finished → Type 0
AreDone words p limits inputs group = All (IsDone words p limits inputs) group.items

-- wherever these groups ran, that is what came of their threads
abbrev pub CameOfGroups : List (Vec Finished) → List Finished → Type 0
CameOfGroups groups all =
    (words : SharedWords) (p : ProgramValue) (limits : LimitsValue) (inputs : InputsValue) →
    All (AreDone words p limits inputs) groups → All (IsDone words p limits inputs) all
