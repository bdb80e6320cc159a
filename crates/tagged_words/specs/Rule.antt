-- The rule of the shared words, which holds between any two of their steps, and what each kind of step tells its seat.
use Rattle.std.specs.Prelude.{◌≡◌, ℕ, zero, suc, ◌+◌, ◌/◌, ◌%◌, ◌^◌, ◌<◌, ◌≤◌, Option, Some, None, IfSome, List, [], ◌∷◌, ◌++◌, map, length, All, Contains}
use mathlib.Core.Option.{some}
use lib.ListN.{get_elem?}
use Rattle.atomic_table.specs.Table.{State, Me, Step as TableStep}
use Rattle.atomic_table.specs.Seated.{TableId}
use Rattle.light_base.specs.Tags.{IsTag, step_end}
use Rattle.light_base.specs.Cells.{packed, unpacked}
use Rattle.light_base.specs.declared.tag.Cell.{Cell}
use Rattle.replay_model.specs.declared.Want.{Want}
use Rattle.replay_model.specs.Steps.{Step, wrote, initial_cells}
use Rattle.replay_model.specs.declared.Want.TheVariants.{Load, Store, Swap, Cond}
use Rattle.replay_model.specs.WordSteps.{WordStep, part, Folds}
use Rattle.tagged_words.specs.Views.{Start, Part, View, Progress}

-- each number is held by one seat at most, and the list beside it is the number's part of all steps
abbrev pub FitsPart : List WordStep → (ℕ → ℕ) → ℕ → Part → Type 0
FitsPart list holder id p = (holder p.thread ≡ id) × (part p.thread list ≡ p.steps)

-- a step of one of the threads, with a number that a tag can name and a value of 32 bits
abbrev pub FitsIn : Start → WordStep → Type 0
FitsIn start e = (e.thread < start.threads) × (e.number < step_end) × IfSome (wrote e.want e.found) (λ v. v < 2 ^ 32)

-- the list leads from the initial cells to those that the words hold, and each seat knows its part of it
pub record IsKept (start : Start) (s : State (Unit {0}) View) (list : List WordStep) (cells : List Cell) (holder : ℕ → ℕ) : Type 0 where
  pub initial : All (λ v. v < 2 ^ 32) start.initial
  pub folds : Folds [] (initial_cells start.initial) list cells
  pub fitting : All (FitsIn start) list
  pub held : s.words ≡ map packed cells
  pub known : (id : ℕ) (v : View) → get_elem? s.views id ≡ some v → All (FitsPart list holder id) v.parts

abbrev pub Recorded : Start → State (Unit {0}) View → Type 0
Recorded start s = (list : List WordStep) × (cells : List Cell) × (holder : ℕ → ℕ) × IsKept start s list cells holder

-- so many numbers from `from` on, with no steps yet
abbrev pub fresh : ℕ → ℕ → List Part
fresh from zero = []
fresh from (suc n) = record { thread = from; steps = [] } ∷ fresh (from + 1) n

-- the first seat has the numbers of all threads
abbrev pub everyone : Start → View
everyone start = record { start = start; parts = fresh 0 start.threads }

-- what a seat has: its view, and no slot
abbrev pub Knows : Type 0
Knows = Me (Unit {0}) View

-- a seat that has so many numbers from `from` on, whose threads have taken no step
abbrev pub seat_of : Start → ℕ → ℕ → Knows
seat_of start from count = (record { start = start; parts = fresh from count }, [])

-- a seat that has one number
abbrev pub alone : Start → ℕ → List Step → Knows
alone start thread steps = (record { start = start; parts = record { thread = thread; steps = steps } ∷ [] }, [])

abbrev pub own_thread : List Part → ℕ
own_thread [] = 0
own_thread (p ∷ ps) = p.thread

abbrev pub own_steps : List Part → List Step
own_steps [] = []
own_steps (p ∷ ps) = p.steps

-- what a thread did at the words of a table, as its seat there knows
abbrev pub progress_of : TableId → Knows → ℕ → Progress
progress_of table me thread = record { words = record { table = table; start = me.0.start }; thread = thread; steps = own_steps me.0.parts }

-- the steps are the thread's part of some list of steps that can come from the start on
abbrev pub IsPart : Start → ℕ → List Step → Type 0
IsPart start thread steps = (list : List WordStep) × (cells : List Cell) × Folds [] (initial_cells start.initial) list cells × (part thread list ≡ steps)

-- the first list with one more step
abbrev pub grown : List Part → Want → Option Cell → List Part
grown [] want found = []
grown (p ∷ ps) want found = record { thread = p.thread; steps = p.steps ++ record { want = want; found = found } ∷ [] } ∷ ps

-- the seat's own list has one more step, and is a part of what happened
abbrev pub Grows : Knows → Want → Option Cell → Knows → Type 0
Grows me want found after =
    (after ≡ (record { start = me.0.start; parts = grown me.0.parts want found }, me.1)) × IsPart me.0.start (own_thread after.0.parts) (own_steps after.0.parts)

abbrev pub loads : TableStep (Unit {0}) → Knows → ℕ → Knows → Type 0
loads s me n after = IsTag (n % 2 ^ 32) × Grows me (Load s.word) (Some (unpacked n)) after

abbrev pub stores : TableStep (Unit {0}) → Knows → ℕ → Knows → Type 0
stores s me n after = Grows me (Store s.word (s.first / 2 ^ 32)) None after

abbrev pub swaps : TableStep (Unit {0}) → Knows → ℕ → Knows → Type 0
swaps s me n after = IsTag (n % 2 ^ 32) × Grows me (Swap s.word (s.first / 2 ^ 32)) (Some (unpacked n)) after

-- an equal tag on one word means an equal cell, so the word was exchanged exactly where it had the tag that was expected
abbrev pub conds : TableStep (Unit {0}) → Knows → ℕ → Knows → Type 0
conds s me n after =
    IsTag (n % 2 ^ 32) × ((unpacked n).tag ≡ (unpacked s.first).tag → n ≡ s.first) ×
    Grows me (Cond s.word (unpacked s.first).tag (s.second / 2 ^ 32)) (Some (unpacked n)) after

-- the first number of a view, and the others
abbrev pub first_part : View → View
first_part v = record { start = v.start; parts = firsts v.parts }
  where
    firsts : List Part → List Part
    firsts [] = []
    firsts (p ∷ ps) = p ∷ []

abbrev pub other_parts : View → View
other_parts v = record { start = v.start; parts = others v.parts }
  where
    others : List Part → List Part
    others [] = []
    others (p ∷ ps) = ps

-- the numbers of two views
abbrev pub joined : View → View → View
joined v w = record { start = v.start; parts = v.parts ++ w.parts }

-- a seat whose numbers went to another has none
abbrev pub spent : View
spent = record { start = record { initial = []; threads = 0 }; parts = [] }

-- the seat of a hand: it has the number of one of at most 15 threads alone, and as many steps as the hand counts
pub record IsSeated (me : Knows) (thread steps : ℕ) : Type 0 where
  pub one : me ≡ alone me.0.start thread (own_steps me.0.parts)
  pub counted : length (own_steps me.0.parts) ≡ steps
  pub within : thread < me.0.start.threads
  pub few : me.0.start.threads ≤ 15

-- a table with a word for each initial value and no slot, for 1 to 15 threads
pub record IsTable (table : TableId) (start : Start) : Type 0 where
  pub words : table.words ≡ length start.initial
  pub some_word : 1 ≤ length start.initial
  pub slots : table.slots ≡ 0
  pub some_thread : 1 ≤ start.threads
  pub few : start.threads ≤ 15

-- the view has the number and the list of this hand
abbrev pub HasPart : View → Progress → Type 0
HasPart v hand = Contains v.parts (record { thread = hand.thread; steps = hand.steps })
