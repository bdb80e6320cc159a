-- The input numbers of a program: a list for each thread.
use Rattle.std.specs.Prelude.{ℕ, ◌≤◌, Bool, not, ◌&&◌, nat_lt, List, [], length, slice_index_or, map, All}
use Rattle.std.specs.Global.{Vec}
use Rattle.std.specs.List.{list_all}
pub use Rattle.replay_model.specs.Bounds.{most_inputs}
use Rattle.machine.specs.Faults.{is_count}

-- the input numbers of a program, the list of thread 0 first
abbrev pub InputsValue : Type 0
InputsValue = List (List ℕ)

-- the list of a thread; one past the last has no numbers
abbrev pub inputs_of : InputsValue → ℕ → List ℕ
inputs_of inputs t = slice_index_or inputs t []

-- a list that has no more numbers than a thread may take
abbrev pub is_short_count : ℕ → Bool
is_short_count count = not (nat_lt most_inputs count)

abbrev pub is_short_list : List ℕ → Bool
is_short_list list = is_short_count (length list)

-- no list has more numbers than a thread may take
abbrev pub AreShort : InputsValue → Type 0
AreShort inputs = All (λ (list : List ℕ). length list ≤ most_inputs) inputs

-- the rules of inputs
pub record AreInputs (inputs : InputsValue) : Type 0 where
  pub some_threads : 1 ≤ length inputs
  pub most_threads : length inputs ≤ 15
  pub short : AreShort inputs

-- vectors of numbers, each as the list of its numbers
abbrev pub input_lists : List (Vec ℕ) → InputsValue
input_lists lists = map (λ list. list.items) lists

-- whether lists keep the rules of inputs
abbrev pub are_inputs : InputsValue → Bool
are_inputs inputs = is_count 15 (length inputs) && list_all is_short_list inputs
