-- Lists of inputs: which keep the rules.
use Rattle.std.proofs.Common.{◌≡◌, ℕ, ◌<◌, ◌≤◌, true, length, get_or, List, [], sym, ap, ◌∙◌, arith, inl, inr}
use Rattle.std.specs.Global.{Vec}
use Rattle.std.specs.List.{list_all}
use Rattle.std.proofs.lemmas.Bool.{cases_lt, and_parts, and_from, not-true, not_from_false, ltb-false, le-ltb}
use Rattle.std.proofs.lemmas.List.{get_or-map, get_or_past}
use Rattle.std.proofs.lemmas.List.Elements.{All-get_or}
use Rattle.std.proofs.lemmas.List.Sums.{AllPass-from_list_all, list_all-from_AllPass}
use Rattle.machine.specs.Faults.{is_count}
use Rattle.machine.specs.Inputs.{InputsValue, AreInputs, AreShort, are_inputs, input_lists, inputs_of, is_short_list, most_inputs}
use Rattle.machine.proofs.Rules.{count_holds, is_count_from}

-- the lists are short exactly where the test of each says so
pub short_from : (inputs : InputsValue) → list_all is_short_list inputs ≡ true → AreShort inputs
short_from inputs h = λ t d lt. ltb-false most_inputs _ (not-true _ (AllPass-from_list_all is_short_list inputs h t d lt))

pub short_test : (inputs : InputsValue) → AreShort inputs → list_all is_short_list inputs ≡ true
short_test inputs short = list_all-from_AllPass is_short_list inputs (λ t d lt. not_from_false _ (le-ltb most_inputs _ (short t d lt)))

-- the list of each thread is short
pub short_list : (inputs : InputsValue) → AreShort inputs → (t : ℕ) → length (inputs_of inputs t) ≤ most_inputs
short_list inputs short t =
    elim (cases_lt t (length inputs)) [
      | inl lt ↦ All-get_or (λ (list : List ℕ). length list ≤ most_inputs) inputs t [] lt short
      | inr le ↦ rw (get_or_past inputs t [] le) (omega arith)
    ]

-- the rules of inputs are what is tested
pub inputs_keep : (inputs : InputsValue) → are_inputs inputs ≡ true → AreInputs inputs
inputs_keep inputs h =
    let both = and_parts (is_count 15 (length inputs)) (list_all is_short_list inputs) h in
    let count = count_holds 15 (length inputs) both.0 in
    record { some_threads = count.0; most_threads = count.1; short = short_from inputs both.1 }

pub inputs_pass : (inputs : InputsValue) → AreInputs inputs → are_inputs inputs ≡ true
inputs_pass inputs rules = and_from (is_count 15 (length inputs)) (list_all is_short_list inputs) (is_count_from 15 (length inputs) rules.some_threads rules.most_threads) (short_test inputs rules.short)

-- the list of a thread, of a vector of vectors
pub list_at : (lists : List (Vec ℕ)) (t : ℕ) (v : Vec ℕ) → t < length lists → v ≡ get_or lists t v → inputs_of (input_lists lists) t ≡ v.items
list_at lists t v lt is = get_or-map (λ (list : Vec ℕ). list.items) lists t v [] lt ∙ ap (λ (list : Vec ℕ). list.items) (sym is)
