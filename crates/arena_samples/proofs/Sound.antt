-- An arena is a program.
use Rattle.std.proofs.Common.{◌≡◌, ◌∙◌, ℕ, zero, suc, ◌+◌, ◌*◌, ◌≤◌, true, not, nat_lt, List, [], ◌∷◌, ◌++◌, length, refl, ap, subst, sym, arith, lit≤, length-append}
use Rattle.std.specs.List.{All, range_with_len}
use Rattle.std.proofs.lemmas.List.Elements.{All-cons, All-nil, All-append, All-map}
use Rattle.std.proofs.lemmas.List.FromFn.{length-map-range_with_len}
use Rattle.machine.specs.declared.program.Instr.{Instr}
use Rattle.machine.specs.declared.program.Op.TheVariants as op
use Rattle.machine.specs.Programs.{IsInstr, IsCode, IsProgram}
use Rattle.arena_samples.specs.declared.arenas.Move.{Move}
use Rattle.arena_samples.specs.Draws.{state_after}
use Rattle.arena_samples.specs.Arenas.{instr, move_code, move_from, moves_code, thread_code, arena_of}
use Rattle.arena_samples.proofs.Ranges.{flat_map-numbers}

-- a place that is not past the end of the code
no_less : (len imm : ℕ) → imm ≤ len → not (nat_lt len imm) ≡ true
no_less len imm h = grind arith

-- all of a list of instructions keep the rules, one by one
abbrev Each : ℕ → List Instr → Type 0
Each len [] = Unit {0}
Each len (i ∷ is) = IsInstr len i × Each len is

all_of_each : (len : ℕ) (is : List Instr) → Each len is → All (IsInstr len) is
all_of_each len [] each = All-nil (IsInstr len)
all_of_each len (i ∷ is) (rules, each) = All-cons (IsInstr len) i is rules (all_of_each len is each)

-- a move's instructions keep the rules in a code that does not end before them
move_each : (len place : ℕ) (m : Move) → place + 16 ≤ len → Each len (move_code place m)
unfolding move_code
move_each len place m h =
    let again = no_less len (place + 1) (omega arith) in
    let free = no_less len (place + 15) (omega arith) in
    let skip = no_less len (place + 16) h in (
      record { registers = refl; idle = refl; target = refl },
      (
        record { registers = refl; idle = refl; target = skip },
        (
          record { registers = refl; idle = refl; target = refl },
          (
            record { registers = refl; idle = refl; target = refl },
            (
              record { registers = refl; idle = refl; target = again },
              (
                record { registers = refl; idle = refl; target = refl },
                (
                  record { registers = refl; idle = refl; target = again },
                  (
                    record { registers = refl; idle = refl; target = refl },
                    (
                      record { registers = refl; idle = refl; target = refl },
                      (
                        record { registers = refl; idle = refl; target = free },
                        (
                          record { registers = refl; idle = refl; target = refl },
                          (
                            record { registers = refl; idle = refl; target = refl },
                            (
                              record { registers = refl; idle = refl; target = refl },
                              (
                                record { registers = refl; idle = refl; target = refl },
                                (
                                  record { registers = refl; idle = refl; target = refl },
                                  (record { registers = refl; idle = refl; target = refl }, tt),
                                ),
                              ),
                            ),
                          ),
                        ),
                      ),
                    ),
                  ),
                ),
              ),
            ),
          ),
        ),
      ),
    )

move_sound : (len place : ℕ) (m : Move) → place + 16 ≤ len → All (IsInstr len) (move_code place m)
move_sound len place m h = all_of_each len (move_code place m) (move_each len place m h)

move_length : (place : ℕ) (m : Move) → length (move_code place m) ≡ 16
unfolding move_code
move_length place m = refl

-- the first moves
moves_length : (x n : ℕ) → length (moves_code x n) ≡ 16 * n
moves_length x zero = refl
moves_length x (suc n) =
    let code : ℕ → List Instr = λ i. move_code (1 + 16 * i) (move_from (state_after x (3 * i))) in
    let more : moves_code x (suc n) ≡ moves_code x n ++ code n = flat_map-numbers code n in
    let last : length (code n) ≡ 16 = move_length (1 + 16 * n) (move_from (state_after x (3 * n))) in
    let before : length (moves_code x n) ≡ 16 * n = moves_length x n in
    let all : length (moves_code x (suc n)) ≡ length (moves_code x n) + length (code n) = ap length more ∙ length-append (moves_code x n) (code n) in
    omega arith

moves_sound : (len x n : ℕ) → 1 + 16 * n ≤ len → All (IsInstr len) (moves_code x n)
moves_sound len x zero h = All-nil (IsInstr len)
moves_sound len x (suc n) h =
    let code : ℕ → List Instr = λ i. move_code (1 + 16 * i) (move_from (state_after x (3 * i))) in
    let more : moves_code x (suc n) ≡ moves_code x n ++ code n = flat_map-numbers code n in
    let before : All (IsInstr len) (moves_code x n) = moves_sound len x n (omega arith) in
    let last : All (IsInstr len) (code n) = move_sound len (1 + 16 * n) (move_from (state_after x (3 * n))) (omega arith) in
    let P : List Instr → Type 0 = λ is. All (IsInstr len) is in
    subst P (sym more) (All-append (IsInstr len) (moves_code x n) (code n) before last)

-- a thread's first instruction keeps the rules wherever it stands
first_sound : (len : ℕ) → IsInstr len (instr op.Const 2 0 1)
first_sound len = record { registers = refl; idle = refl; target = refl }

thread_sound : (x : ℕ) → IsCode (thread_code x)
thread_sound x =
    let moves : length (moves_code x 16) ≡ 256 = moves_length x 16 in
    let len : ℕ = length (thread_code x) in
    let long : len ≡ 257 = omega arith in
    record {
      short = omega arith;
      each = All-cons (IsInstr len) (instr op.Const 2 0 1) (moves_code x 16) (first_sound len) (moves_sound len x 16 (omega arith));
    }

pub arena_sound : (number : ℕ) → IsProgram (arena_of number)
unfolding arena_of
arena_sound number = record {
  some_words = lit≤ tt;
  most_words = lit≤ tt;
  some_threads = omega (arith, length-map-range_with_len (λ t. thread_code (state_after number (48 * t))) 0 8);
  most_threads = omega (arith, length-map-range_with_len (λ t. thread_code (state_after number (48 * t))) 0 8);
  each = All-map IsCode (λ t. thread_code (state_after number (48 * t))) (range_with_len 0 8) (λ k t h. thread_sound _);
}
