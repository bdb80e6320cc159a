-- Reading instructions and codes one after the other, as loops do.
use Rattle.std.proofs.Common.{◌≡◌, ℕ, suc, ◌+◌, ◌-◌, ◌*◌, ◌<◌, ◌≤◌, List, [], ◌∷◌, ◌++◌, length, drop, get_or, sum, Some, Result, Ok, Err, refl, sym, ap, ◌∙◌, append_assoc, arith}
use Rattle.std.proofs.lemmas.List.Sums.{sum_by-cons}
use Rattle.std.proofs.lemmas.List.{append-nil, drop-drop, drop_more, drop_all}
use Rattle.std.specs.Int.{w32}
use Rattle.light_base.specs.Numbers.{big_endian_at}
use Rattle.light_base.proofs.Numbers.{big_endian_at-within}
use Rattle.machine.specs.Programs.{Instr, Op, op_of}
use Rattle.machine.specs.Faults.{ImageKind, ImageFault, instr_fault}
use Rattle.machine.specs.Reading.{◌>>=◌}
use Rattle.machine.specs.ImageReading.{kept, with_op, instr_at, code_at, codes_at}

pub sum-cons : (x : ℕ) (xs : List ℕ) → sum (x ∷ xs) ≡ x + sum xs
sum-cons x xs = sum_by-cons (λ (n : ℕ). n) x xs

-- what was read before, and what is still read
abbrev pub with_front : {A : Type 0} → List A → Result (List A) ImageFault → Result (List A) ImageFault
with_front front read = read >>= λ rest. Ok (front ++ rest)

with_front_more : {A : Type 0} (front : List A) (x : A) (read : Result (List A) ImageFault) → with_front front (read >>= λ rest. Ok (x ∷ rest)) ≡ with_front (front ++ x ∷ []) read
with_front_more front x (Ok rest) = ap Ok (sym (append_assoc front (x ∷ []) rest))
with_front_more front x (Err f) = refl

-- ---- instructions

-- the instruction whose operation and whose imm are read
pub instr_at_is : (len : ℕ) (bytes : List ℕ) (o : Op) (imm : ℕ) → op_of (get_or bytes 0 0) ≡ Some o → big_endian_at w32 bytes 4 ≡ Some imm
    → instr_at len bytes ≡ kept (instr_fault len (record { op = o; a = get_or bytes 1 0; b = get_or bytes 2 0; c = get_or bytes 3 0; imm = imm })) (record { op = o; a = get_or bytes 1 0; b = get_or bytes 2 0; c = get_or bytes 3 0; imm = imm })
unfolding instr_at
instr_at_is len bytes o imm e n =
    let made : ℕ → Instr = λ m. record { op = o; a = get_or bytes 1 0; b = get_or bytes 2 0; c = get_or bytes 3 0; imm = m } in
    ap (with_op len bytes) e ∙ ap (λ (m : ℕ). kept (instr_fault len (made m)) (made m)) (big_endian_at-within w32 bytes 4 imm n).1

code_next : (len thread at n : ℕ) (bytes : List ℕ) (i : Instr) (front : List Instr) → instr_at len bytes ≡ Ok i
    → with_front front (code_at len thread at (suc n) bytes) ≡ with_front (front ++ i ∷ []) (code_at len thread (at + 1) n (drop 8 bytes))
unfolding code_at
code_next len thread at n bytes i front e = rw e (with_front_more front i (code_at len thread (at + 1) n (drop 8 bytes)))

pub code_goes_on : (len thread at : ℕ) (bytes : List ℕ) (i : Instr) (front : List Instr) (total : Result (List Instr) ImageFault) → at < len → instr_at len (drop (8 * at) bytes) ≡ Ok i
    → with_front front (code_at len thread at (len - at) (drop (8 * at) bytes)) ≡ total
    → with_front (front ++ i ∷ []) (code_at len thread (at + 1) (len - (at + 1)) (drop (8 * (at + 1)) bytes)) ≡ total
code_goes_on len thread at bytes i front total lt e so_far =
    let n : len - at ≡ suc (len - (at + 1)) = omega arith in
    let place : 8 * at + 8 ≡ 8 * (at + 1) = omega arith in
    let rest : drop 8 (drop (8 * at) bytes) ≡ drop (8 * (at + 1)) bytes = drop-drop 8 (8 * at) bytes ∙ ap (λ (k : ℕ). drop k bytes) place in
    sym (ap (λ (k : ℕ). with_front front (code_at len thread at k (drop (8 * at) bytes))) n ∙ code_next len thread at (len - (at + 1)) (drop (8 * at) bytes) i front e ∙ ap (λ (xs : List ℕ). with_front (front ++ i ∷ []) (code_at len thread (at + 1) (len - (at + 1)) xs)) rest) ∙ so_far

code_stop : (len thread at n : ℕ) (bytes : List ℕ) (k : ImageKind) (front : List Instr) → instr_at len bytes ≡ Err k
    → with_front front (code_at len thread at (suc n) bytes) ≡ Err (record { kind = k; thread = thread; at = at })
unfolding code_at
code_stop len thread at n bytes k front e = rw e refl

pub code_stops : (len thread at : ℕ) (bytes : List ℕ) (k : ImageKind) (front : List Instr) (total : Result (List Instr) ImageFault) → at < len → instr_at len (drop (8 * at) bytes) ≡ Err k
    → with_front front (code_at len thread at (len - at) (drop (8 * at) bytes)) ≡ total → total ≡ Err (record { kind = k; thread = thread; at = at })
code_stops len thread at bytes k front total lt e so_far =
    let n : len - at ≡ suc (len - (at + 1)) = omega arith in
    sym so_far ∙ ap (λ (m : ℕ). with_front front (code_at len thread at m (drop (8 * at) bytes))) n ∙ code_stop len thread at (len - (at + 1)) (drop (8 * at) bytes) k front e

pub code_ends : (len thread at : ℕ) (bytes : List ℕ) (front : List Instr) (total : Result (List Instr) ImageFault) → len ≤ at
    → with_front front (code_at len thread at (len - at) bytes) ≡ total → total ≡ Ok front
unfolding code_at
code_ends len thread at bytes front total le so_far =
    let n : len - at ≡ 0 = omega arith in
    sym so_far ∙ ap (λ (m : ℕ). with_front front (code_at len thread at m bytes)) n ∙ ap Ok (append-nil front)

-- ---- codes

pub codes_go_on : (thread len : ℕ) (lens : List ℕ) (bytes : List ℕ) (code : List Instr) (front : List (List Instr)) (total : Result (List (List Instr)) ImageFault) → thread < length lens → get_or lens thread 0 ≡ len
    → code_at len thread 0 len bytes ≡ Ok code
    → with_front front (codes_at thread (drop thread lens) bytes) ≡ total → with_front (front ++ code ∷ []) (codes_at (thread + 1) (drop (thread + 1) lens) (drop (8 * len) bytes)) ≡ total
unfolding codes_at
codes_go_on thread len lens bytes code front total lt is e so_far =
    let first : with_front front (codes_at thread (drop thread lens) bytes) ≡ with_front front (codes_at thread (len ∷ drop (thread + 1) lens) bytes) = rw (drop_more lens thread 0 lt, is) refl in
    let one : with_front front (codes_at thread (len ∷ drop (thread + 1) lens) bytes) ≡ with_front (front ++ code ∷ []) (codes_at (thread + 1) (drop (thread + 1) lens) (drop (8 * len) bytes)) = rw e (with_front_more front code (codes_at (thread + 1) (drop (thread + 1) lens) (drop (8 * len) bytes))) in
    sym (first ∙ one) ∙ so_far

pub codes_stop : (thread len : ℕ) (lens : List ℕ) (bytes : List ℕ) (f : ImageFault) (front : List (List Instr)) (total : Result (List (List Instr)) ImageFault) → thread < length lens → get_or lens thread 0 ≡ len
    → code_at len thread 0 len bytes ≡ Err f
    → with_front front (codes_at thread (drop thread lens) bytes) ≡ total → total ≡ Err f
unfolding codes_at
codes_stop thread len lens bytes f front total lt is e so_far =
    let first : with_front front (codes_at thread (drop thread lens) bytes) ≡ with_front front (codes_at thread (len ∷ drop (thread + 1) lens) bytes) = rw (drop_more lens thread 0 lt, is) refl in
    let one : with_front front (codes_at thread (len ∷ drop (thread + 1) lens) bytes) ≡ Err f = rw e refl in
    sym so_far ∙ first ∙ one

pub codes_end : (thread : ℕ) (lens : List ℕ) (bytes : List ℕ) (front : List (List Instr)) (total : Result (List (List Instr)) ImageFault) → length lens ≤ thread
    → with_front front (codes_at thread (drop thread lens) bytes) ≡ total → total ≡ Ok front
unfolding codes_at
codes_end thread lens bytes front total le so_far =
    let last : with_front front (codes_at thread (drop thread lens) bytes) ≡ with_front front (codes_at thread [] bytes) = rw (drop_all thread lens le) refl in
    sym so_far ∙ last ∙ ap Ok (append-nil front)
