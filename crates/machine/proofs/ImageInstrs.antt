-- Operations and instructions: what is read is spelled so, and what is spelled so is read.
use Rattle.std.proofs.Common.{◌≡◌, ℕ, zero, suc, ◌+◌, ◌*◌, ◌^◌, ◌<◌, ◌≤◌, List, [], ◌∷◌, ◌++◌, length, take, drop, get_or, sum, map, Option, Some, None, Result, Ok, Err, refl, sym, ap, subst, ◌∙◌, append_assoc, arith}
use Rattle.std.specs.Prelude.{slice_get}
use Rattle.std.specs.List.{flat_map, range_with_len, AllByRecursion}
use Rattle.std.specs.Int.{w32, from_be_bytes, to_be_bytes}
use Rattle.std.proofs.lemmas.List.{take_at, drop_at, length-append, length-drop, drop-drop}
use Rattle.light_base.specs.Numbers.{IsBytes}
use Rattle.machine.specs.Programs.{Instr, Op, IsInstr, op_of, code_of_op, every_op}
use Rattle.machine.specs.declared.program.Op.TheVariants as op
use Rattle.machine.specs.Faults.{ImageFault, ImageKind, instr_fault}
use Rattle.machine.specs.Images.{instr_image, code_image}
use Rattle.machine.specs.Reading.{◌>>=◌}
use Rattle.machine.specs.ImageReading.{kept, with_op, instr_at, placed, code_at, codes_at}
use Rattle.machine.proofs.Rules.{KeepsRules, instr_keeps, instr_fault_none}
use Rattle.machine.proofs.ImageSteps.{sum-cons}
use Rattle.machine.proofs.ImageNumbers.{IsBytes-drop, IsBytes-take, join, wide32, front_number}

-- ---- operations by number

pub op_of-code_of_op : (o : Op) → op_of (code_of_op o) ≡ Some o
op_of-code_of_op op.Halt = refl
op_of-code_of_op op.Const = refl
op_of-code_of_op op.Mov = refl
op_of-code_of_op op.Add = refl
op_of-code_of_op op.Sub = refl
op_of-code_of_op op.Mul = refl
op_of-code_of_op op.And = refl
op_of-code_of_op op.Or = refl
op_of-code_of_op op.Xor = refl
op_of-code_of_op op.Shl = refl
op_of-code_of_op op.Shr = refl
op_of-code_of_op op.Addi = refl
op_of-code_of_op op.Jmp = refl
op_of-code_of_op op.Jeq = refl
op_of-code_of_op op.Jne = refl
op_of-code_of_op op.Jlt = refl
op_of-code_of_op op.Out = refl
op_of-code_of_op op.Load = refl
op_of-code_of_op op.Store = refl
op_of-code_of_op op.Xchg = refl
op_of-code_of_op op.Cas = refl
op_of-code_of_op op.Input = refl

-- operations whose numbers count up from k: the one at place n has the number k + n
counted : (k n : ℕ) (ops : List Op) (x : Op) → map code_of_op ops ≡ range_with_len k (length ops) → slice_get ops n ≡ Some x → code_of_op x ≡ k + n
counted k n [] x e h = absurd cc
counted k zero (o ∷ os) x e h =
    let first : code_of_op o ≡ k = cc in
    let same : o ≡ x = cc in
    let code = ap code_of_op same in
    omega (arith, first, code)
counted k (suc n) (o ∷ os) x e h =
    let rest : map code_of_op os ≡ range_with_len (k + 1) (length os) = cc in
    let more = counted (k + 1) n os x rest h in
    omega (arith, more)

pub code_of_op-op_of : (n : ℕ) (x : Op) → op_of n ≡ Some x → n ≡ code_of_op x
code_of_op-op_of n x h = let e = counted 0 n every_op x refl h in omega (arith, e)

-- ---- instructions

-- the first four bytes of a list
first_four : (bytes : List ℕ) → 4 ≤ length bytes → bytes ≡ get_or bytes 0 0 ∷ get_or bytes 1 0 ∷ get_or bytes 2 0 ∷ get_or bytes 3 0 ∷ drop 4 bytes
first_four [] h = absurd (omega arith)
first_four (a ∷ []) h = absurd (omega arith)
first_four (a ∷ b ∷ []) h = absurd (omega arith)
first_four (a ∷ b ∷ c ∷ []) h = absurd (omega arith)
first_four (a ∷ b ∷ c ∷ d ∷ bytes) h = refl

-- the instruction of an operation and of the bytes behind its code
abbrev made : List ℕ → Op → Instr
made bytes o = record { op = o; a = get_or bytes 1 0; b = get_or bytes 2 0; c = get_or bytes 3 0; imm = from_be_bytes w32 (take 4 (drop 4 bytes)) }

kept_ok : (f : Option ImageKind) (i j : Instr) → kept f i ≡ Ok j → (f ≡ None) × (i ≡ j)
kept_ok None i j e = (refl, cc)
kept_ok (Some k) i j e = absurd cc

with_op_ok : (len : ℕ) (bytes : List ℕ) (found : Option Op) (i : Instr) → with_op len bytes found ≡ Ok i → (o : Op) × (found ≡ Some o) × (instr_fault len (made bytes o) ≡ None) × (made bytes o ≡ i)
with_op_ok len bytes None i e = absurd cc
with_op_ok len bytes (Some o) i e =
    let k = kept_ok (instr_fault len (made bytes o)) (made bytes o) i e in
    (o, refl, k.0, k.1)

pub record TakesInstr (len : ℕ) (bytes : List ℕ) (i : Instr) : Type 0 where
  pub parts : bytes ≡ instr_image i ++ drop 8 bytes
  pub rules : IsInstr len i
  pub imm : i.imm < 2 ^ 32

pub instr_takes : (len : ℕ) (bytes : List ℕ) (i : Instr) → IsBytes bytes → 8 ≤ length bytes → instr_at len bytes ≡ Ok i → TakesInstr len bytes i
unfolding instr_at
instr_takes len bytes i fits long e =
    let h = with_op_ok len bytes (op_of (get_or bytes 0 0)) i e in
    let o = h.0 in
    let code : get_or bytes 0 0 ≡ code_of_op o = code_of_op-op_of (get_or bytes 0 0) o h.1 in
    let a = get_or bytes 1 0 in
    let b = get_or bytes 2 0 in
    let c = get_or bytes 3 0 in
    let behind : List ℕ = drop 4 bytes in
    let imm : ℕ = from_be_bytes w32 (take 4 behind) in
    let spelled : behind ≡ to_be_bytes w32 imm ++ drop 4 behind = front_number w32 (2 ^ 32) wide32 behind (IsBytes-drop 4 bytes fits) (omega (arith, length-drop 4 bytes)) in
    let rest : drop 4 behind ≡ drop 8 bytes = drop-drop 4 4 bytes in
    let all : bytes ≡ instr_image (made bytes o) ++ drop 8 bytes =
    first_four bytes (omega arith) ∙ ap (λ (x : ℕ). x ∷ a ∷ b ∷ c ∷ behind) code ∙ ap (λ (xs : List ℕ). code_of_op o ∷ a ∷ b ∷ c ∷ xs) (spelled ∙ ap (λ (xs : List ℕ). to_be_bytes w32 imm ++ xs) rest) in
    let P : Instr → Type 0 = λ j. TakesInstr len bytes j in
    subst P h.3 (record { parts = all; rules = instr_keeps len (made bytes o) h.2; imm = wide32.below (take 4 behind) (IsBytes-take 4 behind (IsBytes-drop 4 bytes fits)) })

pub instr_again : (len : ℕ) (i : Instr) (rest : List ℕ) → IsInstr len i → i.imm < 2 ^ 32 → instr_at len (instr_image i ++ rest) ≡ Ok i
unfolding instr_at
instr_again len i rest rules below =
    let bytes : List ℕ = instr_image i ++ rest in
    let imm : from_be_bytes w32 (take 4 (to_be_bytes w32 i.imm ++ rest)) ≡ i.imm = ap (from_be_bytes w32) (take_at (to_be_bytes w32 i.imm) rest 4 (wide32.len i.imm)) ∙ wide32.again i.imm below in
    let with_imm : ℕ → Instr = λ m. record { op = i.op; a = i.a; b = i.b; c = i.c; imm = m } in
    ap (with_op len bytes) (op_of-code_of_op i.op) ∙ ap (λ (m : ℕ). kept (instr_fault len (with_imm m)) (with_imm m)) imm ∙ ap (λ (f : Option ImageKind). kept f i) (instr_fault_none len i rules)

-- ---- the code of a thread

-- the value of a step that did not fail
pub bind_ok : {A B E : Type 0} (r : Result A E) (f : A → Result B E) (y : B) → (r >>= f) ≡ Ok y → (x : A) × (r ≡ Ok x) × (f x ≡ Ok y)
bind_ok (Ok x) f y e = (x, refl, e)
bind_ok (Err d) f y e = absurd cc

abbrev done : {A E : Type 0} → A → Result A E
done x = Ok x

pub ok_is : {A E : Type 0} (x y : A) → done {E = E} x ≡ done {E = E} y → x ≡ y
ok_is x y e = cc

placed_ok : {A : Type 0} (thread at : ℕ) (r : Result A ImageKind) (x : A) → placed thread at r ≡ Ok x → r ≡ Ok x
placed_ok thread at (Ok y) x e = ap Ok (ok_is y x e)
placed_ok thread at (Err k) x e = absurd cc

abbrev pub FitsImm : Instr → Type 0
FitsImm i = i.imm < 2 ^ 32

pub record TakesCode (len n : ℕ) (bytes : List ℕ) (code : List Instr) : Type 0 where
  pub parts : bytes ≡ code_image code ++ drop (8 * n) bytes
  pub count : length code ≡ n
  pub rules : AllByRecursion (IsInstr len) code
  pub imms : AllByRecursion FitsImm code

pub code_takes : (len thread at n : ℕ) (bytes : List ℕ) (code : List Instr) → IsBytes bytes → 8 * n ≤ length bytes → code_at len thread at n bytes ≡ Ok code → TakesCode len n bytes code
unfolding code_at
code_takes len thread at zero bytes code fits long e =
    let P : List Instr → Type 0 = λ xs. TakesCode len 0 bytes xs in
    subst P (ok_is [] code e) (record { parts = refl; count = refl; rules = tt; imms = tt })
code_takes len thread at (suc n) bytes code fits long e =
    let a = bind_ok (placed thread at (instr_at len bytes)) (λ first. code_at len thread (at + 1) n (drop 8 bytes) >>= λ others. Ok (first ∷ others)) code e in
    let b = bind_ok (code_at len thread (at + 1) n (drop 8 bytes)) (λ others. Ok (a.0 ∷ others)) code a.2 in
    let first = instr_takes len bytes a.0 fits (omega arith) (placed_ok thread at (instr_at len bytes) a.0 a.1) in
    let others = code_takes len thread (at + 1) n (drop 8 bytes) b.0 (IsBytes-drop 8 bytes fits) (omega (arith, length-drop 8 bytes)) b.1 in
    let place : 8 + 8 * n ≡ 8 * suc n = omega arith in
    let rest : drop (8 * n) (drop 8 bytes) ≡ drop (8 * suc n) bytes = drop-drop (8 * n) 8 bytes ∙ ap (λ (k : ℕ). drop k bytes) place in
    let both = join bytes (instr_image a.0) (code_image b.0) (drop (8 * n) (drop 8 bytes)) 8 first.parts others.parts in
    let all : bytes ≡ code_image (a.0 ∷ b.0) ++ drop (8 * suc n) bytes = both ∙ ap (λ (xs : List ℕ). code_image (a.0 ∷ b.0) ++ xs) rest in
    let P : List Instr → Type 0 = λ xs. TakesCode len (suc n) bytes xs in
    subst P (ok_is (a.0 ∷ b.0) code b.2) (record { parts = all; count = ap suc others.count; rules = (first.rules, others.rules); imms = (first.imm, others.imms) })

pub code_again : (len thread at : ℕ) (code : List Instr) (rest : List ℕ) → AllByRecursion (IsInstr len) code → AllByRecursion FitsImm code → code_at len thread at (length code) (code_image code ++ rest) ≡ Ok code
unfolding code_at
code_again len thread at [] rest rules imms = refl
code_again len thread at (i ∷ is) rest rules imms =
    let others : List ℕ = code_image is ++ rest in
    let whole : code_image (i ∷ is) ++ rest ≡ instr_image i ++ others = append_assoc (instr_image i) (code_image is) rest in
    let next : drop 8 (instr_image i ++ others) ≡ others = refl in
    let step : Result Instr ImageKind → List ℕ → Result (List Instr) ImageFault = λ r after. placed thread at r >>= λ first. code_at len thread (at + 1) (length is) after >>= λ more. Ok (first ∷ more) in
    ap (code_at len thread at (suc (length is))) whole ∙ ap (λ (r : Result Instr ImageKind). step r others) (instr_again len i others rules.0 imms.0) ∙ ap (λ (r : Result (List Instr) ImageFault). r >>= λ more. Ok (i ∷ more)) (code_again len thread (at + 1) is rest rules.1 imms.1)

-- ---- codes

pub record TakesCodes (lens : List ℕ) (bytes : List ℕ) (codes : List (List Instr)) : Type 0 where
  pub parts : bytes ≡ flat_map code_image codes ++ drop (8 * sum lens) bytes
  pub counts : map length codes ≡ lens
  pub rules : AllByRecursion KeepsRules codes
  pub imms : AllByRecursion (AllByRecursion FitsImm) codes

pub codes_take : (thread : ℕ) (lens : List ℕ) (bytes : List ℕ) (codes : List (List Instr)) → IsBytes bytes → 8 * sum lens ≤ length bytes → codes_at thread lens bytes ≡ Ok codes → TakesCodes lens bytes codes
unfolding codes_at
codes_take thread [] bytes codes fits long e =
    let P : List (List Instr) → Type 0 = λ xs. TakesCodes [] bytes xs in
    subst P (ok_is [] codes e) (record { parts = refl; counts = refl; rules = tt; imms = tt })
codes_take thread (len ∷ lens) bytes codes fits long e =
    let total = sum-cons len lens in
    let a = bind_ok (code_at len thread 0 len bytes) (λ first. codes_at (thread + 1) lens (drop (8 * len) bytes) >>= λ others. Ok (first ∷ others)) codes e in
    let b = bind_ok (codes_at (thread + 1) lens (drop (8 * len) bytes)) (λ others. Ok (a.0 ∷ others)) codes a.2 in
    let first = code_takes len thread 0 len bytes a.0 fits (omega (arith, total)) a.1 in
    let others = codes_take (thread + 1) lens (drop (8 * len) bytes) b.0 (IsBytes-drop (8 * len) bytes fits) (omega (arith, total, length-drop (8 * len) bytes)) b.1 in
    let place : 8 * len + 8 * sum lens ≡ 8 * sum (len ∷ lens) = omega (arith, total) in
    let rest : drop (8 * sum lens) (drop (8 * len) bytes) ≡ drop (8 * sum (len ∷ lens)) bytes = drop-drop (8 * sum lens) (8 * len) bytes ∙ ap (λ (k : ℕ). drop k bytes) place in
    let both = join bytes (code_image a.0) (flat_map code_image b.0) (drop (8 * sum lens) (drop (8 * len) bytes)) (8 * len) first.parts others.parts in
    let all : bytes ≡ flat_map code_image (a.0 ∷ b.0) ++ drop (8 * sum (len ∷ lens)) bytes = both ∙ ap (λ (xs : List ℕ). flat_map code_image (a.0 ∷ b.0) ++ xs) rest in
    let L : ℕ → Type 0 = λ k. AllByRecursion (IsInstr k) a.0 in
    let P : List (List Instr) → Type 0 = λ xs. TakesCodes (len ∷ lens) bytes xs in
    subst P (ok_is (a.0 ∷ b.0) codes b.2) (record { parts = all; counts = ap (λ (k : ℕ). k ∷ map length b.0) first.count ∙ ap (λ (ks : List ℕ). len ∷ ks) others.counts; rules = (subst L (sym first.count) first.rules, others.rules); imms = (first.imms, others.imms) })

-- the bytes of a code
pub length-code_image : (code : List Instr) → length (code_image code) ≡ 8 * length code
length-code_image [] = refl
length-code_image (i ∷ is) = omega (arith, length-append (instr_image i) (code_image is), length-code_image is)

pub length-codes_image : (codes : List (List Instr)) → length (flat_map code_image codes) ≡ 8 * sum (map length codes)
length-codes_image [] = refl
length-codes_image (code ∷ codes) = omega (arith, length-append (code_image code) (flat_map code_image codes), length-code_image code, length-codes_image codes, sum-cons (length code) (map length codes))

pub codes_again : (thread : ℕ) (codes : List (List Instr)) (rest : List ℕ) → AllByRecursion KeepsRules codes → AllByRecursion (AllByRecursion FitsImm) codes
    → codes_at thread (map length codes) (flat_map code_image codes ++ rest) ≡ Ok codes
unfolding codes_at
codes_again thread [] rest rules imms = refl
codes_again thread (code ∷ codes) rest rules imms =
    let others : List ℕ = flat_map code_image codes ++ rest in
    let whole : flat_map code_image (code ∷ codes) ++ rest ≡ code_image code ++ others = append_assoc (code_image code) (flat_map code_image codes) rest in
    let next : drop (8 * length code) (code_image code ++ others) ≡ others = drop_at (code_image code) others (8 * length code) (length-code_image code) in
    let step : Result (List Instr) ImageFault → List ℕ → Result (List (List Instr)) ImageFault = λ r after. r >>= λ first. codes_at (thread + 1) (map length codes) after >>= λ more. Ok (first ∷ more) in
    ap (codes_at thread (length code ∷ map length codes)) whole ∙ ap (λ (r : Result (List Instr) ImageFault). step r (drop (8 * length code) (code_image code ++ others))) (code_again (length code) thread 0 code others rules.0 imms.0)
    ∙ ap (step (Ok code)) next ∙ ap (λ (r : Result (List (List Instr)) ImageFault). r >>= λ more. Ok (code ∷ more)) (codes_again (thread + 1) codes rest rules.1 imms.1)
