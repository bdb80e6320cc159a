-- The canonical operands of an instruction are read as the instruction.
use Rattle.std.proofs.Common.{◌≡◌, ℕ, ◌<◌, ◌≤◌, ◌^◌, Bool, true, false, cond, not, ◌&&◌, ◌||◌, ltb, leb, List, [], ◌∷◌, ◌++◌, Option, None, Some, option_map, option_and_then, Result, Ok, Err, decimal, refl, sym, ap, ◌∙◌, arith, flat_map}
use Rattle.std.proofs.lemmas.Bool.{and_parts, ltb-true, ltb-false, le-ltb, eqb-true, leb-true, not-true}
use Rattle.std.proofs.lemmas.List.{append-nil}
use Rattle.std.proofs.lemmas.List.Concat.{flat_map-append}
use Rattle.std.specs.List.{AllByRecursion}
use Rattle.machine.specs.declared.program.Instr.{Instr}
use Rattle.machine.specs.declared.program.Op.{Op}
use Rattle.machine.specs.Programs.{uses_a, uses_b, uses_c, uses_imm, jumps, is_register, is_idle, has_registers, has_idle_zero, IsInstr}
use Rattle.assembler.specs.declared.asm_fault.AsmKind.{AsmKind}
use Rattle.assembler.specs.declared.asm_fault.AsmKind.TheVariants as kind
use Rattle.assembler.specs.Words.{is_between, is_decimal_digit}
use Rattle.assembler.specs.Labels.{Scope}
use Rattle.assembler.specs.Operands.{Registers, take_register, registers_of, greatest, name_value, last_operand, with_imm, instr_of}
use Rattle.assembler.specs.Canonical.{spaced, register_text, number_text}
use Rattle.assembler.proofs.Decimals.{between, decimal_digits, number_decimal, register_named}
use Rattle.assembler.proofs.Tokens.{IsWord, is_word_byte, all_imp}

-- the words of the operands
abbrev pub register_tokens : Bool → ℕ → List (List ℕ)
register_tokens true r = (114 ∷ decimal r) ∷ []
register_tokens false r = []

abbrev pub number_tokens : Bool → ℕ → List (List ℕ)
number_tokens true n = decimal n ∷ []
number_tokens false n = []

abbrev pub operand_tokens : Instr → List (List ℕ)
operand_tokens i = register_tokens (uses_a i.op) i.a ++ (register_tokens (uses_b i.op) i.b ++ (register_tokens (uses_c i.op) i.c ++ number_tokens (uses_imm i.op) i.imm))

abbrev Taken : Type 0
Taken = ℕ × List (List ℕ)

abbrev taken : ℕ → List (List ℕ) → Option Taken
taken r rest = Some (r, rest)

register_back : (used : Bool) (r : ℕ) (rest : List (List ℕ)) → is_register used r ≡ true → is_idle used r ≡ true → take_register used (register_tokens used r ++ rest) ≡ taken r rest
register_back true r rest h g = ap (option_map (λ k. (k, rest))) (register_named r (ltb-true r 16 h))
register_back false r rest h g = ap (λ k. taken k rest) (sym (eqb-true r 0 g))

abbrev after_c : ℕ → ℕ → Option Taken → Option Registers
after_c a b x = option_map (λ c. record { a = a; b = b; c = c.0; rest = c.1 }) x

abbrev after_b : Op → ℕ → Option Taken → Option Registers
after_b o a x = option_and_then (λ b. after_c a b.0 (take_register (uses_c o) b.1)) x

abbrev after_a : Op → Option Taken → Option Registers
after_a o x = option_and_then (λ a. after_b o a.0 (take_register (uses_b o) a.1)) x

abbrev found : Registers → Option Registers
found r = Some r

registers_back : (i : Instr) (rest : List (List ℕ)) → has_registers i ≡ true → has_idle_zero i ≡ true
    → registers_of i.op (register_tokens (uses_a i.op) i.a ++ (register_tokens (uses_b i.op) i.b ++ (register_tokens (uses_c i.op) i.c ++ rest))) ≡ found (record { a = i.a; b = i.b; c = i.c; rest = rest })
registers_back i rest h g =
    let s = and_parts (is_register (uses_a i.op) i.a && is_register (uses_b i.op) i.b) (is_register (uses_c i.op) i.c) h in
    let t = and_parts (is_register (uses_a i.op) i.a) (is_register (uses_b i.op) i.b) s.0 in
    let u = and_parts (is_idle (uses_a i.op) i.a && is_idle (uses_b i.op) i.b && is_idle (uses_c i.op) i.c) (is_idle (uses_imm i.op) i.imm) g in
    let v = and_parts (is_idle (uses_a i.op) i.a && is_idle (uses_b i.op) i.b) (is_idle (uses_c i.op) i.c) u.0 in
    let w = and_parts (is_idle (uses_a i.op) i.a) (is_idle (uses_b i.op) i.b) v.0 in
    ap (after_a i.op) (register_back (uses_a i.op) i.a _ t.0 w.0) ∙ ap (after_b i.op i.a) (register_back (uses_b i.op) i.b _ t.1 w.1) ∙ ap (after_c i.a i.b) (register_back (uses_c i.op) i.c rest s.1 v.1)

abbrev imm_from : Bool → Scope → List ℕ → Option ℕ → Result ℕ AsmKind
imm_from is_target scope word o = elim o as (λ _. Result ℕ AsmKind) [ Some n ↦ cond (ltb (greatest is_target scope.len) n) (Err kind.Number) (Ok n) | None ↦ name_value is_target scope.labels word ]

not_more : (is_target : Bool) (len n : ℕ) → (not is_target || not (ltb len n)) ≡ true → n < 2 ^ 32 → n ≤ greatest is_target len
not_more true len n h g = ltb-false len n (not-true (ltb len n) h)
not_more false len n h g = omega arith

last_back : (used is_target : Bool) (scope : Scope) (n : ℕ) → is_idle used n ≡ true → (not is_target || not (ltb scope.len n)) ≡ true → n < 2 ^ 32 → last_operand used is_target scope (number_tokens used n) ≡ Ok n
last_back false is_target scope n h g f = ap (λ k. Ok k) (sym (eqb-true n 0 h))
last_back true is_target scope n h g f =
    ap (imm_from is_target scope (decimal n)) (number_decimal n (omega arith))
    ∙ ap (λ b. cond b (Err kind.Number) (Ok n)) (le-ltb (greatest is_target scope.len) n (not_more is_target scope.len n g f))

abbrev instr_from : Op → Scope → Option Registers → Result Instr AsmKind
instr_from o scope x = elim x as (λ _. Result Instr AsmKind) [ None ↦ Err kind.Operand | Some r ↦ with_imm o r (last_operand (uses_imm o) (jumps o) scope r.rest) ]

-- an instruction that keeps the rules is read back
pub instr_back : (i : Instr) (scope : Scope) → IsInstr scope.len i → i.imm < 2 ^ 32 → instr_of i.op scope (operand_tokens i) ≡ Ok i
instr_back i scope rules small =
    let u = and_parts (is_idle (uses_a i.op) i.a && is_idle (uses_b i.op) i.b && is_idle (uses_c i.op) i.c) (is_idle (uses_imm i.op) i.imm) rules.idle in
    ap (instr_from i.op scope) (registers_back i (number_tokens (uses_imm i.op) i.imm) rules.registers rules.idle)
    ∙ ap (with_imm i.op (record { a = i.a; b = i.b; c = i.c; rest = number_tokens (uses_imm i.op) i.imm })) (last_back (uses_imm i.op) (jumps i.op) scope i.imm u.1 rules.target small)

-- a decimal number is a word
digit_byte : (b : ℕ) → is_decimal_digit b ≡ true → is_word_byte b ≡ true
digit_byte b h =
    let s = and_parts (leb 48 b) (leb b 57) h in
    let low : 48 ≤ b = leb-true 48 b s.0 in
    let high : b ≤ 57 = leb-true b 57 s.1 in
    ap (λ t. t || is_between 97 122 b) (between 46 57 b (omega arith) (omega arith))

pub decimal_word : (n : ℕ) → n < 2 ^ 64 → IsWord (decimal n)
decimal_word n h = let d = decimal_digits n h in record { some = d.some; all = all_imp is_decimal_digit is_word_byte digit_byte (decimal n) d.all }

register_word : (r : ℕ) → r < 16 → IsWord (114 ∷ decimal r)
register_word r h = record { some = refl; all = (decimal_word r (omega arith)).all }

words_append : (xs ys : List (List ℕ)) → AllByRecursion IsWord xs → AllByRecursion IsWord ys → AllByRecursion IsWord (xs ++ ys)
words_append [] ys h g = g
words_append (x ∷ xs) ys h g = (h.0, words_append xs ys h.1 g)

register_words : (used : Bool) (r : ℕ) → is_register used r ≡ true → AllByRecursion IsWord (register_tokens used r)
register_words true r h = (register_word r (ltb-true r 16 h), tt)
register_words false r h = tt

number_words : (used : Bool) (n : ℕ) → n < 2 ^ 64 → AllByRecursion IsWord (number_tokens used n)
number_words true n h = (decimal_word n h, tt)
number_words false n h = tt

pub operand_words : (i : Instr) → has_registers i ≡ true → i.imm < 2 ^ 32 → AllByRecursion IsWord (operand_tokens i)
operand_words i h small =
    let s = and_parts (is_register (uses_a i.op) i.a && is_register (uses_b i.op) i.b) (is_register (uses_c i.op) i.c) h in
    let t = and_parts (is_register (uses_a i.op) i.a) (is_register (uses_b i.op) i.b) s.0 in
    words_append (register_tokens (uses_a i.op) i.a) _ (register_words (uses_a i.op) i.a t.0)
    (words_append (register_tokens (uses_b i.op) i.b) _ (register_words (uses_b i.op) i.b t.1)
    (words_append (register_tokens (uses_c i.op) i.c) _ (register_words (uses_c i.op) i.c s.1) (number_words (uses_imm i.op) i.imm (omega arith))))

register_spaced : (used : Bool) (r : ℕ) → flat_map spaced (register_tokens used r) ≡ register_text used r
register_spaced true r = append-nil (spaced (114 ∷ decimal r))
register_spaced false r = refl

number_spaced : (used : Bool) (n : ℕ) → flat_map spaced (number_tokens used n) ≡ number_text used n
number_spaced true n = append-nil (spaced (decimal n))
number_spaced false n = refl

-- the operands as they are written
pub operands_spaced : (i : Instr) → flat_map spaced (operand_tokens i) ≡ register_text (uses_a i.op) i.a ++ (register_text (uses_b i.op) i.b ++ (register_text (uses_c i.op) i.c ++ number_text (uses_imm i.op) i.imm))
operands_spaced i =
    let a = register_tokens (uses_a i.op) i.a in
    let b = register_tokens (uses_b i.op) i.b in
    let d = register_tokens (uses_c i.op) i.c in
    let n = number_tokens (uses_imm i.op) i.imm in
    flat_map-append spaced a (b ++ (d ++ n)) ∙ ap (λ t. t ++ flat_map spaced (b ++ (d ++ n))) (register_spaced (uses_a i.op) i.a)
    ∙ ap (λ t. register_text (uses_a i.op) i.a ++ t)
    (flat_map-append spaced b (d ++ n) ∙ ap (λ t. t ++ flat_map spaced (d ++ n)) (register_spaced (uses_b i.op) i.b)
    ∙ ap (λ t. register_text (uses_b i.op) i.b ++ t)
    (flat_map-append spaced d n ∙ ap (λ t. t ++ flat_map spaced n) (register_spaced (uses_c i.op) i.c)
    ∙ ap (λ t. register_text (uses_c i.op) i.c ++ t) (number_spaced (uses_imm i.op) i.imm)))
