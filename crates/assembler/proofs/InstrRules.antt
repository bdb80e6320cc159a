-- An instruction that a text says keeps the rules of instructions.
use Rattle.std.proofs.Common.{◌≡◌, ℕ, ◌-◌, ◌<◌, ◌≤◌, Bool, true, false, cond, not, ◌&&◌, ◌||◌, eqb, ltb, leb, List, [], ◌∷◌, Option, None, Some, option_map, option_and_then, Result, Ok, Err, refl, sym, ap, subst, arith}
use Rattle.std.proofs.lemmas.Bool.{and_parts, and_from, ltb-false, leb-true, lt-ltb, le-ltb}
use Rattle.machine.specs.declared.program.Instr.{Instr}
use Rattle.machine.specs.declared.program.Op.{Op}
use Rattle.machine.specs.Programs.{uses_a, uses_b, uses_c, uses_imm, jumps, is_register, is_idle, IsInstr}
use Rattle.assembler.specs.declared.asm_fault.AsmKind.{AsmKind}
use Rattle.assembler.specs.declared.asm_fault.AsmKind.TheVariants as kind
use Rattle.assembler.specs.Words.{register_of, is_name, is_register_letter, is_between}
use Rattle.assembler.specs.Numerals.{number_of}
use Rattle.assembler.specs.Labels.{Label, Labels, Scope, find_label}
use Rattle.assembler.specs.Operands.{Registers, take_register, registers_of, greatest, place_of, name_value, imm_value, last_operand, with_imm, instr_of}

-- each label's place is within the thread, or at its end
abbrev pub AreWithin : Labels → ℕ → Type 0
AreWithin labels len = (name : List ℕ) (l : Label) → find_label name labels ≡ Some l → l.place ≤ len

-- what a choice gives, where its second branch is no answer
pub if_ok : {A E : Type 0} (b : Bool) (r : Result A E) (e : E) (x : A) → cond b (Err e) r ≡ Ok x → (b ≡ false) × (r ≡ Ok x)
if_ok true r e x h = absurd (cc)
if_ok false r e x h = (refl, h)

pub then_ok : {A E : Type 0} (b : Bool) (r : Result A E) (e : E) (x : A) → cond b r (Err e) ≡ Ok x → (b ≡ true) × (r ≡ Ok x)
then_ok true r e x h = (refl, h)
then_ok false r e x h = absurd (cc)

if_some : (b : Bool) (m n : ℕ) → cond b (Some m) None ≡ Some n → (b ≡ true) × (m ≡ n)
if_some true m n h = (refl, cc)
if_some false m n h = absurd (cc)

bind_some : {A B : Type 0} (f : A → Option B) (o : Option A) (y : B) → option_and_then f o ≡ Some y → (x : A) × (o ≡ Some x) × (f x ≡ Some y)
bind_some f None y h = absurd (cc)
bind_some f (Some x) y h = (x, refl, h)

map_some : {A B : Type 0} (f : A → B) (o : Option A) (y : B) → option_map f o ≡ Some y → (x : A) × (o ≡ Some x) × (f x ≡ y)
map_some f None y h = absurd (cc)
map_some f (Some x) y h = (x, refl, cc)

-- a register is one of sixteen
register_below : (word : List ℕ) (r : ℕ) → register_of word ≡ Some r → r < 16
register_below [] r h = absurd (cc)
register_below (a ∷ []) r h = absurd (cc)
register_below (a ∷ d ∷ []) r h =
    let s = if_some (is_register_letter a && is_between 48 57 d) (d - 48) r h in
    let t = and_parts (leb 48 d) (leb d 57) (and_parts (is_register_letter a) (is_between 48 57 d) s.0).1 in
    let high : d ≤ 57 = leb-true d 57 t.1 in
    omega (arith, s.1)
register_below (a ∷ b ∷ d ∷ []) r h =
    let s = if_some (is_register_letter a && eqb b 49 && is_between 48 53 d) (d - 38) r h in
    let t = and_parts (leb 48 d) (leb d 53) (and_parts (is_register_letter a && eqb b 49) (is_between 48 53 d) s.0).1 in
    let high : d ≤ 53 = leb-true d 53 t.1 in
    omega (arith, s.1)
register_below (a ∷ b ∷ d ∷ e ∷ more) r h = absurd (cc)

-- a register where one is used, and 0 where none is
register_rules : (used : Bool) (tokens : List (List ℕ)) (x : ℕ × List (List ℕ)) → take_register used tokens ≡ Some x → (is_register used x.0 ≡ true) × (is_idle used x.0 ≡ true)
register_rules false tokens x h =
    let e : 0 ≡ x.0 = ap (λ (o : Option (ℕ × List (List ℕ))). elim o as (λ _. ℕ) [ None ↦ 0 | Some p ↦ p.0 ]) h in
    (refl, ap (λ n. eqb n 0) (sym e))
register_rules true [] x h = absurd (cc)
register_rules true (token ∷ tokens) x h =
    let s = map_some (λ r. (r, tokens)) (register_of token) x h in
    let e : s.0 ≡ x.0 = ap (λ (p : ℕ × List (List ℕ)). p.0) s.2 in
    let below : s.0 < 16 = register_below token s.0 s.1 in
    (lt-ltb x.0 16 (omega arith), refl)

record AreRegisters (o : Op) (r : Registers) : Type 0 where
  a : (is_register (uses_a o) r.a ≡ true) × (is_idle (uses_a o) r.a ≡ true)
  b : (is_register (uses_b o) r.b ≡ true) × (is_idle (uses_b o) r.b ≡ true)
  c : (is_register (uses_c o) r.c ≡ true) × (is_idle (uses_c o) r.c ≡ true)

registers_rules : (o : Op) (tokens : List (List ℕ)) (r : Registers) → registers_of o tokens ≡ Some r → AreRegisters o r
registers_rules o tokens r h =
    let s = bind_some _ (take_register (uses_a o) tokens) r h in
    let t = bind_some _ (take_register (uses_b o) s.0.1) r s.2 in
    let u = map_some _ (take_register (uses_c o) t.0.1) r t.2 in
    let P : Registers → Type 0 = λ x. AreRegisters o x in
    subst P u.2 (record {
      a = register_rules (uses_a o) tokens s.0 s.1;
      b = register_rules (uses_b o) s.0.1 t.0 t.1;
      c = register_rules (uses_c o) t.0.1 u.0 u.1;
    })

-- a target is within the thread, or at its end
abbrev has_place : Bool → ℕ → ℕ → Bool
has_place is_target len n = not is_target || not (ltb len n)

place_ok : (is_target : Bool) (len n : ℕ) → (is_target ≡ true → n ≤ len) → has_place is_target len n ≡ true
place_ok true len n h = ap not (le-ltb len n (h refl))
place_ok false len n h = refl

label_place : (labels : Labels) (len : ℕ) (name : List ℕ) (v : ℕ) → AreWithin labels len → place_of (find_label name labels) ≡ Ok v → v ≤ len
label_place labels len name v within h = by (find_label name labels) refl h
  where
    by : (o : Option Label) → find_label name labels ≡ o → place_of o ≡ Ok v → v ≤ len
    by None e g = absurd (cc)
    by (Some l) e g =
        let same : l.place ≡ v = cc in
        let low : l.place ≤ len = within name l e in
        omega arith

greatest_len : (is_target : Bool) (len : ℕ) → is_target ≡ true → greatest is_target len ≡ len
greatest_len true len e = refl
greatest_len false len e = absurd (cc)

imm_rules : (is_target : Bool) (scope : Scope) (word : List ℕ) (v : ℕ) → AreWithin scope.labels scope.len → imm_value is_target scope word ≡ Ok v → has_place is_target scope.len v ≡ true
imm_rules is_target scope word v within h = by (number_of word) h
  where
    by : (o : Option ℕ) → elim o as (λ _. Result ℕ AsmKind) [ Some n ↦ cond (ltb (greatest is_target scope.len) n) (Err kind.Number) (Ok n) | None ↦ name_value is_target scope.labels word ] ≡ Ok v → has_place is_target scope.len v ≡ true
    by (Some n) g =
        let s = if_ok (ltb (greatest is_target scope.len) n) (Ok n) kind.Number v g in
        let same : n ≡ v = cc in
        let most : n ≤ greatest is_target scope.len = ltb-false (greatest is_target scope.len) n s.0 in
        place_ok is_target scope.len v (λ e. omega (arith, greatest_len is_target scope.len e))
    by None g =
        let s = then_ok (is_target && is_name word) (place_of (find_label word scope.labels)) kind.Operand v g in
        place_ok is_target scope.len v (λ e. label_place scope.labels scope.len word v within s.1)

last_rules : (used is_target : Bool) (scope : Scope) (tokens : List (List ℕ)) (v : ℕ) → AreWithin scope.labels scope.len → last_operand used is_target scope tokens ≡ Ok v
    → (is_idle used v ≡ true) × (has_place is_target scope.len v ≡ true)
last_rules false is_target scope [] v within h =
    let e : 0 ≡ v = cc in
    (ap (λ n. eqb n 0) (sym e), place_ok is_target scope.len v (λ t. omega arith))
last_rules false is_target scope (word ∷ tokens) v within h = absurd (cc)
last_rules true is_target scope [] v within h = absurd (cc)
last_rules true is_target scope (word ∷ []) v within h = (refl, imm_rules is_target scope word v within h)
last_rules true is_target scope (word ∷ other ∷ tokens) v within h = absurd (cc)

pub with_imm_ok : (o : Op) (r : Registers) (m : Result ℕ AsmKind) (i : Instr) → with_imm o r m ≡ Ok i → (v : ℕ) × (m ≡ Ok v) × (record { op = o; a = r.a; b = r.b; c = r.c; imm = v } ≡ i)
with_imm_ok o r (Err k) i h = absurd (cc)
with_imm_ok o r (Ok v) i h = (v, refl, cc)

-- what an instruction of a thread with this scope keeps
pub instr_rules : (o : Op) (scope : Scope) (tokens : List (List ℕ)) (i : Instr) → AreWithin scope.labels scope.len → instr_of o scope tokens ≡ Ok i → IsInstr scope.len i
instr_rules o scope tokens i within h = by (registers_of o tokens) refl h
  where
    by : (x : Option Registers) → registers_of o tokens ≡ x → elim x as (λ _. Result Instr AsmKind) [ None ↦ Err kind.Operand | Some r ↦ with_imm o r (last_operand (uses_imm o) (jumps o) scope r.rest) ] ≡ Ok i → IsInstr scope.len i
    by None e g = absurd (cc)
    by (Some r) e g =
        let s = with_imm_ok o r (last_operand (uses_imm o) (jumps o) scope r.rest) i g in
        let rs = registers_rules o tokens r e in
        let last = last_rules (uses_imm o) (jumps o) scope r.rest s.0 within s.1 in
        let P : Instr → Type 0 = λ x. IsInstr scope.len x in
        subst P s.2 (record {
          registers = and_from _ _ (and_from _ _ rs.a.0 rs.b.0) rs.c.0;
          idle = and_from _ _ (and_from _ _ (and_from _ _ rs.a.1 rs.b.1) rs.c.1) last.0;
          target = last.1;
        })
