-- What directives do, from numbers that were read up to a cap.
use Rattle.std.proofs.Common.{◌≡◌, ℕ, ◌<◌, ◌≤◌, true, false, cond, ◌&&◌, ltb, leb, length, min, set, Option, None, Some, Result, Ok, Err, option_map, ap, ◌∙◌, arith, lt-ltb, le-leb}
use Rattle.assembler.specs.declared.asm_fault.AsmKind.{AsmKind}
use Rattle.assembler.specs.declared.asm_fault.AsmKind.TheVariants as kind
use Rattle.assembler.specs.Progress.{Progress, with_value}

abbrev with_word : Progress → ℕ → ℕ → Result Progress AsmKind
with_word p w v = Ok (record p { words = set p.words w v; is_fresh = false })

-- a word that is there gets its initial value
pub value_set : (most : ℕ) (p : Progress) (o : Option (ℕ × ℕ)) (w v : ℕ) → ◌≡◌ {A = Option (ℕ × ℕ)} (Some (w, v)) (option_map (λ n. (min most n.0, min most n.1)) o) → w < length p.words → length p.words ≤ most → v ≤ 4294967295 → 4294967295 < most
    → with_value p o ≡ Ok (record p { words = set p.words w v; is_fresh = false })
value_set most p None w v e f g h i = absurd (cc)
value_set most p (Some n) w v e f g h i =
    let pair : ◌≡◌ {A = ℕ × ℕ} (w, v) (min most n.0, min most n.1) = cc in
    let first : w ≡ min most n.0 = ap (λ (p : ℕ × ℕ). p.0) pair in
    let second : v ≡ min most n.1 = ap (λ (p : ℕ × ℕ). p.1) pair in
    let word : n.0 ≡ w = omega arith in
    let value : n.1 ≡ v = omega arith in
    let fits : (ltb n.0 (length p.words) && leb n.1 4294967295) ≡ true =
    ap (λ b. b && leb n.1 4294967295) (lt-ltb n.0 (length p.words) (omega arith)) ∙ le-leb n.1 4294967295 (omega arith) in
    ap (λ b. cond b (with_word p n.0 n.1) (Err kind.Number)) fits ∙ ap (λ k. with_word p k n.1) word ∙ ap (λ k. with_word p w k) value
