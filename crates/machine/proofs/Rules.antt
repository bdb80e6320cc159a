-- A program has no fault exactly where it keeps the rules.
use Rattle.std.proofs.Common.{◌≡◌, ℕ, ◌+◌, ◌<◌, ◌≤◌, Bool, true, false, not, cond, ltb, ◌&&◌, List, [], ◌∷◌, length, get_or, All, Option, Some, None, refl, sym, ap, ◌∙◌, arith}
use Rattle.std.specs.Global.{Vec}
use Rattle.std.specs.Option.{option_or}
use Rattle.std.specs.List.{AllByRecursion, list_all}
use Rattle.std.proofs.lemmas.Bool.{and_parts, and_from, not-true, not_from_false, ltb-true, ltb-false, lt-ltb, le-ltb}
use Rattle.std.proofs.lemmas.List.{get_or-map, length-map}
use Rattle.std.proofs.lemmas.List.Elements.{All-from_recursion, recursion_from_All}
use Rattle.std.proofs.lemmas.List.Sums.{AllPass-from_list_all, list_all-from_AllPass}
use Rattle.machine.specs.Programs.{Instr, ProgramValue, IsInstr, IsCode, IsProgram, code_lists, has_registers, has_idle_zero, has_target}
use Rattle.machine.specs.Faults.{ImageKind, ImageFault, whole_fault, instr_fault, fault_at, code_fault, codes_fault, program_fault, is_count, is_short_code}
use Rattle.machine.specs.declared.image_fault.ImageKind.TheVariants as kind

-- ---- counts

pub count_holds : (most n : ℕ) → is_count most n ≡ true → (1 ≤ n) × (n ≤ most)
count_holds most n e =
    let both = and_parts (ltb 0 n) (not (ltb most n)) e in
    (ltb-true 0 n both.0, ltb-false most n (not-true _ both.1))

pub is_count_from : (most n : ℕ) → 1 ≤ n → n ≤ most → is_count most n ≡ true
is_count_from most n low high = and_from (ltb 0 n) (not (ltb most n)) (lt-ltb 0 n low) (not_from_false _ (le-ltb most n high))

-- ---- the code of a thread

-- a code of a vector of codes, as a list
pub code_at : (codes : List (Vec Instr)) (t : ℕ) (v : Vec Instr) (d : List Instr) → t < length codes → v ≡ get_or codes t v → get_or (code_lists codes) t d ≡ v.items
code_at codes t v d lt is = get_or-map (λ (code : Vec Instr). code.items) codes t v d lt ∙ ap (λ (code : Vec Instr). code.items) (sym is)

pub short_at : (codes : List (Vec Instr)) (t : ℕ) (v : Vec Instr) → t < length codes → v ≡ get_or codes t v → list_all is_short_code (code_lists codes) ≡ true → length v.items ≤ 4096
short_at codes t v lt is short =
    let lt2 : t < length (code_lists codes) = omega (arith, length-map codes (λ (code : Vec Instr). code.items)) in
    let one : is_short_code (get_or (code_lists codes) t []) ≡ true = AllPass-from_list_all is_short_code (code_lists codes) short t [] lt2 in
    rw (← code_at codes t v [] lt is) (ltb-false 4096 _ (not-true _ one))

-- ---- instructions

three_pass : (a b c : Bool) → cond (not a) (Some kind.Register) (cond (not b) (Some kind.Unused) (cond (not c) (Some kind.Target) None)) ≡ None → (a ≡ true) × (b ≡ true) × (c ≡ true)
three_pass false b c e = absurd cc
three_pass true false c e = absurd cc
three_pass true true false e = absurd cc
three_pass true true true e = (refl, refl, refl)

pub instr_keeps : (len : ℕ) (i : Instr) → instr_fault len i ≡ None → IsInstr len i
instr_keeps len i e =
    let all = three_pass (has_registers i) (has_idle_zero i) (has_target len i) e in
    record { registers = all.0; idle = all.1; target = all.2 }

pub instr_fault_none : (len : ℕ) (i : Instr) → IsInstr len i → instr_fault len i ≡ None
instr_fault_none len i rules = rw (rules.registers, rules.idle, rules.target) refl

-- ---- codes

no_fault_first : (thread at : ℕ) (k : Option ImageKind) (rest : Option ImageFault) → option_or (fault_at thread at k) rest ≡ None → (k ≡ None) × (rest ≡ None)
no_fault_first thread at None rest e = (refl, e)
no_fault_first thread at (Some k) rest e = absurd cc

code_keeps : (len thread at : ℕ) (code : List Instr) → code_fault len thread at code ≡ None → AllByRecursion (IsInstr len) code
unfolding code_fault
code_keeps len thread at [] e = tt
code_keeps len thread at (i ∷ is) e =
    let both = no_fault_first thread at (instr_fault len i) (code_fault len thread (at + 1) is) e in
    (instr_keeps len i both.0, code_keeps len thread (at + 1) is both.1)

code_fault_none : (len thread at : ℕ) (code : List Instr) → AllByRecursion (IsInstr len) code → code_fault len thread at code ≡ None
unfolding code_fault
code_fault_none len thread at [] rules = refl
code_fault_none len thread at (i ∷ is) rules = rw (instr_fault_none len i rules.0) (code_fault_none len thread (at + 1) is rules.1)

no_fault_both : (first rest : Option ImageFault) → option_or first rest ≡ None → (first ≡ None) × (rest ≡ None)
no_fault_both None rest e = (refl, e)
no_fault_both (Some fault) rest e = absurd cc

abbrev pub KeepsRules : List Instr → Type 0
KeepsRules code = AllByRecursion (IsInstr (length code)) code

codes_keep : (thread : ℕ) (codes : List (List Instr)) → codes_fault thread codes ≡ None → AllByRecursion KeepsRules codes
unfolding codes_fault
codes_keep thread [] e = tt
codes_keep thread (code ∷ codes) e =
    let both = no_fault_both (code_fault (length code) thread 0 code) (codes_fault (thread + 1) codes) e in
    (code_keeps (length code) thread 0 code both.0, codes_keep (thread + 1) codes both.1)

codes_fault_none : (thread : ℕ) (codes : List (List Instr)) → AllByRecursion KeepsRules codes → codes_fault thread codes ≡ None
unfolding codes_fault
codes_fault_none thread [] rules = refl
codes_fault_none thread (code ∷ codes) rules = rw (code_fault_none (length code) thread 0 code rules.0) (codes_fault_none (thread + 1) codes rules.1)

-- ---- programs

-- the codes of a program keep their rules: they are short, and each instruction has no fault
pub codes_are : (codes : List (List Instr)) → list_all is_short_code codes ≡ true → AllByRecursion KeepsRules codes → All IsCode codes
codes_are codes short rules =
    λ k d lt. record { short = ltb-false 4096 _ (not-true _ (AllPass-from_list_all is_short_code codes short k d lt)); each = All-from_recursion (IsInstr (length (get_or codes k d))) (get_or codes k d) (All-from_recursion KeepsRules codes rules k d lt) }

pub codes_rules : (codes : List (List Instr)) → All IsCode codes → AllByRecursion KeepsRules codes
codes_rules codes rules = recursion_from_All KeepsRules codes (λ k d lt. recursion_from_All (IsInstr (length (get_or codes k d))) (get_or codes k d) (rules k d lt).each)

pub codes_short : (codes : List (List Instr)) → All IsCode codes → list_all is_short_code codes ≡ true
codes_short codes rules = list_all-from_AllPass is_short_code codes (λ k d lt. not_from_false _ (le-ltb 4096 _ (rules k d lt).short))

two_pass : (a b : Bool) (rest : Option ImageFault) → cond (not a) (Some (whole_fault kind.Counts)) (cond (not b) (Some (whole_fault kind.Counts)) rest) ≡ None → (a ≡ true) × (b ≡ true) × (rest ≡ None)
two_pass false b rest e = absurd cc
two_pass true false rest e = absurd cc
two_pass true true rest e = (refl, refl, e)

pub program_keeps : (p : ProgramValue) → program_fault p ≡ None → IsProgram p
unfolding program_fault
program_keeps p e =
    let all = two_pass (is_count 15 (length p.threads) && is_count 4096 (length p.words)) (list_all is_short_code p.threads) (codes_fault 0 p.threads) e in
    let counts = and_parts (is_count 15 (length p.threads)) (is_count 4096 (length p.words)) all.0 in
    let threads = count_holds 15 (length p.threads) counts.0 in
    let words = count_holds 4096 (length p.words) counts.1 in
    record { some_words = words.0; most_words = words.1; some_threads = threads.0; most_threads = threads.1; each = codes_are p.threads all.1 (codes_keep 0 p.threads all.2) }

pub program_fault_none : (p : ProgramValue) → IsProgram p → program_fault p ≡ None
unfolding program_fault
program_fault_none p rules =
    let counts = and_from (is_count 15 (length p.threads)) (is_count 4096 (length p.words)) (is_count_from 15 (length p.threads) rules.some_threads rules.most_threads) (is_count_from 4096 (length p.words) rules.some_words rules.most_words) in
    rw (counts, codes_short p.threads rules.each) (codes_fault_none 0 p.threads (codes_rules p.threads rules.each))
