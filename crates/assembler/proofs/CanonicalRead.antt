-- The canonical text of a program is read as this program.
use Rattle.std.proofs.Common.{◌≡◌, ℕ, ◌+◌, ◌<◌, ◌≤◌, ◌^◌, true, false, cond, ◌&&◌, ltb, leb, List, [], ◌∷◌, ◌++◌, length, set, replicate, None, Some, Result, Ok, Err, All, decimal, refl, sym, ap, ◌∙◌, ⊎_elim, arith, flat_map, codes, length-append, append_assoc}
use Rattle.std.proofs.lemmas.Bool.{and_from, lt-ltb, le-leb, lt-leb, ne_eqb, eq-eqb, cases_eq}
use Rattle.std.proofs.lemmas.List.{append-nil}
use Rattle.std.proofs.lemmas.List.Elements.{recursion_from_All}
use Rattle.std.proofs.Math.Seq.{set-append_seam}
use Rattle.std.specs.List.{AllByRecursion}
use Rattle.machine.specs.declared.program.Instr.{Instr}
use Rattle.machine.specs.Programs.{ProgramValue, IsProgram, IsCode, IsInstr, uses_a, uses_b, uses_c, uses_imm}
use Rattle.machine.specs.Images.{HasNumbers}
use Rattle.assembler.specs.declared.asm_fault.AsmFault.{AsmFault}
use Rattle.assembler.specs.declared.asm_fault.AsmKind.TheVariants as kind
use Rattle.assembler.specs.Lines.{lines_of}
use Rattle.assembler.specs.Mnemonics.{mnemonic_of}
use Rattle.assembler.specs.Words.{head_of, is_operation, begins_thread}
use Rattle.assembler.specs.Numerals.{number_of, both}
use Rattle.assembler.specs.Parts.{Parts, parts_of}
use Rattle.assembler.specs.Labels.{Scope, no_scope, scope_from, with_line}
use Rattle.assembler.specs.Progress.{Progress, start, threads_of, with_words, with_value, with_instr, take_item}
use Rattle.assembler.specs.Assembled.{assembled, assembled_from}
use Rattle.assembler.specs.Canonical.{spaced, init_line, init_lines, register_text, number_text, instr_line, thread_text, canonical}
use Rattle.assembler.proofs.Scopes.{scope_done, scope_end, scope_more}
use Rattle.assembler.proofs.Texts.{from_done, from_line, next, finished_begun}
use Rattle.assembler.proofs.Decimals.{number_decimal}
use Rattle.assembler.proofs.Tokens.{IsWord, joined, line_first, line_taken, parts_joined}
use Rattle.assembler.proofs.Mnemonics.{mnemonic_word, head_mnemonic}
use Rattle.assembler.proofs.OperandsBack.{operand_tokens, instr_back, operand_words, operands_spaced, decimal_word}

abbrev Answer : Type 0
Answer = Result ProgramValue AsmFault

-- a text that begins with a line of words goes on after it
line_read : (p q : Progress) (n : ℕ) (w : List ℕ) (ws : List (List ℕ)) (rest text : List ℕ) (t : Answer) → text ≡ joined w ws ++ 10 ∷ rest → IsWord w → AllByRecursion IsWord ws
    → (is_operation (head_of w) ≡ true → p.has_begun ≡ true) → take_item p n (head_of w) ws (lines_of rest) ≡ Ok q → assembled_from q (n + 1) (lines_of rest) ≡ t → assembled_from p n (lines_of text) ≡ t
line_read p q n w ws rest text t e h g begun taken same =
    ap (λ x. assembled_from p n (lines_of x)) e ∙ ap (assembled_from p n) (line_first w ws rest h g)
    ∙ from_line p n (joined w ws) (lines_of rest) ∙ ap (next (lines_of rest) n) (line_taken p n w ws (lines_of rest) h g begun ∙ taken) ∙ same

-- the line of an instruction
instr_text : (i : Instr) (more rest : List ℕ) → (instr_line i ++ more) ++ rest ≡ joined (mnemonic_of i.op) (operand_tokens i) ++ 10 ∷ (more ++ rest)
instr_text i more rest =
    let m = mnemonic_of i.op in
    let a = register_text (uses_a i.op) i.a in
    let b = register_text (uses_b i.op) i.b in
    let d = register_text (uses_c i.op) i.c in
    let n = number_text (uses_imm i.op) i.imm in
    let left : (instr_line i ++ more) ++ rest ≡ m ++ ((a ++ (b ++ (d ++ n))) ++ 10 ∷ (more ++ rest)) = simp append_assoc in
    let right : joined m (operand_tokens i) ++ 10 ∷ (more ++ rest) ≡ m ++ (flat_map spaced (operand_tokens i) ++ 10 ∷ (more ++ rest)) = append_assoc m (flat_map spaced (operand_tokens i)) (10 ∷ (more ++ rest)) in
    left ∙ sym (right ∙ ap (λ t. m ++ (t ++ 10 ∷ (more ++ rest))) (operands_spaced i))

-- in a thread
abbrev at : List ℕ → List (List Instr) → List Instr → Scope → Progress
at words done code scope = record { words = words; is_fresh = false; has_begun = true; done = done; code = code; scope = scope }

record IsGood (len : ℕ) (i : Instr) : Type 0 where
  rules : IsInstr len i
  small : i.imm < 2 ^ 32

instr_taken : (words : List ℕ) (done : List (List Instr)) (code : List Instr) (scope : Scope) (n : ℕ) (i : Instr) (lines : List (List ℕ)) → IsGood scope.len i → length code < 4096
    → take_item (at words done code scope) n (head_of (mnemonic_of i.op)) (operand_tokens i) lines ≡ Ok (at words done (code ++ i ∷ []) scope)
instr_taken words done code scope n i lines good room =
    ap (λ h. take_item (at words done code scope) n h (operand_tokens i) lines) (head_mnemonic i.op)
    ∙ ap (with_instr (at words done code scope)) (instr_back i scope good.rules good.small)
    ∙ ap (λ b. cond b (Err kind.TooMany) (Ok (at words done (code ++ i ∷ []) scope))) (lt-leb 4096 (length code) room)

-- the instructions of a thread
code_read : (words : List ℕ) (done : List (List Instr)) (scope : Scope) (is code : List Instr) (n : ℕ) (rest : List ℕ) (t : Answer) → length code + length is ≤ 4096 → AllByRecursion (IsGood scope.len) is
    → ((m : ℕ) → assembled_from (at words done (code ++ is) scope) m (lines_of rest) ≡ t) → assembled_from (at words done code scope) n (lines_of (flat_map instr_line is ++ rest)) ≡ t
code_read words done scope [] code n rest t h good more = ap (λ c. assembled_from (at words done c scope) n (lines_of rest)) (sym (append-nil code)) ∙ more n
code_read words done scope (i ∷ is) code n rest t h good more =
    let len : length (code ++ i ∷ []) ≡ length code + 1 = length-append code (i ∷ []) in
    line_read (at words done code scope) (at words done (code ++ i ∷ []) scope) n (mnemonic_of i.op) (operand_tokens i) (flat_map instr_line is ++ rest) _ t (instr_text i (flat_map instr_line is) rest)
    (mnemonic_word i.op) (operand_words i good.0.rules.registers good.0.small) (λ _. refl) (instr_taken words done code scope n i (lines_of (flat_map instr_line is ++ rest)) good.0 (omega arith))
    (code_read words done scope is (code ++ i ∷ []) (n + 1) rest t (omega arith) good.1
    (λ m. ap (λ c. assembled_from (at words done c scope) m (lines_of rest)) (append_assoc code (i ∷ []) is) ∙ more m))

abbrev scope_of : ℕ → Scope
scope_of len = record { labels = []; len = len }

thread_word : IsWord (codes ".thread")
thread_word = record { some = refl; all = refl }

-- a text that is empty or begins a thread
after_thread : (s : Scope) (n : ℕ) (threads : List (List Instr)) → scope_from s n (lines_of (flat_map thread_text threads)) ≡ s
after_thread s n [] = scope_done s n
after_thread s n (code ∷ threads) =
    let rest : List ℕ = flat_map instr_line code ++ flat_map thread_text threads in
    ap (λ ls. scope_from s n ls) (line_first (codes ".thread") [] rest thread_word tt)
    ∙ scope_end s n (joined (codes ".thread") []) (lines_of rest) (ap (λ (q : Parts). begins_thread q.head) (parts_joined (codes ".thread") [] thread_word tt))

abbrev instr_parts : Instr → Parts
instr_parts i = record { label = None; head = head_of (mnemonic_of i.op); operands = operand_tokens i }

-- the scope of a thread's text
scope_is : (len : ℕ) (is : List Instr) (k n : ℕ) (threads : List (List Instr)) → AllByRecursion (IsGood len) is → scope_from (scope_of k) n (lines_of (flat_map instr_line is ++ flat_map thread_text threads)) ≡ scope_of (k + length is)
scope_is len [] k n threads good = after_thread (scope_of k) n threads ∙ ap scope_of (omega arith)
scope_is len (i ∷ is) k n threads good =
    let rest : List ℕ = flat_map instr_line is ++ flat_map thread_text threads in
    let words : AllByRecursion IsWord (operand_tokens i) = operand_words i good.0.rules.registers good.0.small in
    let parts : parts_of (joined (mnemonic_of i.op) (operand_tokens i)) ≡ instr_parts i = parts_joined (mnemonic_of i.op) (operand_tokens i) (mnemonic_word i.op) words in
    ap (λ x. scope_from (scope_of k) n (lines_of x)) (instr_text i (flat_map instr_line is) (flat_map thread_text threads))
    ∙ ap (λ ls. scope_from (scope_of k) n ls) (line_first (mnemonic_of i.op) (operand_tokens i) rest (mnemonic_word i.op) words)
    ∙ scope_more (scope_of k) n (joined (mnemonic_of i.op) (operand_tokens i)) (lines_of rest) (ap (λ (q : Parts). begins_thread q.head) parts ∙ ap begins_thread (head_mnemonic i.op))
    ∙ ap (λ (q : Parts). scope_from (with_line (scope_of k) n q) (n + 1) (lines_of rest)) parts
    ∙ ap (λ h. scope_from (with_line (scope_of k) n (record { label = None; head = h; operands = operand_tokens i })) (n + 1) (lines_of rest)) (head_mnemonic i.op)
    ∙ scope_is len is (k + 1) (n + 1) threads good.1 ∙ ap scope_of (omega arith)

record IsGoodCode (code : List Instr) : Type 0 where
  short : length code ≤ 4096
  each : AllByRecursion (IsGood (length code)) code

thread_taken : (p : Progress) (n : ℕ) (code : List Instr) (threads : List (List Instr)) → IsGoodCode code → length (threads_of p) < 15
    → take_item p n (head_of (codes ".thread")) [] (lines_of (flat_map instr_line code ++ flat_map thread_text threads)) ≡ Ok (at p.words (threads_of p) [] (scope_of (length code)))
thread_taken p n code threads good room =
    let lines : List (List ℕ) = lines_of (flat_map instr_line code ++ flat_map thread_text threads) in
    ap (λ b. cond b (Err kind.TooMany) (Ok (at p.words (threads_of p) [] (scope_from no_scope (n + 1) lines)))) (lt-leb 15 (length (threads_of p)) room)
    ∙ ap (λ s. Ok (at p.words (threads_of p) [] s)) (scope_is (length code) code 0 (n + 1) threads good.each ∙ ap scope_of (omega arith))

abbrev with_threads : List ℕ → List (List Instr) → Answer
with_threads words threads = Ok (record { words = words; threads = threads })

-- the threads of a program
threads_read : (threads : List (List Instr)) (p : Progress) (n : ℕ) → AllByRecursion IsGoodCode threads → length (threads_of p) + length threads ≤ 15 → (threads ≡ [] → p.has_begun ≡ true)
    → assembled_from p n (lines_of (flat_map thread_text threads)) ≡ with_threads p.words (threads_of p ++ threads)
threads_read [] p n good room begun = from_done p n ∙ finished_begun p n (begun refl) ∙ ap (with_threads p.words) (sym (append-nil (threads_of p)))
threads_read (code ∷ threads) p n good room begun =
    let rest : List ℕ = flat_map thread_text threads in
    let scope : Scope = scope_of (length code) in
    let done : List (List Instr) = threads_of p in
    let len : length (done ++ code ∷ []) ≡ length done + 1 = length-append done (code ∷ []) in
    line_read p (at p.words done [] scope) n (codes ".thread") [] (flat_map instr_line code ++ rest) (flat_map thread_text (code ∷ threads)) _ refl thread_word tt (λ e. absurd (cc))
    (thread_taken p n code threads good.0 (omega arith))
    (code_read p.words done scope code [] (n + 1) rest _ (omega (arith, good.0.short)) good.0.each
    (λ m. threads_read threads (at p.words done code scope) m good.1 (omega arith) (λ _. refl) ∙ ap (with_threads p.words) (append_assoc done (code ∷ []) threads)))

-- before the first thread, after an item
abbrev before : List ℕ → Progress
before words = record { words = words; is_fresh = false; has_begun = false; done = []; code = []; scope = no_scope }

init_word : IsWord (codes ".init")
init_word = record { some = refl; all = refl }

init_taken : (done rest : List ℕ) (v n : ℕ) (lines : List (List ℕ)) → length done < 4096 → v < 2 ^ 32
    → take_item (before (done ++ 0 ∷ rest)) n (head_of (codes ".init")) (decimal (length done) ∷ decimal v ∷ []) lines ≡ Ok (before (done ++ v ∷ rest))
init_taken done rest v n lines h small =
    let words : List ℕ = done ++ 0 ∷ rest in
    let within : length done < length words = omega (arith, length-append done (0 ∷ rest)) in
    let fits : (ltb (length done) (length words) && leb v 4294967295) ≡ true = and_from (ltb (length done) (length words)) (leb v 4294967295) (lt-ltb (length done) (length words) within) (le-leb v 4294967295 (omega arith)) in
    ap (λ o. with_value (before words) (both o (number_of (decimal v)))) (number_decimal (length done) (omega arith))
    ∙ ap (λ o. with_value (before words) (both (Some (length done)) o)) (number_decimal v (omega arith))
    ∙ ap (λ b. cond b (Ok (before (set words (length done) v))) (Err kind.Number)) fits
    ∙ ap (λ ws. Ok (before ws)) (set-append_seam done 0 rest v)

-- the initial values
inits_read : (vs done : List ℕ) (n : ℕ) (rest : List ℕ) (t : Answer) → length done + length vs ≤ 4096 → AllByRecursion (λ v. v < 2 ^ 32) vs
    → ((m : ℕ) → assembled_from (before (done ++ vs)) m (lines_of rest) ≡ t) → assembled_from (before (done ++ replicate (length vs) 0)) n (lines_of (init_lines (length done) vs ++ rest)) ≡ t
unfolding init_lines
inits_read [] done n rest t h small more = more n
inits_read (v ∷ vs) done n rest t h small more =
    let len : length (done ++ v ∷ []) ≡ length done + 1 = length-append done (v ∷ []) in
    let zeros : List ℕ = replicate (length vs) 0 in
    let on : (m : ℕ) → assembled_from (before (done ++ v ∷ zeros)) m (lines_of (init_lines (length done + 1) vs ++ rest)) ≡ t =
    (λ m.
    ap (λ ws. assembled_from (before ws) m (lines_of (init_lines (length done + 1) vs ++ rest))) (sym (append_assoc done (v ∷ []) zeros))
    ∙ ap (λ k. assembled_from (before ((done ++ v ∷ []) ++ zeros)) m (lines_of (init_lines k vs ++ rest))) (sym len)
    ∙ inits_read vs (done ++ v ∷ []) m rest t (omega arith) small.1 (λ k. ap (λ ws. assembled_from (before ws) k (lines_of rest)) (append_assoc done (v ∷ []) vs) ∙ more k)) in
    ⊎_elim
    (λ (e : v ≡ 0).
    ap (λ k. assembled_from (before (done ++ k ∷ zeros)) n (lines_of (init_lines (length done) (v ∷ vs) ++ rest))) (sym e)
    ∙ ap (λ b. assembled_from (before (done ++ v ∷ zeros)) n (lines_of ((cond b [] (init_line (length done) v) ++ init_lines (length done + 1) vs) ++ rest))) (eq-eqb v 0 e)
    ∙ on n)
    (λ (e : v ≡ 0 → ⊥).
    ap (λ b. assembled_from (before (done ++ 0 ∷ zeros)) n (lines_of ((cond b [] (init_line (length done) v) ++ init_lines (length done + 1) vs) ++ rest))) (ne_eqb v 0 e)
    ∙ line_read (before (done ++ 0 ∷ zeros)) (before (done ++ v ∷ zeros)) n (codes ".init") (decimal (length done) ∷ decimal v ∷ []) (init_lines (length done + 1) vs ++ rest) ((init_line (length done) v ++ init_lines (length done + 1) vs) ++ rest) t
    (simp append_assoc) init_word (decimal_word (length done) (omega arith), (decimal_word v (omega arith), tt)) (λ f. absurd (cc))
    (init_taken done zeros v n (lines_of (init_lines (length done + 1) vs ++ rest)) (omega arith) small.0) (on (n + 1)))
    (cases_eq v 0)

words_word : IsWord (codes ".words")
words_word = record { some = refl; all = refl }

words_taken : (count : ℕ) (n : ℕ) (lines : List (List ℕ)) → 1 ≤ count → count ≤ 4096 → take_item start n (head_of (codes ".words")) (decimal count ∷ []) lines ≡ Ok (before (replicate count 0))
words_taken count n lines low high =
    ap (with_words start) (number_decimal count (omega arith))
    ∙ ap (λ b. cond b (Ok (before (replicate count 0))) (Err kind.Number)) (and_from (leb 1 count) (leb count 4096) (le-leb 1 count low) (le-leb count 4096 high))

good_code : (len : ℕ) (code : List Instr) → AllByRecursion (IsInstr len) code → AllByRecursion (λ (i : Instr). i.imm < 2 ^ 32) code → AllByRecursion (IsGood len) code
good_code len [] h g = tt
good_code len (i ∷ is) h g = (record { rules = h.0; small = g.0 }, good_code len is h.1 g.1)

good_threads : (threads : List (List Instr)) → AllByRecursion IsCode threads → AllByRecursion (All (λ (i : Instr). i.imm < 2 ^ 32)) threads → AllByRecursion IsGoodCode threads
good_threads [] h g = tt
good_threads (code ∷ threads) h g = (
  record { short = h.0.short; each = good_code (length code) code (recursion_from_All (IsInstr (length code)) code h.0.each) (recursion_from_All (λ (i : Instr). i.imm < 2 ^ 32) code g.0) },
  good_threads threads h.1 g.1,
)

-- the law
pub canonical_read : (p : ProgramValue) → IsProgram p → HasNumbers p → assembled (canonical p) ≡ Ok p
canonical_read p rules small =
    let rest : List ℕ = flat_map thread_text p.threads in
    line_read start (before (replicate (length p.words) 0)) 1 (codes ".words") (decimal (length p.words) ∷ []) (init_lines 0 p.words ++ rest) (canonical p) _
    (simp append_assoc) words_word (decimal_word (length p.words) (omega (arith, rules.most_words)), tt) (λ f. absurd (cc))
    (words_taken (length p.words) 1 (lines_of (init_lines 0 p.words ++ rest)) rules.some_words rules.most_words)
    (inits_read p.words [] 2 rest _ (omega (arith, rules.most_words)) (recursion_from_All (λ v. v < 2 ^ 32) p.words small.words)
    (λ m. threads_read p.threads (before p.words) m (good_threads p.threads (recursion_from_All IsCode p.threads rules.each) (recursion_from_All (All (λ (i : Instr). i.imm < 2 ^ 32)) p.threads small.imms))
    (omega (arith, rules.most_threads)) (λ e. absurd (omega (arith, ap length e, rules.some_threads)))))
