-- Every program that a text says keeps the rules of programs.
use Rattle.std.proofs.Common.{◌≡◌, ℕ, ◌+◌, ◌<◌, ◌≤◌, Bool, true, false, cond, not, ◌&&◌, ◌||◌, ltb, leb, List, [], ◌∷◌, ◌++◌, length, set, replicate, Option, None, Some, is_some, All, Result, Ok, Err, refl, sym, ap, ◌∙◌, subst, ◌⊎◌, inl, inr, ⊎_elim, arith, length-append}
use Rattle.std.proofs.lemmas.Bool.{and_parts, leb-true, leb-false, cases_Bool}
use Rattle.std.proofs.lemmas.List.{length-replicate, length-set}
use Rattle.std.proofs.lemmas.List.Elements.{All-nil, All-push}
use Rattle.std.specs.Prelude.{bytes_eq}
use Rattle.machine.specs.declared.program.Instr.{Instr}
use Rattle.machine.specs.declared.program.Op.{Op}
use Rattle.machine.specs.Programs.{ProgramValue, IsProgram, IsCode, IsInstr}
use Rattle.assembler.specs.declared.asm_fault.AsmKind.{AsmKind}
use Rattle.assembler.specs.declared.asm_fault.AsmKind.TheVariants as kind
use Rattle.assembler.specs.declared.head.Head.TheVariants as head
use Rattle.assembler.specs.Lines.{lines_of}
use Rattle.assembler.specs.Words.{Head, begins_thread, instructions_of, is_operation}
use Rattle.assembler.specs.Numerals.{one_number, two_numbers}
use Rattle.assembler.specs.Parts.{Parts, parts_of, is_plain}
use Rattle.assembler.specs.Labels.{Label, Labels, Scope, find_label, with_label, with_line, scope_from, no_scope, is_twice}
use Rattle.assembler.specs.Operands.{instr_of}
use Rattle.assembler.specs.Progress.{Progress, start, threads_of, ended, with_words, with_value, take_thread, with_instr, take_item, take_parts, take_line, has_bad_label, wants_thread}
use Rattle.assembler.specs.Assembled.{assembled, assembled_from, program_of, line_fault}
use Rattle.assembler.proofs.InstrRules.{AreWithin, if_ok, then_ok, instr_rules}
use Rattle.assembler.proofs.Scopes.{scope_done, scope_end, scope_more}
use Rattle.assembler.proofs.Texts.{from_done, from_line, next}

-- how many instructions a line and those after it have, up to the next that begins a thread
abbrev with_head : Head → ℕ → ℕ
with_head h more = cond (begins_thread h) 0 (instructions_of h + more)

ahead : List (List ℕ) → ℕ
ahead [] = 0
ahead (l ∷ ls) = with_head (parts_of l).head (ahead ls)

ahead_done : ahead [] ≡ 0
unfolding ahead
ahead_done = refl

ahead_line : (l : List ℕ) (ls : List (List ℕ)) → ahead (l ∷ ls) ≡ with_head (parts_of l).head (ahead ls)
unfolding ahead
ahead_line l ls = refl

with_head_is : (h : Head) (more : ℕ) (b : Bool) → begins_thread h ≡ b → with_head h more ≡ cond b 0 (instructions_of h + more)
with_head_is h more b e = ap (λ c. cond c 0 (instructions_of h + more)) e

-- a scope has the instructions of its lines
scope_len : (s : Scope) (n : ℕ) (ls : List (List ℕ)) → (scope_from s n ls).len ≡ s.len + ahead ls
scope_len s n [] = ap (λ (t : Scope). t.len) (scope_done s n) ∙ omega (arith, ahead_done)
scope_len s n (l ∷ ls) =
    ⊎_elim
    (λ (e : begins_thread (parts_of l).head ≡ true). ap (λ (t : Scope). t.len) (scope_end s n l ls e) ∙ omega (arith, ahead_line l ls, with_head_is (parts_of l).head (ahead ls) true e))
    (λ (e : begins_thread (parts_of l).head ≡ false).
    ap (λ (t : Scope). t.len) (scope_more s n l ls e) ∙ scope_len (with_line s n (parts_of l)) (n + 1) ls
    ∙ omega (arith, ahead_line l ls, with_head_is (parts_of l).head (ahead ls) false e))
    (cases_Bool (begins_thread (parts_of l).head))

-- what is found after one more entry was there, or is the new one
find_push : (name : List ℕ) (labels : Labels) (key : List ℕ) (v l : Label) → find_label name (labels ++ (key, v) ∷ []) ≡ Some l → (find_label name labels ≡ Some l) ⊎ (l ≡ v)
find_push name [] key v l h = by (bytes_eq name key) h
  where
    by : (b : Bool) → cond b (Some v) None ≡ Some l → (find_label name [] ≡ Some l) ⊎ (l ≡ v)
    by true e = inr (cc)
    by false e = absurd (cc)
find_push name (x ∷ labels) key v l h = by (find_push name labels key v l) (bytes_eq name x.0) refl h
  where
    by : (find_label name (labels ++ (key, v) ∷ []) ≡ Some l → (find_label name labels ≡ Some l) ⊎ (l ≡ v)) → (b : Bool) → bytes_eq name x.0 ≡ b
        → cond b (Some x.1) (find_label name (labels ++ (key, v) ∷ [])) ≡ Some l → (find_label name (x ∷ labels) ≡ Some l) ⊎ (l ≡ v)
    by rest true e f = inl (ap (λ b. cond b (Some x.1) (find_label name labels)) e ∙ f)
    by rest false e f = ⊎_elim (λ g. inl (ap (λ b. cond b (Some x.1) (find_label name labels)) e ∙ g)) inr (rest f)

-- one more label is within, where its place is
label_within : (labels : Labels) (line place len : ℕ) (label : Option (List ℕ)) → AreWithin labels len → place ≤ len → AreWithin (with_label labels line place label) len
label_within labels line place len None within low = within
label_within labels line place len (Some key) within low = by (is_some (find_label key labels))
  where
    by : (b : Bool) → AreWithin (cond b labels (labels ++ (key, record { line = line; place = place }) ∷ [])) len
    by true = within
    by false = λ name l h. ⊎_elim (within name l) (λ (e : l ≡ record { line = line; place = place }). omega (arith, ap (λ (x : Label). x.place) e)) (find_push name labels key _ l h)

-- a scope's labels are within its length
scope_within : (s : Scope) (n : ℕ) (ls : List (List ℕ)) (len : ℕ) → AreWithin s.labels len → s.len + ahead ls ≤ len → AreWithin (scope_from s n ls).labels len
scope_within s n [] len within low = let P : Scope → Type 0 = λ t. AreWithin t.labels len in subst P (sym (scope_done s n)) within
scope_within s n (l ∷ ls) len within low =
    let P : Scope → Type 0 = λ t. AreWithin t.labels len in
    ⊎_elim
    (λ (e : begins_thread (parts_of l).head ≡ true). subst P (sym (scope_end s n l ls e)) within)
    (λ (e : begins_thread (parts_of l).head ≡ false).
    subst P (sym (scope_more s n l ls e))
    (scope_within (with_line s n (parts_of l)) (n + 1) ls len (label_within s.labels n s.len len (parts_of l).label within (omega arith))
    (omega (arith, ahead_line l ls, with_head_is (parts_of l).head (ahead ls) false e))))
    (cases_Bool (begins_thread (parts_of l).head))

-- the current thread counts where one has begun
threads_count : (b : Bool) (done : List (List Instr)) (code : List Instr) → length (cond b (done ++ code ∷ []) done) ≡ length done + cond b 1 0
threads_count true done code = length-append done (code ∷ [])
threads_count false done code = omega arith

-- the current thread, of which so many instructions are still to come
record Runs (p : Progress) (more : ℕ) : Type 0 where
  short : length p.code ≤ 4096
  each : All (IsInstr p.scope.len) p.code
  count : length p.code + more ≡ p.scope.len
  labels : AreWithin p.scope.labels p.scope.len

-- what the lines so far keep
record Keeps (p : Progress) (more : ℕ) : Type 0 where
  some_words : 1 ≤ length p.words
  most_words : length p.words ≤ 4096
  most_threads : length (threads_of p) ≤ 15
  done : All IsCode p.done
  running : p.has_begun ≡ true → Runs p more

keeps_more : (p : Progress) (m n : ℕ) → m ≡ n → Keeps p m → Keeps p n
keeps_more p m n e k = let P : ℕ → Type 0 = λ x. Keeps p x in subst P e k

-- with other words
keeps_words : (p : Progress) (more : ℕ) (ws : List ℕ) → Keeps p more → 1 ≤ length ws → length ws ≤ 4096 → Keeps (record p { words = ws; is_fresh = false }) more
keeps_words p more ws k low high = record {
  some_words = low;
  most_words = high;
  most_threads = k.most_threads;
  done = k.done;
  running = λ e. let r = k.running e in record { short = r.short; each = r.each; count = r.count; labels = r.labels };
}

words_keep : (p q : Progress) (more : ℕ) (o : Option ℕ) → Keeps p more → with_words p o ≡ Ok q → Keeps q more
words_keep p q more None k h = absurd (cc)
words_keep p q more (Some n) k h =
    let s = then_ok (leb 1 n && leb n 4096) (Ok (record p { words = replicate n 0; is_fresh = false })) kind.Number q h in
    let t = and_parts (leb 1 n) (leb n 4096) s.0 in
    let low : 1 ≤ n = leb-true 1 n t.0 in
    let high : n ≤ 4096 = leb-true n 4096 t.1 in
    let len : length {A = ℕ} (replicate n 0) ≡ n = length-replicate {A = ℕ} n 0 in
    let e : record p { words = replicate n 0; is_fresh = false } ≡ q = cc in
    let P : Progress → Type 0 = λ x. Keeps x more in
    subst P e (keeps_words p more (replicate n 0) k (omega arith) (omega arith))

value_keeps : (p q : Progress) (more : ℕ) (o : Option (ℕ × ℕ)) → Keeps p more → with_value p o ≡ Ok q → Keeps q more
value_keeps p q more None k h = absurd (cc)
value_keeps p q more (Some n) k h =
    let s = then_ok (ltb n.0 (length p.words) && leb n.1 4294967295) (Ok (record p { words = set p.words n.0 n.1; is_fresh = false })) kind.Number q h in
    let len : length (set p.words n.0 n.1) ≡ length p.words = length-set p.words n.0 n.1 in
    let e : record p { words = set p.words n.0 n.1; is_fresh = false } ≡ q = cc in
    let P : Progress → Type 0 = λ x. Keeps x more in
    subst P e (keeps_words p more (set p.words n.0 n.1) k (omega (arith, k.some_words)) (omega (arith, k.most_words)))

-- a thread that is over is a code
code_over : (p : Progress) → Runs p 0 → IsCode p.code
code_over p r = record { short = r.short; each = (let P : ℕ → Type 0 = λ len. All (IsInstr len) p.code in subst P (omega (arith, r.count)) r.each) }

threads_are : (p : Progress) → Keeps p 0 → All IsCode (threads_of p)
threads_are p k = by p.has_begun refl
  where
    by : (b : Bool) → p.has_begun ≡ b → All IsCode (cond b (p.done ++ p.code ∷ []) p.done)
    by true e = All-push IsCode p.done p.code k.done (code_over p (k.running e))
    by false e = k.done

thread_keeps : (p q : Progress) (line : ℕ) (operands ls : List (List ℕ)) → Keeps p 0 → take_thread p line operands ls ≡ Ok q → Keeps q (ahead ls)
thread_keeps p q line (o ∷ operands) ls k h = absurd (cc)
thread_keeps p q line [] ls k h =
    let new : Progress = record (ended p) { is_fresh = false; has_begun = true; scope = scope_from no_scope (line + 1) ls } in
    let s = if_ok (leb 15 (length (threads_of p))) (Ok new) kind.TooMany q h in
    let room : length (threads_of p) < 15 = leb-false 15 (length (threads_of p)) s.0 in
    let len : (scope_from no_scope (line + 1) ls).len ≡ 0 + ahead ls = scope_len no_scope (line + 1) ls in
    let none : AreWithin no_scope.labels (scope_from no_scope (line + 1) ls).len = (λ name l e. absurd (cc)) in
    let e : new ≡ q = cc in
    let P : Progress → Type 0 = λ x. Keeps x (ahead ls) in
    subst P e (record {
      some_words = k.some_words;
      most_words = k.most_words;
      most_threads = omega (arith, length-append (threads_of p) ([] ∷ []));
      done = threads_are p k;
      running = λ _. record {
        short = omega arith;
        each = All-nil (IsInstr (scope_from no_scope (line + 1) ls).len);
        count = omega arith;
        labels = scope_within no_scope (line + 1) ls (scope_from no_scope (line + 1) ls).len none (omega arith);
      };
    })

instr_keeps : (p q : Progress) (more : ℕ) (o : Op) (operands : List (List ℕ)) → Keeps p (1 + more) → p.has_begun ≡ true → with_instr p (instr_of o p.scope operands) ≡ Ok q → Keeps q more
instr_keeps p q more o operands k begun h = by (instr_of o p.scope operands) refl h
  where
    by : (r : Result Instr AsmKind) → instr_of o p.scope operands ≡ r → with_instr p r ≡ Ok q → Keeps q more
    by (Err x) e g = absurd (cc)
    by (Ok i) e g =
        let new : Progress = record p { is_fresh = false; code = p.code ++ i ∷ [] } in
        let s = if_ok (leb 4096 (length p.code)) (Ok new) kind.TooMany q g in
        let room : length p.code < 4096 = leb-false 4096 (length p.code) s.0 in
        let run = k.running begun in
        let len : length (p.code ++ i ∷ []) ≡ length p.code + 1 = length-append p.code (i ∷ []) in
        let f : new ≡ q = cc in
        let same : length (threads_of new) ≡ length (threads_of p) = threads_count p.has_begun p.done (p.code ++ i ∷ []) ∙ sym (threads_count p.has_begun p.done p.code) in
        let P : Progress → Type 0 = λ x. Keeps x more in
        subst P f (record {
          some_words = k.some_words;
          most_words = k.most_words;
          most_threads = omega (arith, k.most_threads);
          done = k.done;
          running = λ _. record {
            short = omega arith;
            each = All-push (IsInstr p.scope.len) p.code i run.each (instr_rules o p.scope operands i run.labels e);
            count = omega (arith, run.count);
            labels = run.labels;
          };
        })

item_keeps : (p q : Progress) (line : ℕ) (h : Head) (operands ls : List (List ℕ)) → Keeps p (with_head h (ahead ls)) → (is_operation h ≡ true → p.has_begun ≡ true) → take_item p line h operands ls ≡ Ok q → Keeps q (ahead ls)
item_keeps p q line head.Nothing operands ls k b g =
    let e : p ≡ q = cc in
    let P : Progress → Type 0 = λ x. Keeps x (ahead ls) in
    subst P e (keeps_more p (0 + ahead ls) (ahead ls) (omega arith) k)
item_keeps p q line head.Words operands ls k b g =
    words_keep p q (ahead ls) (one_number operands) (keeps_more p (0 + ahead ls) (ahead ls) (omega arith) k) (then_ok p.is_fresh (with_words p (one_number operands)) kind.Mnemonic q g).1
item_keeps p q line head.Init operands ls k b g =
    value_keeps p q (ahead ls) (two_numbers operands) (keeps_more p (0 + ahead ls) (ahead ls) (omega arith) k) (if_ok p.has_begun (with_value p (two_numbers operands)) kind.Mnemonic q g).1
item_keeps p q line head.Thread operands ls k b g = thread_keeps p q line operands ls k g
item_keeps p q line (head.Operation o) operands ls k b g = instr_keeps p q (ahead ls) o operands k (b refl) g
item_keeps p q line head.Unknown operands ls k b g = absurd (cc)

-- an operation that is taken stands in a thread
in_thread : (label : Bool) (operation : Bool) (begun : Bool) → ((label || operation) && not begun) ≡ false → operation ≡ true → begun ≡ true
in_thread label operation true e f = refl
in_thread true operation false e f = absurd (cc)
in_thread false true false e f = absurd (cc)
in_thread false false false e f = absurd (cc)

parts_keep : (p q : Progress) (line : ℕ) (parts : Parts) (ls : List (List ℕ)) → Keeps p (with_head parts.head (ahead ls)) → take_parts p line parts ls ≡ Ok q → Keeps q (ahead ls)
parts_keep p q line parts ls k h =
    let twice = cond (is_twice p.scope.labels line parts.label) (Err kind.LabelTwice) (take_item p line parts.head parts.operands ls) in
    let a = if_ok (has_bad_label parts) (cond (wants_thread parts && not p.has_begun) (Err kind.NoThread) twice) kind.Label q h in
    let b = if_ok (wants_thread parts && not p.has_begun) twice kind.NoThread q a.1 in
    let d = if_ok (is_twice p.scope.labels line parts.label) (take_item p line parts.head parts.operands ls) kind.LabelTwice q b.1 in
    item_keeps p q line parts.head parts.operands ls k (in_thread (is_some parts.label) (is_operation parts.head) p.has_begun b.0) d.1

line_keeps : (p q : Progress) (n : ℕ) (l : List ℕ) (ls : List (List ℕ)) → Keeps p (ahead (l ∷ ls)) → take_line p n l ls ≡ Ok q → Keeps q (ahead ls)
line_keeps p q n l ls k h =
    parts_keep p q n (parts_of l) ls (keeps_more p (ahead (l ∷ ls)) _ (ahead_line l ls) k) (if_ok (not (is_plain l)) (take_parts p n (parts_of l) ls) kind.NotAscii q h).1

end_rules : (p : Progress) → p.has_begun ≡ true → Keeps p 0 → IsProgram (program_of p)
end_rules p begun k = record {
  some_words = k.some_words;
  most_words = k.most_words;
  some_threads = omega (arith, threads_count p.has_begun p.done p.code, ap {B = ℕ} (λ b. cond b 1 0) begun);
  most_threads = k.most_threads;
  each = threads_are p k;
}

-- what the lines from here on say is a program
from_rules : (p : Progress) (n : ℕ) (ls : List (List ℕ)) (q : ProgramValue) → Keeps p (ahead ls) → assembled_from p n ls ≡ Ok q → IsProgram q
from_rules p n [] q k h =
    let s = then_ok p.has_begun (Ok (program_of p)) (line_fault n kind.NoThread) q (sym (from_done p n) ∙ h) in
    let e : program_of p ≡ q = cc in
    let P : ProgramValue → Type 0 = λ x. IsProgram x in
    subst P e (end_rules p s.0 (keeps_more p (ahead []) 0 ahead_done k))
from_rules p n (l ∷ ls) q k h = by (λ next_p. from_rules next_p (n + 1) ls q) (take_line p n l ls) refl (sym (from_line p n l ls) ∙ h)
  where
    by : ((x : Progress) → Keeps x (ahead ls) → assembled_from x (n + 1) ls ≡ Ok q → IsProgram q) → (r : Result Progress AsmKind) → take_line p n l ls ≡ r → next ls n r ≡ Ok q → IsProgram q
    by rest (Err x) e g = absurd (cc)
    by rest (Ok x) e g = rest x (line_keeps p x n l ls k e) g

start_keeps : (more : ℕ) → Keeps start more
start_keeps more = record {
  some_words = omega arith;
  most_words = omega arith;
  most_threads = omega arith;
  done = All-nil IsCode;
  running = λ e. absurd (cc);
}

-- the program that a text says keeps the rules of programs
pub assembled_rules : (text : List ℕ) (q : ProgramValue) → assembled text ≡ Ok q → IsProgram q
assembled_rules text q e = from_rules start 1 (lines_of text) q (start_keeps (ahead (lines_of text))) e
