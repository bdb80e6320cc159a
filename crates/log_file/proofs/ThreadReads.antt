-- The log of a thread: what is read stands in the bytes, and what stands there is read.
use Rattle.std.proofs.Common.{◌≡◌, ℕ, ◌+◌, ◌*◌, ◌^◌, ◌<◌, ◌≤◌, List, [], ◌∷◌, ◌++◌, length, drop, All, Ok, sym, ap, subst, ◌∙◌, arith, length-append}
use Rattle.std.specs.List.{flat_map}
use Rattle.std.specs.Int.{w32, to_be_bytes}
use Rattle.std.proofs.lemmas.List.{length-drop, drop-drop}
use Rattle.std.proofs.lemmas.List.Elements.{All-from_recursion, recursion_from_All}
use Rattle.light_base.specs.Numbers.{IsBytes}
use Rattle.replay_model.specs.declared.Entry.{Entry}
use Rattle.replay_model.specs.Logs.{ThreadLog}
use Rattle.machine.specs.Reading.{numbers_at}
use Rattle.machine.proofs.ImageNumbers.{IsBytes-drop, wide32, numbers_take, numbers_again}
use Rattle.log_file.specs.Spelling.{entry_bytes, entries_bytes, taken_bytes}
use Rattle.log_file.specs.LogReading.{Header, next_entry, entries_at, thread_at}
use Rattle.log_file.proofs.RowLaws.{AllAfter-map, AllAfter-both, AllAfter-counted, ok_then, rows_take, rows_again, StandsAt, rows_stand, rows_stood}
use Rattle.log_file.proofs.EntryLaws.{IsNext, entry_at-take, entry_at-again}
use Rattle.log_file.proofs.ThreadLaws.{AreNext}

-- the header of a thread's log
abbrev pub header_of_thread : ThreadLog → Header
header_of_thread t = record { end = t.end; steps = t.steps; instr = t.instr; entries = length t.entries; taken = length t.taken }

module _ (words : ℕ) (steps : List ℕ) (own : ℕ) (bytes : List ℕ) (at : ℕ) where
  -- where an entry stands behind these
  abbrev place : List Entry → ℕ
  place before = at + 14 * length before

  place-more : (before : List Entry) (e : Entry) → place (before ++ e ∷ []) ≡ place before + 14
  place-more before e = omega (arith, length-append before (e ∷ []))

  -- entries that were read stand there, each where it may
  pub entries_take : (n : ℕ) (entries : List Entry) → IsBytes bytes → at + 14 * n ≤ length bytes → entries_at words steps own bytes at n ≡ Ok entries →
      (length entries ≡ n) × AreNext words steps own entries × (drop at bytes ≡ flat_map entry_bytes entries ++ drop (at + 14 * n) bytes)
  entries_take n entries fits there e =
      let (new, parts, count, read) = rows_take (next_entry words steps own bytes at) n [] entries e in
      let counted = AllAfter-counted (λ b x. next_entry words steps own bytes at b ≡ Ok x) n [] new (omega (arith, count)) read in
      let each : (b : List Entry) (x : Entry) → (next_entry words steps own bytes at b ≡ Ok x) × (length b < n) → IsNext words steps own b x × StandsAt entry_bytes bytes place b x =
      λ b x h.
      let one = entry_at-take words steps own bytes (place b) b x fits (omega (arith, h.1)) h.0 in
      (one.0, one.1 ∙ ap (λ (k : ℕ). entry_bytes x ++ drop k bytes) (sym (place-more b x))) in
      let next : AreNext words steps own new = AllAfter-map _ (IsNext words steps own) (λ b x h. (each b x h).0) [] new counted in
      let stand = rows_stand entry_bytes bytes place [] new (AllAfter-map _ (StandsAt entry_bytes bytes place) (λ b x h. (each b x h).1) [] new counted) in
      let start : at ≡ place [] = omega arith in
      let end : place new ≡ at + 14 * n = omega (arith, count) in
      let stands : drop at bytes ≡ flat_map entry_bytes new ++ drop (at + 14 * n) bytes =
      ap (λ (k : ℕ). drop k bytes) start ∙ stand ∙ ap (λ (k : ℕ). flat_map entry_bytes new ++ drop k bytes) end in
      let P : List Entry → Type 0 = λ es. (length es ≡ n) × AreNext words steps own es × (drop at bytes ≡ flat_map entry_bytes es ++ drop (at + 14 * n) bytes) in
      subst P (sym parts) (count, next, stands)

  -- entries that stand there, each where it may, are read
  pub entries_again : (entries : List Entry) (rest : List ℕ) → words < 2 ^ 16 → own < 2 ^ 32 → AreNext words steps own entries → drop at bytes ≡ flat_map entry_bytes entries ++ rest →
      entries_at words steps own bytes at (length entries) ≡ Ok entries
  entries_again entries rest few short next stands =
      let start : at ≡ place [] = omega arith in
      let stood = rows_stood entry_bytes bytes place place-more [] entries rest (ap (λ (k : ℕ). drop k bytes) (sym start) ∙ stands) in
      let both = AllAfter-both (IsNext words steps own) (StandsAt entry_bytes bytes place) [] entries next stood.0 in
      rows_again (next_entry words steps own bytes at) [] entries
      (AllAfter-map _ (λ b x. next_entry words steps own bytes at b ≡ Ok x) (λ b x h. entry_at-again words steps own bytes (place b) b x (drop (place (b ++ x ∷ [])) bytes) few short h.0 h.1) [] entries both)

-- ---- threads

-- the log of a thread that was read by this header, and where it stands
pub record IsLogged (words : ℕ) (steps : List ℕ) (h : Header) (bytes : List ℕ) (at from : ℕ) (t : ThreadLog) : Type 0 where
  pub header : header_of_thread t ≡ h
  pub next : AreNext words steps t.steps t.entries
  pub numbers : All (λ n. n < 2 ^ 32) t.taken
  pub entries_stand : drop at bytes ≡ entries_bytes t ++ drop (at + 14 * length t.entries) bytes
  pub taken_stand : drop from bytes ≡ taken_bytes t ++ drop (from + 4 * length t.taken) bytes

pub thread_take : (words : ℕ) (steps : List ℕ) (h : Header) (bytes : List ℕ) (at from : ℕ) (t : ThreadLog) → IsBytes bytes → at + 14 * h.entries ≤ length bytes → from + 4 * h.taken ≤ length bytes →
    thread_at words steps h bytes at from ≡ Ok t → IsLogged words steps h bytes at from t
unfolding thread_at
thread_take words steps h bytes at from t fits entries_there taken_there e =
    let read = ok_then (entries_at words steps h.steps bytes at h.entries) _ t e in
    let es : List Entry = read.0 in
    let are = entries_take words steps h.steps bytes at h.entries es fits entries_there read.1 in
    let taken = numbers_take w32 (2 ^ 32) wide32 h.taken (drop from bytes) (IsBytes-drop from bytes fits) (omega (arith, length-drop from bytes)) in
    let ns = numbers_at w32 h.taken (drop from bytes) in
    let made : ThreadLog = record { entries = es; steps = h.steps; instr = h.instr; end = h.end; taken = ns } in
    let same : made ≡ t = cc read.2 in
    let entries_end : at + 14 * h.entries ≡ at + 14 * length es = omega (arith, are.0) in
    let taken_end : from + h.taken * 4 ≡ from + 4 * length ns = omega (arith, taken.len) in
    let header : header_of_thread made ≡ h = let a = are.0 in let b = taken.len in λ j. record { end = h.end; steps = h.steps; instr = h.instr; entries = a j; taken = b j } in
    subst (IsLogged words steps h bytes at from) same
    (record {
      header = header;
      next = are.1;
      numbers = All-from_recursion (λ n. n < 2 ^ 32) ns taken.below;
      entries_stand = are.2 ∙ ap (λ (k : ℕ). flat_map entry_bytes es ++ drop k bytes) entries_end;
      taken_stand = taken.parts ∙ ap (λ (xs : List ℕ). flat_map (to_be_bytes w32) ns ++ xs) (drop-drop (h.taken * 4) from bytes ∙ ap (λ (k : ℕ). drop k bytes) taken_end);
    })

pub thread_again : (words : ℕ) (steps : List ℕ) (bytes : List ℕ) (at from : ℕ) (t : ThreadLog) (entries_rest taken_rest : List ℕ) → words < 2 ^ 16 → t.steps < 2 ^ 32 → AreNext words steps t.steps t.entries →
    All (λ n. n < 2 ^ 32) t.taken → drop at bytes ≡ entries_bytes t ++ entries_rest → drop from bytes ≡ taken_bytes t ++ taken_rest → thread_at words steps (header_of_thread t) bytes at from ≡ Ok t
unfolding thread_at
thread_again words steps bytes at from t entries_rest taken_rest few short next numbers entries_stand taken_stand =
    let es = entries_again words steps t.steps bytes at t.entries entries_rest few short next entries_stand in
    let ns : numbers_at w32 (length t.taken) (drop from bytes) ≡ t.taken =
    ap (numbers_at w32 (length t.taken)) taken_stand ∙ numbers_again w32 (2 ^ 32) wide32 t.taken taken_rest (recursion_from_All (λ n. n < 2 ^ 32) t.taken numbers) in
    rw es (ap (λ (xs : List ℕ). Ok (record { entries = t.entries; steps = t.steps; instr = t.instr; end = t.end; taken = xs })) ns)
