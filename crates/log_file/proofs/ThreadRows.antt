-- The logs of threads, row after row: what is read stands there, and what stands there is read.
use Rattle.std.proofs.Common.{◌≡◌, ℕ, ◌+◌, ◌*◌, ◌^◌, ◌<◌, ◌≤◌, List, [], ◌∷◌, ◌++◌, length, take, drop, get_or, map, All, Ok, refl, sym, ap, subst, ◌∙◌, append_assoc, arith, length-append}
use Rattle.std.specs.List.{flat_map}
use Rattle.std.proofs.lemmas.List.{append-nil, length-map, get_or-map, map-append, take_more, take-append-drop, length-take-le, take_all}
use Rattle.std.proofs.lemmas.List.Sums.{sum_by-cons, sum_by-append}
use Rattle.light_base.specs.Numbers.{IsBytes}
use Rattle.replay_model.specs.Logs.{ThreadLog}
use Rattle.log_file.specs.Spelling.{entries_bytes, taken_bytes, entry_count, taken_count}
use Rattle.log_file.specs.Rows.{rows}
use Rattle.log_file.specs.LogReading.{Header, no_header, thread_at, next_thread, threads_in, steps_of, header_entries, header_taken}
use Rattle.log_file.proofs.Pieces.{length-entries, length-numbers}
use Rattle.log_file.proofs.RowLaws.{AllAfter, AllAfter-map, AllAfter-both, AllAfter-from, rows_take, rows_again, StandsAt, rows_stand, rows_stood}
use Rattle.log_file.proofs.RowReads.{entries_left, taken_left, entries_more, taken_more}
use Rattle.log_file.proofs.ThreadLaws.{AreNext}
use Rattle.log_file.proofs.ThreadReads.{header_of_thread, IsLogged, thread_take, thread_again}

abbrev pub headers_of : List ThreadLog → List Header
headers_of threads = map header_of_thread threads

-- threads count what their headers count
pub entries_counted : (threads : List ThreadLog) → entry_count threads ≡ header_entries (headers_of threads)
entries_counted [] = refl
entries_counted (t ∷ threads) =
    sum_by-cons (λ (u : ThreadLog). length u.entries) t threads ∙ ap (λ (n : ℕ). length t.entries + n) (entries_counted threads) ∙ sym (sum_by-cons (λ (h : Header). h.entries) (header_of_thread t) (headers_of threads))

pub taken_counted : (threads : List ThreadLog) → taken_count threads ≡ header_taken (headers_of threads)
taken_counted [] = refl
taken_counted (t ∷ threads) =
    sum_by-cons (λ (u : ThreadLog). length u.taken) t threads ∙ ap (λ (n : ℕ). length t.taken + n) (taken_counted threads) ∙ sym (sum_by-cons (λ (h : Header). h.taken) (header_of_thread t) (headers_of threads))

-- the first headers and one more count no more than all
entries_most : (headers : List Header) (k : ℕ) → k < length headers → header_entries (take k headers) + (get_or headers k no_header).entries ≤ header_entries headers
entries_most headers k lt =
    let whole : header_entries headers ≡ header_entries (take k headers) + header_entries (drop k headers) =
    ap header_entries (sym (take-append-drop k headers)) ∙ sum_by-append (λ (h : Header). h.entries) (take k headers) (drop k headers) in
    omega (arith, whole, entries_left headers k lt)

taken_most : (headers : List Header) (k : ℕ) → k < length headers → header_taken (take k headers) + (get_or headers k no_header).taken ≤ header_taken headers
taken_most headers k lt =
    let whole : header_taken headers ≡ header_taken (take k headers) + header_taken (drop k headers) =
    ap header_taken (sym (take-append-drop k headers)) ∙ sum_by-append (λ (h : Header). h.taken) (take k headers) (drop k headers) in
    omega (arith, whole, taken_left headers k lt)

module _ (words : ℕ) (headers : List Header) (bytes : List ℕ) (at from : ℕ) where
  abbrev entries_from : List ThreadLog → ℕ
  entries_from before = at + 14 * entry_count before

  abbrev taken_from : List ThreadLog → ℕ
  taken_from before = from + 4 * taken_count before

  entries_from-more : (before : List ThreadLog) (t : ThreadLog) → entries_from (before ++ t ∷ []) ≡ entries_from before + 14 * length t.entries
  entries_from-more before t = omega (arith, entries_more before t)

  taken_from-more : (before : List ThreadLog) (t : ThreadLog) → taken_from (before ++ t ∷ []) ≡ taken_from before + 4 * length t.taken
  taken_from-more before t = omega (arith, taken_more before t)

  -- the log of a thread that was read by its header, behind those before it
  abbrev pub IsNextLog : List ThreadLog → ThreadLog → Type 0
  IsNextLog before t = IsLogged words (steps_of headers) (get_or headers (length before) no_header) bytes (entries_from before) (taken_from before) t

  module _ (fits : IsBytes bytes) (entries_there : at + 14 * header_entries headers ≤ length bytes) (taken_there : from + 4 * header_taken headers ≤ length bytes) where
    one_more : (before : List ThreadLog) (t : ThreadLog) → headers_of before ≡ take (length before) headers → length before < length headers → next_thread words headers bytes at from before ≡ Ok t →
        IsNextLog before t × (headers_of (before ++ t ∷ []) ≡ take (length (before ++ t ∷ [])) headers)
    one_more before t same less read =
        let k = length before in
        let h = get_or headers k no_header in
        let es : entry_count before ≡ header_entries (take k headers) = entries_counted before ∙ ap header_entries same in
        let ns : taken_count before ≡ header_taken (take k headers) = taken_counted before ∙ ap header_taken same in
        let logged = thread_take words (steps_of headers) h bytes (entries_from before) (taken_from before) t fits (omega (arith, es, entries_most headers k less, entries_there)) (omega (arith, ns, taken_most headers k less, taken_there)) read in
        let longer : length (before ++ t ∷ []) ≡ k + 1 = length-append before (t ∷ []) in (
          logged,
          map-append header_of_thread before (t ∷ []) ∙ ap (λ (hs : List Header). hs ++ header_of_thread t ∷ []) same ∙ ap (λ (x : Header). take k headers ++ x ∷ []) logged.header ∙
              sym (take_more headers k no_header less) ∙ ap (λ (n : ℕ). take n headers) (sym longer),
        )

    each_logged : (before new : List ThreadLog) → headers_of before ≡ take (length before) headers → length before + length new ≤ length headers → AllAfter (λ b t. next_thread words headers bytes at from b ≡ Ok t) before new →
        AllAfter IsNextLog before new × (headers_of (before ++ new) ≡ take (length (before ++ new)) headers)
    each_logged before [] same most all = (tt, ap headers_of (append-nil before) ∙ same ∙ ap (λ (ts : List ThreadLog). take (length ts) headers) (sym (append-nil before)))
    each_logged before (t ∷ new) same most all =
        let one = one_more before t same (omega arith) all.0 in
        let others = each_logged (before ++ t ∷ []) new one.1 (omega (arith, length-append before (t ∷ []))) all.1 in
        let regroup : (before ++ t ∷ []) ++ new ≡ before ++ (t ∷ new) = append_assoc before (t ∷ []) new in
        ((one.0, others.0), subst (λ (ts : List ThreadLog). headers_of ts ≡ take (length ts) headers) regroup others.1)

    -- threads that were read: their headers, what each is, and where all stand
    pub threads_take : (threads : List ThreadLog) → threads_in words headers bytes at from ≡ Ok threads →
        (headers_of threads ≡ headers) × AllAfter IsNextLog [] threads × (drop at bytes ≡ flat_map entries_bytes threads ++ drop (at + 14 * header_entries headers) bytes) ×
        (drop from bytes ≡ flat_map taken_bytes threads ++ drop (from + 4 * header_taken headers) bytes)
    threads_take threads e =
        let (new, parts, count, read) = rows_take (next_thread words headers bytes at from) (length headers) [] threads e in
        let all = each_logged [] new refl (omega (arith, count)) read in
        let same : headers_of new ≡ headers = all.1 ∙ ap (λ (n : ℕ). take n headers) count ∙ take_all (length headers) headers (omega arith) in
        let entries = rows_stand entries_bytes bytes entries_from [] new
        (AllAfter-map IsNextLog (StandsAt entries_bytes bytes entries_from) (λ b t l. l.entries_stand ∙ ap (λ (k : ℕ). entries_bytes t ++ drop k bytes) (sym (entries_from-more b t))) [] new all.0) in
        let taken = rows_stand taken_bytes bytes taken_from [] new
        (AllAfter-map IsNextLog (StandsAt taken_bytes bytes taken_from) (λ b t l. l.taken_stand ∙ ap (λ (k : ℕ). taken_bytes t ++ drop k bytes) (sym (taken_from-more b t))) [] new all.0) in
        let at_start : at ≡ at + 14 * entry_count [] = omega arith in
        let from_start : from ≡ from + 4 * taken_count [] = omega arith in
        let at_end : entries_from new ≡ at + 14 * header_entries headers = omega (arith, entries_counted new, ap header_entries same) in
        let from_end : taken_from new ≡ from + 4 * header_taken headers = omega (arith, taken_counted new, ap header_taken same) in
        let P : List ThreadLog → Type 0 = λ ts. (headers_of ts ≡ headers) × AllAfter IsNextLog [] ts × (drop at bytes ≡ flat_map entries_bytes ts ++ drop (at + 14 * header_entries headers) bytes) ×
        (drop from bytes ≡ flat_map taken_bytes ts ++ drop (from + 4 * header_taken headers) bytes) in
        subst P (sym parts) (
          same,
          all.0,
          ap (λ (k : ℕ). drop k bytes) at_start ∙ entries ∙ ap (λ (k : ℕ). flat_map entries_bytes new ++ drop k bytes) at_end,
          ap (λ (k : ℕ). drop k bytes) from_start ∙ taken ∙ ap (λ (k : ℕ). flat_map taken_bytes new ++ drop k bytes) from_end,
        )

-- what makes the log of a thread one that is read: its entries may stand there, and its numbers fit
pub record IsReadable (words : ℕ) (steps : List ℕ) (t : ThreadLog) : Type 0 where
  pub next : AreNext words steps t.steps t.entries
  pub short : t.steps < 2 ^ 32
  pub numbers : All (λ n. n < 2 ^ 32) t.taken

module _ (words : ℕ) (threads : List ThreadLog) (bytes : List ℕ) (at from : ℕ) where
  abbrev entries_of_before : List ThreadLog → ℕ
  entries_of_before before = at + 14 * entry_count before

  abbrev taken_of_before : List ThreadLog → ℕ
  taken_of_before before = from + 4 * taken_count before

  -- the log of a thread, its header, and where it stands
  abbrev IsThere : List ThreadLog → ThreadLog → Type 0
  IsThere b t = (IsReadable words (steps_of (headers_of threads)) t × (get_or (headers_of threads) (length b) no_header ≡ header_of_thread t)) ×
      (StandsAt entries_bytes bytes entries_of_before b t × StandsAt taken_bytes bytes taken_of_before b t)

  each_read : words < 2 ^ 16 → (b : List ThreadLog) (t : ThreadLog) → IsThere b t → next_thread words (headers_of threads) bytes at from b ≡ Ok t
  each_read few b t r =
      ap (λ (h : Header). thread_at words (steps_of (headers_of threads)) h bytes (entries_of_before b) (taken_of_before b)) r.0.1 ∙
      thread_again words (steps_of (headers_of threads)) bytes (entries_of_before b) (taken_of_before b) t (drop (entries_of_before (b ++ t ∷ [])) bytes) (drop (taken_of_before (b ++ t ∷ [])) bytes) few r.0.0.short r.0.0.next r.0.0.numbers
      r.1.0 r.1.1

  -- threads whose logs stand there are read by their headers
  pub threads_again : (entries_rest taken_rest : List ℕ) → words < 2 ^ 16 → All (IsReadable words (steps_of (headers_of threads))) threads →
      drop at bytes ≡ flat_map entries_bytes threads ++ entries_rest → drop from bytes ≡ flat_map taken_bytes threads ++ taken_rest → threads_in words (headers_of threads) bytes at from ≡ Ok threads
  threads_again entries_rest taken_rest few readable entries_stand taken_stand =
      let start : at ≡ entries_of_before [] = omega arith in
      let from_start : from ≡ taken_of_before [] = omega arith in
      let entries_next : (b : List ThreadLog) (t : ThreadLog) → entries_of_before (b ++ t ∷ []) ≡ entries_of_before b + length (entries_bytes t) = λ b t. omega (arith, entries_more b t, length-entries t.entries) in
      let taken_next : (b : List ThreadLog) (t : ThreadLog) → taken_of_before (b ++ t ∷ []) ≡ taken_of_before b + length (taken_bytes t) = λ b t. omega (arith, taken_more b t, length-numbers t.taken) in
      let entries = rows_stood entries_bytes bytes entries_of_before entries_next [] threads entries_rest (ap (λ (k : ℕ). drop k bytes) (sym start) ∙ entries_stand) in
      let taken = rows_stood taken_bytes bytes taken_of_before taken_next [] threads taken_rest (ap (λ (k : ℕ). drop k bytes) (sym from_start) ∙ taken_stand) in
      let told : AllAfter (λ b t. IsReadable words (steps_of (headers_of threads)) t × (get_or (headers_of threads) (length b) no_header ≡ header_of_thread t)) [] threads =
      AllAfter-from (λ b t. IsReadable words (steps_of (headers_of threads)) t × (get_or (headers_of threads) (length b) no_header ≡ header_of_thread t)) [] threads
      (λ i d lt. (
        readable i d lt,
        ap (λ (k : ℕ). get_or (headers_of threads) k no_header) (length-take-le i threads (omega arith)) ∙ get_or-map header_of_thread threads i d no_header lt,
      )) in
      let stand = AllAfter-both (StandsAt entries_bytes bytes entries_of_before) (StandsAt taken_bytes bytes taken_of_before) [] threads entries.0 taken.0 in
      let both = AllAfter-both _ _ [] threads told stand in
      ap (rows (next_thread words (headers_of threads) bytes at from)) (length-map threads header_of_thread) ∙
      rows_again (next_thread words (headers_of threads) bytes at from) [] threads (AllAfter-map IsThere (λ b t. next_thread words (headers_of threads) bytes at from b ≡ Ok t) (each_read few) [] threads both)

  -- and what stands behind them
  pub behind_entries : (rest : List ℕ) → drop at bytes ≡ flat_map entries_bytes threads ++ rest → drop (at + 14 * header_entries (headers_of threads)) bytes ≡ rest
  behind_entries rest stands =
      let start : at ≡ entries_of_before [] = omega arith in
      let next : (b : List ThreadLog) (t : ThreadLog) → entries_of_before (b ++ t ∷ []) ≡ entries_of_before b + length (entries_bytes t) = λ b t. omega (arith, entries_more b t, length-entries t.entries) in
      let stood = rows_stood entries_bytes bytes entries_of_before next [] threads rest (ap (λ (k : ℕ). drop k bytes) (sym start) ∙ stands) in
      ap (λ (n : ℕ). drop (at + 14 * n) bytes) (sym (entries_counted threads)) ∙ stood.1

  pub behind_taken : (rest : List ℕ) → drop from bytes ≡ flat_map taken_bytes threads ++ rest → drop (from + 4 * header_taken (headers_of threads)) bytes ≡ rest
  behind_taken rest stands =
      let start : from ≡ taken_of_before [] = omega arith in
      let next : (b : List ThreadLog) (t : ThreadLog) → taken_of_before (b ++ t ∷ []) ≡ taken_of_before b + length (taken_bytes t) = λ b t. omega (arith, taken_more b t, length-numbers t.taken) in
      let stood = rows_stood taken_bytes bytes taken_of_before next [] threads rest (ap (λ (k : ℕ). drop k bytes) (sym start) ∙ stands) in
      ap (λ (n : ℕ). drop (from + 4 * n) bytes) (sym (taken_counted threads)) ∙ stood.1
