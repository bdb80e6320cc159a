-- What a row is read as, from what a reader met.
use Rattle.std.proofs.Common.{◌≡◌, ℕ, zero, suc, ◌+◌, ◌*◌, ◌<◌, List, [], ◌∷◌, ◌++◌, length, drop, get_or, Option, Result, refl, sym, ap, ◌∙◌}
use Rattle.std.specs.Option.{ok_or}
use Rattle.std.specs.Int.{Width, byte_len}
use Rattle.std.proofs.lemmas.List.{drop_more}
use Rattle.std.proofs.lemmas.List.Sums.{sum_by-cons, sum_by_push}
use Rattle.light_base.specs.declared.tag.Tag.{Tag}
use Rattle.replay_model.specs.declared.Entry.{Entry}
use Rattle.replay_model.specs.Logs.{ThreadLog}
use Rattle.machine.specs.Reading.{numbers_at}
use Rattle.log_file.specs.LogFaults.{LogFault, fault}
use Rattle.log_file.specs.declared.log_fault.LogKind.TheVariants as kind
use Rattle.log_file.specs.Spelling.{entry_count, taken_count}
use Rattle.log_file.specs.LogReading.{Header, no_header, steps_of, header_entries, header_taken, thread_at, next_thread, number_at, tag_in, tag_at, next_last, entry_at, next_entry}

-- the tag at a place whose number was read
pub last_read : (steps bytes : List ℕ) (at : ℕ) (before : List Tag) (place n : ℕ) (tag : Option Tag) → place ≡ at + 4 * length before → n ≡ number_at bytes place → tag ≡ tag_in steps n →
    next_last steps bytes at before ≡ ok_or tag (fault kind.Source place)
last_read steps bytes at before place n tag same number is =
    ap (tag_at steps bytes) (sym same) ∙ ap (λ (m : ℕ). ok_or (tag_in steps m) (fault kind.Source place)) (sym number) ∙ ap (λ (t : Option Tag). ok_or t (fault kind.Source place)) (sym is)

-- the entry that was read behind so many others
pub entry_read : (words : ℕ) (steps : List ℕ) (own : ℕ) (bytes : List ℕ) (at : ℕ) (before : List Entry) (size i : ℕ) (r : Result Entry LogFault) → size ≡ words → length before ≡ i →
    r ≡ entry_at size steps own bytes (at + 14 * i) before → next_entry words steps own bytes at before ≡ r
entry_read words steps own bytes at before size i r same count read =
    ap (λ (n : ℕ). entry_at words steps own bytes (at + 14 * n) before) count ∙ ap (λ (n : ℕ). entry_at n steps own bytes (at + 14 * i) before) (sym same) ∙ sym read

-- ---- threads

-- the log of a thread that was read behind those of so many others
pub thread_read : (words : ℕ) (steps : List ℕ) (headers : List Header) (bytes : List ℕ) (entries_place taken_place : ℕ) (before : List ThreadLog) (i at from : ℕ) (r : Result ThreadLog LogFault) →
    steps ≡ steps_of headers → length before ≡ i → at ≡ entries_place + 14 * entry_count before → from ≡ taken_place + 4 * taken_count before →
    thread_at words steps (get_or headers i no_header) bytes at from ≡ r → next_thread words headers bytes entries_place taken_place before ≡ r
thread_read words steps headers bytes entries_place taken_place before i at from r same count here there read =
    ap (λ (k : ℕ). thread_at words (steps_of headers) (get_or headers k no_header) bytes (entries_place + 14 * entry_count before) (taken_place + 4 * taken_count before)) count ∙
    ap (λ (k : ℕ). thread_at words (steps_of headers) (get_or headers i no_header) bytes k (taken_place + 4 * taken_count before)) (sym here) ∙
    ap (λ (k : ℕ). thread_at words (steps_of headers) (get_or headers i no_header) bytes at k) (sym there) ∙
    ap (λ (xs : List ℕ). thread_at words xs (get_or headers i no_header) bytes at from) (sym same) ∙ read

-- the counts of the headers from one on are its own and those of the others
pub entries_left : (headers : List Header) (i : ℕ) → i < length headers → header_entries (drop i headers) ≡ (get_or headers i no_header).entries + header_entries (drop (i + 1) headers)
entries_left headers i lt =
    ap header_entries (drop_more headers i no_header lt) ∙ sum_by-cons (λ (h : Header). h.entries) (get_or headers i no_header) (drop (i + 1) headers)

pub taken_left : (headers : List Header) (i : ℕ) → i < length headers → header_taken (drop i headers) ≡ (get_or headers i no_header).taken + header_taken (drop (i + 1) headers)
taken_left headers i lt =
    ap header_taken (drop_more headers i no_header lt) ∙ sum_by-cons (λ (h : Header). h.taken) (get_or headers i no_header) (drop (i + 1) headers)

-- and those of threads' logs, with one more
pub entries_more : (threads : List ThreadLog) (t : ThreadLog) → entry_count (threads ++ t ∷ []) ≡ entry_count threads + length t.entries
entries_more threads t = sum_by_push (λ (u : ThreadLog). length u.entries) threads t

pub taken_more : (threads : List ThreadLog) (t : ThreadLog) → taken_count (threads ++ t ∷ []) ≡ taken_count threads + length t.taken
taken_more threads t = sum_by_push (λ (u : ThreadLog). length u.taken) threads t

-- there are as many numbers as are read
pub length-numbers_at : (w : Width) (n : ℕ) (bytes : List ℕ) → length (numbers_at w n bytes) ≡ n
unfolding numbers_at
length-numbers_at w zero bytes = refl
length-numbers_at w (suc n) bytes = ap suc (length-numbers_at w n (drop (byte_len w) bytes))
