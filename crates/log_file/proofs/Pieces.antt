-- The bytes of a list's items, one after the other, and how many they are.
use Rattle.std.proofs.Common.{◌≡◌, ℕ, suc, ◌+◌, ◌*◌, ◌<◌, ◌≤◌, List, [], ◌∷◌, ◌++◌, length, take, get_or, refl, sym, ◌∙◌, ap, subst, arith, length-append}
use Rattle.std.specs.List.{flat_map}
use Rattle.std.specs.Int.{w32, to_be_bytes}
use Rattle.light_base.specs.declared.tag.Tag.{Tag}
use Rattle.replay_model.specs.declared.Entry.{Entry}
use Rattle.replay_model.specs.Logs.{Limits, ThreadLog, Log}
use Rattle.log_file.specs.Versions.{Version, header_len}
use Rattle.log_file.specs.declared.version.Version.TheVariants.{One, Two}
use Rattle.log_file.specs.Spelling.{header_bytes, tag_bytes, entry_bytes, entries_bytes, taken_bytes, limits_bytes, head_bytes, spelling, spelling_in, entry_count, taken_count, text_len}
use Rattle.std.specs.Prelude.{All}
use Rattle.std.proofs.lemmas.List.{flat_map_more, take_more, take_all}
use Rattle.std.proofs.lemmas.List.Elements.{All-push}
use Rattle.std.proofs.lemmas.List.Sums.{sum_by-cons}

-- after the bytes of one more item
pub flat_map-take_more : {X : Type 0} (f : X → List ℕ) (front : List ℕ) (items : List X) (i : ℕ) (item : X) → i < length items → item ≡ get_or items i item →
    (front ++ flat_map f (take i items)) ++ f item ≡ front ++ flat_map f (take (i + 1) items)
flat_map-take_more {X} f front items i item within is =
    flat_map_more f front (take i items) item ∙
    ap (λ (xs : List X). front ++ flat_map f xs) (ap (λ (x : X). take i items ++ x ∷ []) is ∙ sym (take_more items i item within))

header-length : (version : Version) (t : ThreadLog) → length (header_bytes version t) ≡ header_len version
header-length One t = refl
header-length Two t = refl

pub length-headers : (version : Version) (threads : List ThreadLog) → length (flat_map (header_bytes version) threads) ≡ header_len version * length threads
length-headers version [] = omega arith
length-headers version (t ∷ threads) =
    length-append (header_bytes version t) (flat_map (header_bytes version) threads) ∙ ap (λ (n : ℕ). n + length (flat_map (header_bytes version) threads)) (header-length version t) ∙
    ap (λ (n : ℕ). header_len version + n) (length-headers version threads) ∙ grown (header_len version) (length threads)
  where
    grown : (len n : ℕ) → len + len * n ≡ len * suc n
    grown len n = omega arith

pub length-tags : (tags : List Tag) → length (flat_map tag_bytes tags) ≡ 4 * length tags
length-tags [] = refl
length-tags (t ∷ tags) = length-append (tag_bytes t) (flat_map tag_bytes tags) ∙ omega (arith, length-tags tags)

pub length-entries : (entries : List Entry) → length (flat_map entry_bytes entries) ≡ 14 * length entries
length-entries [] = refl
length-entries (e ∷ entries) = length-append (entry_bytes e) (flat_map entry_bytes entries) ∙ omega (arith, length-entries entries)

pub length-numbers : (numbers : List ℕ) → length (flat_map (to_be_bytes w32) numbers) ≡ 4 * length numbers
length-numbers [] = refl
length-numbers (n ∷ numbers) = length-append (to_be_bytes w32 n) (flat_map (to_be_bytes w32) numbers) ∙ omega (arith, length-numbers numbers)

pub length-all_entries : (threads : List ThreadLog) → length (flat_map entries_bytes threads) ≡ 14 * entry_count threads
length-all_entries [] = refl
length-all_entries (t ∷ threads) =
    let count : entry_count (t ∷ threads) ≡ length t.entries + entry_count threads = sum_by-cons (λ (u : ThreadLog). length u.entries) t threads in
    length-append (entries_bytes t) (flat_map entries_bytes threads) ∙ omega (arith, length-entries t.entries, length-all_entries threads)

pub length-all_taken : (threads : List ThreadLog) → length (flat_map taken_bytes threads) ≡ 4 * taken_count threads
length-all_taken [] = refl
length-all_taken (t ∷ threads) =
    let count : taken_count (t ∷ threads) ≡ length t.taken + taken_count threads = sum_by-cons (λ (u : ThreadLog). length u.taken) t threads in
    length-append (taken_bytes t) (flat_map taken_bytes threads) ∙ omega (arith, length-numbers t.taken, length-all_taken threads)

length-limits : (l : Limits) → length (limits_bytes l) ≡ 12
unfolding limits_bytes
length-limits l = refl

length-head : (log : Log) → length log.digest ≡ 32 → length (head_bytes Two log) ≡ 51
unfolding head_bytes
length-head log digest = simp length-append (omega (arith, digest, length-limits log.limits))

-- the text of a log is as long as it should be
pub length-spelling : (log : Log) → length log.digest ≡ 32 → length (spelling log) ≡ text_len log
unfolding spelling_in
length-spelling log digest =
    let headers = flat_map (header_bytes Two) log.threads in
    let tags = flat_map tag_bytes log.last_tags in
    let entries = flat_map entries_bytes log.threads in
    let taken = flat_map taken_bytes log.threads in
    omega (
      arith,
      length-head log digest,
      length-headers Two log.threads,
      length-tags log.last_tags,
      length-all_entries log.threads,
      length-all_taken log.threads,
      length-append (((head_bytes Two log ++ headers) ++ tags) ++ entries) taken,
      length-append ((head_bytes Two log ++ headers) ++ tags) entries,
      length-append (head_bytes Two log ++ headers) tags,
      length-append (head_bytes Two log) headers,
    )

-- five pieces, written one after the other
pub written : (log : Log) (one two three four five : List ℕ) → one ≡ head_bytes Two log → two ≡ one ++ flat_map (header_bytes Two) log.threads → three ≡ two ++ flat_map tag_bytes log.last_tags →
    four ≡ three ++ flat_map entries_bytes log.threads → five ≡ four ++ flat_map taken_bytes log.threads → five ≡ spelling log
unfolding spelling_in
written log one two three four five p q r s t =
    t ∙ ap (λ bytes. bytes ++ flat_map taken_bytes log.threads) (s ∙ ap (λ bytes. bytes ++ flat_map entries_bytes log.threads) (r ∙
    ap (λ bytes. bytes ++ flat_map tag_bytes log.last_tags) (q ∙ ap (λ bytes. bytes ++ flat_map (header_bytes Two) log.threads) p)))

-- ---- what holds of each item

-- of the first items and one more
pub All-take_more : {X : Type 0} (P : X → Type 0) (items : List X) (i : ℕ) (item : X) → i < length items → item ≡ get_or items i item → All P (take i items) → P item → All P (take (i + 1) items)
All-take_more {X} P items i item within is all one =
    subst (All P) (sym (take_more items i item within ∙ ap (λ (x : X). take i items ++ x ∷ []) (sym is))) (All-push P (take i items) item all one)

-- and of as many as there are
pub All-taken_all : {X : Type 0} (P : X → Type 0) (items : List X) (i : ℕ) → length items ≤ i → All P (take i items) → All P items
All-taken_all P items i le all = subst (All P) (take_all i items le) all
