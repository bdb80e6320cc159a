-- The head of a log: what is read is in range and stands in front, and what is in range is read where it stands.
use Rattle.std.proofs.Common.{◌≡◌, ℕ, ◌≤◌, true, eqb, ltb, not, ◌&&◌, List, [], ◌∷◌, ◌++◌, length, take, drop, Ok, refl, sym, ap, subst, ◌∙◌, arith}
use Rattle.std.specs.Prelude.{slice_index, slice_range}
use Rattle.std.specs.List.{starts_with}
use Rattle.std.specs.Int.{w16, w32, to_be_bytes}
use Rattle.std.proofs.lemmas.Bool.{and_parts, and_from, not-false, ltb-false, le-ltb}
use Rattle.std.proofs.lemmas.Slice.Eq.{bytes_eq-Decides}
use Rattle.std.proofs.lemmas.List.{take-append-drop, take_at, drop-drop, drop_more, length-append}
use Rattle.light_base.specs.Numbers.{IsBytes}
use Rattle.replay_model.specs.Logs.{Limits, Log}
use Rattle.replay_model.specs.WellFormed.{IsInRange}
use Rattle.machine.specs.Faults.{are_counts, is_count}
use Rattle.machine.proofs.Rules.{count_holds, is_count_from}
use Rattle.log_file.specs.Versions.{Version, magic_of}
use Rattle.log_file.specs.declared.version.Version.TheVariants.{One, Two}
use Rattle.log_file.specs.LogFaults.{fault}
use Rattle.log_file.specs.declared.log_fault.LogKind.TheVariants as kind
use Rattle.log_file.specs.Spelling.{limits_bytes, head_bytes}
use Rattle.log_file.specs.LogReading.{Head, reaches, half_at, number_at, limits_in, are_limits, head_in}
use Rattle.log_file.proofs.HeadTests.{limits_keep, limits_pass}
use Rattle.log_file.proofs.RowLaws.{ok_then}
use Rattle.log_file.proofs.FieldLaws.{joined, parted, behind, number_take, half_take, number_again, half_again, byte_again}
use Rattle.log_file.proofs.EntryLaws.{passed}

-- where the bytes reach a place
pub reaches-take : (bytes : List ℕ) (place : ℕ) (u : Prim.Unit {0}) → reaches bytes place ≡ Ok u → place ≤ length bytes
unfolding reaches
reaches-take bytes place u e = ltb-false (length bytes) place (passed (ltb (length bytes) place) (fault kind.Short (length bytes)) (Ok tt) u e).0

pub reaches-again : (bytes : List ℕ) (place : ℕ) → place ≤ length bytes → reaches bytes place ≡ Ok tt
unfolding reaches
reaches-again bytes place le = rw (le-ltb (length bytes) place le) refl

abbrev pub head_of_log : Log → Head
head_of_log log = record { threads = length log.threads; words = length log.last_tags; limits = log.limits }

-- a head that was read
pub record IsHead (version : Version) (bytes : List ℕ) (head : Head) : Type 0 where
  pub there : 51 ≤ length bytes
  pub range : IsInRange head.threads head.words head.limits
  pub begins : take 4 bytes ≡ magic_of version
  pub threads_are : slice_index bytes 4 ≡ head.threads
  pub words_are : half_at bytes 5 ≡ head.words
  pub limits_are : limits_in bytes ≡ head.limits

in_range : (threads words : ℕ) (limits : Limits) → (are_counts threads words && are_limits limits) ≡ true → IsInRange threads words limits
in_range threads words limits h =
    let a = and_parts (are_counts threads words) (are_limits limits) h in
    let b = and_parts (is_count 15 threads) (is_count 4096 words) a.0 in
    let t = count_holds 15 threads b.0 in
    let w = count_holds 4096 words b.1 in
    let l = limits_keep limits a.1 in
    record {
      some_thread = t.0;
      threads = t.1;
      some_word = w.0;
      words = w.1;
      steps = omega (arith, l.steps);
      instr = omega (arith, l.instr);
      entries = l.entries;
    }

range_tested : (threads words : ℕ) (limits : Limits) → IsInRange threads words limits → (are_counts threads words && are_limits limits) ≡ true
range_tested threads words limits r =
    and_from (are_counts threads words) (are_limits limits)
    (and_from (is_count 15 threads) (is_count 4096 words) (is_count_from 15 threads r.some_thread r.threads) (is_count_from 4096 words r.some_word r.words))
    (limits_pass limits (record { steps = omega (arith, r.steps); instr = omega (arith, r.instr); entries = r.entries }))

begins-take : (version : Version) (bytes : List ℕ) → starts_with eqb bytes (magic_of version) ≡ true → take 4 bytes ≡ magic_of version
begins-take One bytes h = sym ((bytes_eq-Decides (magic_of One) (take 4 bytes)).0 h)
begins-take Two bytes h = sym ((bytes_eq-Decides (magic_of Two) (take 4 bytes)).0 h)

pub head_take : (version : Version) (bytes : List ℕ) (head : Head) → head_in version bytes ≡ Ok head → IsHead version bytes head
unfolding head_in
head_take version bytes head e =
    let reach = ok_then (reaches bytes 51) _ head e in
    let begin = passed (not (starts_with eqb bytes (magic_of version))) (fault kind.Magic 0) _ head reach.2 in
    let range = passed (not (are_counts (slice_index bytes 4) (half_at bytes 5) && are_limits (limits_in bytes))) (fault kind.Counts 4) _ head begin.1 in
    let same : record { threads = slice_index bytes 4; words = half_at bytes 5; limits = limits_in bytes } ≡ head = cc range.1 in
    let kept = in_range (slice_index bytes 4) (half_at bytes 5) (limits_in bytes) (not-false _ range.0) in
    record {
      there = reaches-take bytes 51 reach.0 reach.1;
      range = subst (λ (h : Head). IsInRange h.threads h.words h.limits) same kept;
      begins = begins-take version bytes (not-false _ begin.0);
      threads_are = ap (λ (h : Head). h.threads) same;
      words_are = ap (λ (h : Head). h.words) same;
      limits_are = ap (λ (h : Head). h.limits) same;
    }

-- a head that was read is there
pub head_there : (version : Version) (bytes : List ℕ) (head : Head) → head_in version bytes ≡ Ok head → 51 ≤ length bytes
head_there version bytes head e = (head_take version bytes head e).there

-- the parts of a head, one behind the other
abbrev parts : List ℕ → ℕ → ℕ → List ℕ → Limits → List ℕ
parts begin threads words digest limits =
    begin ++ threads ∷ [] ++ to_be_bytes w16 words ++ digest ++ (to_be_bytes w32 limits.steps ++ to_be_bytes w32 limits.instr ++ to_be_bytes w32 limits.entries)

parts-are : (version : Version) (log : Log) → parts (magic_of version) (length log.threads) (length log.last_tags) log.digest log.limits ≡ head_bytes version log
unfolding head_bytes limits_bytes
parts-are version log = refl

parts_stand : (bytes : List ℕ) → IsBytes bytes → 51 ≤ length bytes → bytes ≡ parts (take 4 bytes) (slice_index bytes 4) (half_at bytes 5) (slice_range bytes 7 39) (limits_in bytes) ++ drop 51 bytes
parts_stand bytes fits there =
    let m = take 4 bytes in
    let t = slice_index bytes 4 ∷ [] in
    let w = to_be_bytes w16 (half_at bytes 5) in
    let d = slice_range bytes 7 39 in
    let n : ℕ → List ℕ = λ k. to_be_bytes w32 (number_at bytes k) in
    let a : bytes ≡ m ++ drop 4 bytes = sym (take-append-drop 4 bytes) in
    let b : drop 4 bytes ≡ t ++ drop 5 bytes = drop_more bytes 4 0 (omega arith) in
    let c = half_take bytes fits 5 7 refl (omega arith) in
    let e : drop 7 bytes ≡ d ++ drop 39 bytes = sym (take-append-drop 32 (drop 7 bytes)) ∙ ap (λ (xs : List ℕ). d ++ xs) (drop-drop 32 7 bytes) in
    let f = number_take bytes fits 39 43 refl (omega arith) in
    let g = number_take bytes fits 43 47 refl (omega arith) in
    let h = number_take bytes fits 47 51 refl there in
    let fg = joined (drop 39 bytes) (n 39) (drop 43 bytes) (n 43) (drop 47 bytes) f g in
    let fgh = joined (drop 39 bytes) (n 39 ++ n 43) (drop 47 bytes) (n 47) (drop 51 bytes) fg h in
    let ab = joined bytes m (drop 4 bytes) t (drop 5 bytes) a b in
    let abc = joined bytes (m ++ t) (drop 5 bytes) w (drop 7 bytes) ab c in
    let abce = joined bytes (m ++ t ++ w) (drop 7 bytes) d (drop 39 bytes) abc e in
    joined bytes (m ++ t ++ w ++ d) (drop 39 bytes) (n 39 ++ n 43 ++ n 47) (drop 51 bytes) abce fgh

-- the head that was read stands in front of the bytes
pub head_stands : (version : Version) (bytes : List ℕ) (log : Log) → IsBytes bytes → IsHead version bytes (head_of_log log) → slice_range bytes 7 39 ≡ log.digest → bytes ≡ head_bytes version log ++ drop 51 bytes
head_stands version bytes log fits h digest =
    let same : parts (take 4 bytes) (slice_index bytes 4) (half_at bytes 5) (slice_range bytes 7 39) (limits_in bytes) ≡ parts (magic_of version) (length log.threads) (length log.last_tags) log.digest log.limits =
    ap (λ (m : List ℕ). parts m (slice_index bytes 4) (half_at bytes 5) (slice_range bytes 7 39) (limits_in bytes)) h.begins ∙
    ap (λ (k : ℕ). parts (magic_of version) k (half_at bytes 5) (slice_range bytes 7 39) (limits_in bytes)) h.threads_are ∙
    ap (λ (k : ℕ). parts (magic_of version) (length log.threads) k (slice_range bytes 7 39) (limits_in bytes)) h.words_are ∙
    ap (λ (d : List ℕ). parts (magic_of version) (length log.threads) (length log.last_tags) d (limits_in bytes)) digest ∙
    ap (parts (magic_of version) (length log.threads) (length log.last_tags) log.digest) h.limits_are in
    parts_stand bytes fits h.there ∙ ap (λ (xs : List ℕ). xs ++ drop 51 bytes) (same ∙ parts-are version log)

-- what a head in front of the bytes is read as
pub record ReadsHead (version : Version) (bytes : List ℕ) (log : Log) (rest : List ℕ) : Type 0 where
  pub head : head_in version bytes ≡ Ok (head_of_log log)
  pub digest : slice_range bytes 7 39 ≡ log.digest
  pub behind_it : drop 51 bytes ≡ rest

length-magic : (version : Version) → length (magic_of version) ≡ 4
length-magic One = refl
length-magic Two = refl

begins-again : (version : Version) (bytes : List ℕ) → take 4 bytes ≡ magic_of version → starts_with eqb bytes (magic_of version) ≡ true
begins-again One bytes e = (bytes_eq-Decides (magic_of One) (take 4 bytes)).1 (sym e)
begins-again Two bytes e = (bytes_eq-Decides (magic_of Two) (take 4 bytes)).1 (sym e)

read_again : (version : Version) (bytes : List ℕ) (head : Head) → IsHead version bytes head → head_in version bytes ≡ Ok head
unfolding head_in
read_again version bytes head h =
    let same : record { threads = slice_index bytes 4; words = half_at bytes 5; limits = limits_in bytes } ≡ head =
    λ j. record { threads = h.threads_are j; words = h.words_are j; limits = h.limits_are j } in
    let range : (are_counts (slice_index bytes 4) (half_at bytes 5) && are_limits (limits_in bytes)) ≡ true =
    ap (λ (x : Head). are_counts x.threads x.words && are_limits x.limits) same ∙ range_tested head.threads head.words head.limits h.range in
    rw (reaches-again bytes 51 h.there, begins-again version bytes h.begins, range) (ap Ok same)

pub head_again : (version : Version) (bytes : List ℕ) (log : Log) (rest : List ℕ) → IsInRange (length log.threads) (length log.last_tags) log.limits → length log.digest ≡ 32 →
    bytes ≡ head_bytes version log ++ rest → ReadsHead version bytes log rest
head_again version bytes log rest range sized stands =
    let m = magic_of version in
    let t = length log.threads ∷ [] in
    let w = to_be_bytes w16 (length log.last_tags) in
    let d = log.digest in
    let s = to_be_bytes w32 log.limits.steps in
    let i = to_be_bytes w32 log.limits.instr in
    let e = to_be_bytes w32 log.limits.entries in
    let limits : List ℕ = s ++ i ++ e in
    let len = length-magic version in
    let seven : length (m ++ t ++ w) ≡ 7 = omega (arith, length-append (m ++ t) w, length-append m t) in
    let most : length (m ++ t ++ w ++ d) ≡ 39 = omega (arith, seven, sized, length-append (m ++ t ++ w) d) in
    let whole : bytes ≡ (m ++ t ++ w ++ d ++ limits) ++ rest = stands ∙ ap (λ (xs : List ℕ). xs ++ rest) (sym (parts-are version log)) in
    let four : bytes ≡ (m ++ t ++ w ++ d) ++ (limits ++ rest) = parted bytes (m ++ t ++ w ++ d) limits rest whole in
    let three : bytes ≡ (m ++ t ++ w) ++ (d ++ (limits ++ rest)) = parted bytes (m ++ t ++ w) d (limits ++ rest) four in
    let two : bytes ≡ (m ++ t) ++ (w ++ (d ++ (limits ++ rest))) = parted bytes (m ++ t) w (d ++ (limits ++ rest)) three in
    let one : bytes ≡ m ++ (t ++ (w ++ (d ++ (limits ++ rest)))) = parted bytes m t (w ++ (d ++ (limits ++ rest))) two in
    let last : drop 39 bytes ≡ limits ++ rest = behind bytes 0 39 (m ++ t ++ w ++ d) (limits ++ rest) four most in
    let before_last : drop 39 bytes ≡ (s ++ i) ++ (e ++ rest) = parted (drop 39 bytes) (s ++ i) e rest last in
    let first : drop 39 bytes ≡ s ++ (i ++ (e ++ rest)) = parted (drop 39 bytes) s i (e ++ rest) before_last in
    let digest : drop 7 bytes ≡ d ++ (limits ++ rest) = behind bytes 0 7 (m ++ t ++ w) (d ++ (limits ++ rest)) three seven in
    let steps = number_again bytes 39 log.limits.steps (i ++ (e ++ rest)) (omega (arith, range.steps)) first in
    let instr = number_again bytes 43 log.limits.instr (e ++ rest) (omega (arith, range.instr)) (behind bytes 39 4 s (i ++ (e ++ rest)) first refl) in
    let entries = number_again bytes 47 log.limits.entries rest (omega (arith, range.entries)) (behind bytes 39 8 (s ++ i) (e ++ rest) before_last refl) in
    let fourth : drop 4 bytes ≡ t ++ (w ++ (d ++ (limits ++ rest))) = behind bytes 0 4 m (t ++ (w ++ (d ++ (limits ++ rest)))) one len in
    let fifth : drop 5 bytes ≡ w ++ (d ++ (limits ++ rest)) = behind bytes 0 5 (m ++ t) (w ++ (d ++ (limits ++ rest))) two (omega (arith, length-append m t, len)) in
    record {
      head = read_again version bytes (head_of_log log)
          (record {
            there = omega (arith, ap length four, length-append (m ++ t ++ w ++ d) (limits ++ rest), most);
            range = range;
            begins = ap (take 4) one ∙ take_at m (t ++ (w ++ (d ++ (limits ++ rest)))) 4 len;
            threads_are = byte_again bytes 4 (length log.threads) (w ++ (d ++ (limits ++ rest))) fourth;
            words_are = half_again bytes 5 (length log.last_tags) (d ++ (limits ++ rest)) (omega (arith, range.words)) fifth;
            limits_are = λ j. record { steps = steps j; instr = instr j; entries = entries j };
          });
      digest = ap (take 32) digest ∙ take_at d (limits ++ rest) 32 sized;
      behind_it = behind bytes 39 12 limits rest last refl;
    }
