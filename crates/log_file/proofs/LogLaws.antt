-- The laws of logs as bytes: what is read is well formed and spelled so, and what is spelled so is read.
use Rattle.std.proofs.Common.{◌≡◌, ◌≢◌, ℕ, ◌^◌, ◌<◌, ◌≤◌, ltb, List, [], ◌∷◌, ◌++◌, length, take, drop, get_or, map, All, None, Ok, refl, sym, ap, subst, ◌∙◌, arith}
use Rattle.std.specs.Prelude.{slice_range}
use Rattle.std.specs.List.{flat_map}
use Rattle.std.proofs.lemmas.Bool.{ltb-false}
use Rattle.std.proofs.lemmas.List.{length-drop, drop_all, append-nil, length-map, length-take-le, get_or_default, nil_from_length}
use Rattle.std.proofs.lemmas.List.Concat.{flat_map-cons}
use Rattle.std.proofs.lemmas.Simd.{map-map}
use Rattle.light_base.specs.Numbers.{IsBytes}
use Rattle.light_base.proofs.Numbers.{IsBytes-slice_range}
use Rattle.replay_model.specs.declared.End.TheVariants.{InputEmpty}
use Rattle.replay_model.specs.Logs.{ThreadLog, Log, no_thread, thread_of, last_tag}
use Rattle.replay_model.specs.WellFormed.{IsInRange, IsThreadOf}
use Rattle.log_file.specs.Versions.{Version, last_end, CanTell}
use Rattle.log_file.specs.declared.version.Version.TheVariants.{One, Two}
use Rattle.log_file.specs.LogFaults.{fault}
use Rattle.log_file.specs.declared.log_fault.LogKind.TheVariants as kind
use Rattle.log_file.specs.Spelling.{code_of_end, address_of_end, header_bytes, tag_bytes, entries_bytes, taken_bytes, head_bytes, spelling_in, IsText}
use Rattle.log_file.specs.LogReading.{Head, Header, no_header, reaches, head_in, headers_in, last_tags_in, threads_in, steps_of, last_tags_place, entries_place, taken_place, log_end, body_in, log_read}
use Rattle.log_file.proofs.RowLaws.{AllAfter, AllAfter-map, AllAfter-at, ok_then}
use Rattle.log_file.proofs.FieldLaws.{joined}
use Rattle.log_file.proofs.TagLaws.{steps_in, IsTagIn, tag_of_log}
use Rattle.log_file.proofs.EntryLaws.{passed}
use Rattle.log_file.proofs.HeaderLaws.{IsWithin, CountsTaken, header_text}
use Rattle.log_file.proofs.HeadLaws.{reaches-take, head_of_log, IsHead, head_take, head_stands}
use Rattle.log_file.proofs.ThreadLaws.{AreNext, rises, differ, part_ways, entries_formed}
use Rattle.log_file.proofs.ThreadReads.{header_of_thread}
use Rattle.log_file.proofs.LogRows.{IsSound, headers_take, last_tags_take}
use Rattle.log_file.proofs.ThreadRows.{headers_of, IsNextLog, threads_take}

-- ---- headers of threads

header_spelled : (version : Version) (t : ThreadLog) → header_text version (header_of_thread t) ≡ header_bytes version t
header_spelled One t = refl
header_spelled Two t = refl

pub headers_spelled : (version : Version) (threads : List ThreadLog) → flat_map (header_text version) (headers_of threads) ≡ flat_map (header_bytes version) threads
headers_spelled version [] = refl
headers_spelled version (t ∷ threads) =
    flat_map-cons (header_text version) (header_of_thread t) (headers_of threads) ∙ ap (λ (xs : List ℕ). xs ++ flat_map (header_text version) (headers_of threads)) (header_spelled version t) ∙
    ap (λ (xs : List ℕ). header_bytes version t ++ xs) (headers_spelled version threads) ∙ sym (flat_map-cons (header_bytes version) t threads)

pub steps_of_headers : (threads : List ThreadLog) → steps_of (headers_of threads) ≡ map (λ (t : ThreadLog). t.steps) threads
steps_of_headers threads = map-map (λ (h : Header). h.steps) header_of_thread threads

-- ---- what is read is well formed and spelled so

-- the parts of a log that was read
pub record AreParts (version : Version) (bytes : List ℕ) (head : Head) (headers : List Header) (log : Log) : Type 0 where
  pub front : IsHead version bytes head
  pub first : last_tags_place version head ≤ length bytes
  pub told : headers_in version head bytes ≡ Ok headers
  pub all_there : log_end version head headers ≤ length bytes
  pub no_more : length bytes ≤ log_end version head headers
  pub last_tags_told : last_tags_in (steps_of headers) bytes (last_tags_place version head) head.words ≡ Ok log.last_tags
  pub threads_told : threads_in head.words headers bytes (entries_place version head) (taken_place version head headers) ≡ Ok log.threads
  pub digest_is : slice_range bytes 7 39 ≡ log.digest
  pub limits_are : head.limits ≡ log.limits

log_parts : (version : Version) (bytes : List ℕ) (log : Log) → log_read version bytes ≡ Ok log → (head : Head) × (headers : List Header) × AreParts version bytes head headers log
unfolding log_read body_in
log_parts version bytes log e =
    let h = ok_then (head_in version bytes) _ log e in
    let head : Head = h.0 in
    let first = ok_then (reaches bytes (last_tags_place version head)) _ log h.2 in
    let hs = ok_then (headers_in version head bytes) _ log first.2 in
    let headers : List Header = hs.0 in
    let all = ok_then (reaches bytes (log_end version head headers)) _ log hs.2 in
    let tags = ok_then (last_tags_in (steps_of headers) bytes (last_tags_place version head) head.words) _ log all.2 in
    let logs = ok_then (threads_in head.words headers bytes (entries_place version head) (taken_place version head headers)) _ log tags.2 in
    let last = passed (ltb (log_end version head headers) (length bytes)) (fault kind.Long (log_end version head headers)) _ log logs.2 in
    let same : record { digest = slice_range bytes 7 39; limits = head.limits; threads = logs.0; last_tags = tags.0 } ≡ log = cc last.1 in
    let threads : logs.0 ≡ log.threads = ap (λ (l : Log). l.threads) same in
    let last_tags : tags.0 ≡ log.last_tags = ap (λ (l : Log). l.last_tags) same in (
      head,
      headers,
      record {
        front = head_take version bytes head h.1;
        first = reaches-take bytes (last_tags_place version head) first.0 first.1;
        told = hs.1;
        all_there = reaches-take bytes (log_end version head headers) all.0 all.1;
        no_more = ltb-false (log_end version head headers) (length bytes) last.0;
        last_tags_told = tags.1 ∙ ap Ok last_tags;
        threads_told = logs.1 ∙ ap Ok threads;
        digest_is = ap (λ (l : Log). l.digest) same;
        limits_are = ap (λ (l : Log). l.limits) same;
      },
    )

module _ (version : Version) (bytes : List ℕ) (fits : IsBytes bytes) (head : Head) (headers : List Header) (log : Log) (parts : AreParts version bytes head headers log) where
  -- what each part is, and where it stands
  record IsTold : Type 0 where
    pub head_is : head ≡ head_of_log log
    pub headers_are : headers_of log.threads ≡ headers
    pub sound : AllAfter (λ b h. IsSound version head bytes h) [] headers
    pub tags : AllAfter (λ b t. IsTagIn (steps_in log) t) [] log.last_tags
    pub logged : AllAfter (IsNextLog head.words headers bytes (entries_place version head) (taken_place version head headers)) [] log.threads
    pub steps_are : steps_of headers ≡ steps_in log
    pub stands : bytes ≡ spelling_in version log

  told : IsTold
  unfolding spelling_in
  told =
      let hs = headers_take version head bytes headers fits parts.first parts.told in
      let ts = last_tags_take (steps_of headers) bytes (last_tags_place version head) head.words log.last_tags fits (omega (arith, parts.all_there)) parts.last_tags_told in
      let ls = threads_take head.words headers bytes (entries_place version head) (taken_place version head headers) fits (omega (arith, parts.all_there)) parts.all_there log.threads parts.threads_told in
      let steps : steps_of headers ≡ steps_in log = ap steps_of (sym ls.0) ∙ steps_of_headers log.threads in
      let threads : head.threads ≡ length log.threads = sym hs.0 ∙ ap length (sym ls.0) ∙ length-map log.threads header_of_thread in
      let words : head.words ≡ length log.last_tags = sym ts.0 in
      let limits = parts.limits_are in
      let same : head ≡ head_of_log log = λ j. record { threads = threads j; words = words j; limits = limits j } in
      let front : IsHead version bytes (head_of_log log) = subst (IsHead version bytes) same parts.front in
      let one = head_stands version bytes log fits front parts.digest_is in
      let two = hs.2 ∙ ap (λ (hs : List Header). flat_map (header_text version) hs ++ drop (last_tags_place version head) bytes) (sym ls.0) ∙ ap (λ (xs : List ℕ). xs ++ drop (last_tags_place version head) bytes) (headers_spelled version log.threads) in
      let five : drop (taken_place version head headers) bytes ≡ flat_map taken_bytes log.threads =
      ls.3 ∙ ap (λ (xs : List ℕ). flat_map taken_bytes log.threads ++ xs) (drop_all (log_end version head headers) bytes parts.no_more) ∙ append-nil (flat_map taken_bytes log.threads) in
      let a = joined bytes (head_bytes version log) (drop 51 bytes) (flat_map (header_bytes version) log.threads) (drop (last_tags_place version head) bytes) one two in
      let b = joined bytes (head_bytes version log ++ flat_map (header_bytes version) log.threads) (drop (last_tags_place version head) bytes) (flat_map tag_bytes log.last_tags) (drop (entries_place version head) bytes) a ts.2 in
      let c = joined bytes (head_bytes version log ++ flat_map (header_bytes version) log.threads ++ flat_map tag_bytes log.last_tags) (drop (entries_place version head) bytes) (flat_map entries_bytes log.threads)
      (drop (taken_place version head headers) bytes) b ls.2 in
      record {
        head_is = same;
        headers_are = ls.0;
        sound = hs.1;
        tags = AllAfter-map _ (λ b t. IsTagIn (steps_in log) t) (λ b t h. subst (λ (xs : List ℕ). IsTagIn xs t) steps h) [] log.last_tags ts.1;
        logged = ls.1;
        steps_are = steps;
        stands = c ∙ ap (λ (xs : List ℕ). (head_bytes version log ++ flat_map (header_bytes version) log.threads ++ flat_map tag_bytes log.last_tags ++ flat_map entries_bytes log.threads) ++ xs) five;
      }

  -- what is known of the log of each thread
  record IsKnown (t : ThreadLog) : Type 0 where
    pub within : IsWithin version (length log.last_tags) log.limits (header_of_thread t)
    pub address : address_of_end t.end < 2 ^ 32
    pub next : AreNext (length log.last_tags) (steps_in log) t.steps t.entries
    pub numbers : All (λ n. n < 2 ^ 32) t.taken

  known : All IsKnown log.threads
  known i d lt =
      let is = told in
      let t = get_or log.threads i d in
      let many : length (headers_of log.threads) ≡ length log.threads = length-map log.threads header_of_thread in
      let within_headers : i < length headers = omega (arith, ap length is.headers_are, many, lt) in
      let l = AllAfter-at (IsNextLog head.words headers bytes (entries_place version head) (taken_place version head headers)) [] log.threads is.logged i d lt in
      let count : length (take i log.threads) ≡ i = length-take-le i log.threads (omega arith) in
      let header : header_of_thread t ≡ get_or headers i no_header = l.header ∙ ap (λ (k : ℕ). get_or headers k no_header) count in
      let s = AllAfter-at (λ b h. IsSound version head bytes h) [] headers is.sound i no_header within_headers in
      let words : head.words ≡ length log.last_tags = ap (λ (h : Head). h.words) is.head_is in
      let limits : head.limits ≡ log.limits = ap (λ (h : Head). h.limits) is.head_is in
      record {
        within = subst (λ (h : Head). IsWithin version h.words h.limits (header_of_thread t)) is.head_is (subst (IsWithin version head.words head.limits) (sym header) s.0);
        address = subst (λ (h : Header). address_of_end h.end < 2 ^ 32) (sym header) s.1;
        next = subst (λ (n : ℕ). AreNext n (steps_in log) t.steps t.entries) words (subst (λ (xs : List ℕ). AreNext head.words xs t.steps t.entries) is.steps_are l.next);
        numbers = l.numbers;
      }

  thread_formed : (t : ThreadLog) → IsKnown t → IsThreadOf log t
  thread_formed t k = record {
    steps = k.within.steps;
    instr = k.within.instr;
    entries = k.within.entries;
    end = k.within.end;
    taken = k.within.taken;
    each = entries_formed log t k.next;
    rising = rises (length log.last_tags) (steps_in log) t.steps t.entries k.next;
    once = differ (length log.last_tags) (steps_in log) t.steps t.entries k.next;
    apart = part_ways (length log.last_tags) (steps_in log) t.steps t.entries k.next;
  }

  pub log_takes : IsText version bytes log
  log_takes =
      let is = told in
      record {
        formed = record {
          range = subst (λ (h : Head). IsInRange h.threads h.words h.limits) is.head_is parts.front.range;
          threads = λ t lt. thread_formed (thread_of log t) (known t no_thread lt);
          last_tags = λ word lt. tag_of_log log (last_tag log word) (AllAfter-at (λ b t. IsTagIn (steps_in log) t) [] log.last_tags is.tags word None lt).taken;
        };
        numbers = record {
          digest = ap length (sym parts.digest_is) ∙ length-take-le 32 (drop 7 bytes) (omega (arith, length-drop 7 bytes, parts.front.there));
          digest_bytes = subst (λ (xs : List ℕ). All (λ byte. byte < 256) xs) parts.digest_is (λ i d lt. subst (λ (n : ℕ). n < 256) (get_or_default (slice_range bytes 7 39) i 0 d lt) (IsBytes-slice_range bytes 7 39 fits i));
          addresses = λ i d lt. (known i d lt).address;
          taken = λ i d lt. (known i d lt).numbers;
        };
        told = can_tell version refl;
        spelled = is.stands;
      }
    where
      nothing_taken : version ≡ One → (t : ThreadLog) → IsKnown t → t.taken ≡ []
      nothing_taken one t k = let none : length t.taken ≡ 0 = subst (λ (v : Version). CountsTaken v (length t.taken)) one k.within.counted in nil_from_length t.taken none

      no_input_end : version ≡ One → (t : ThreadLog) → IsKnown t → t.end ≢ InputEmpty
      no_input_end one t k same = omega (arith, subst (λ (v : Version). code_of_end t.end ≤ last_end v) one k.within.known, ap code_of_end same)

      can_tell : (v : Version) → version ≡ v → CanTell v log
      can_tell One one = record { taken = λ i d lt. nothing_taken one (get_or log.threads i d) (known i d lt); ends = λ i d lt. no_input_end one (get_or log.threads i d) (known i d lt) }
      can_tell Two two = tt

-- what is read is well formed, and spelled so
pub log_take : (version : Version) (bytes : List ℕ) (log : Log) → IsBytes bytes → log_read version bytes ≡ Ok log → IsText version bytes log
log_take version bytes log fits e = let (head, headers, parts) = log_parts version bytes log e in log_takes version bytes fits head headers log parts
