-- What is spelled as the text of a log is read as this log, and where bytes follow it, it is too long.
use Rattle.std.proofs.Common.{◌≡◌, ◌≢◌, ℕ, ◌+◌, ◌*◌, ◌^◌, ◌<◌, ◌≤◌, cond, ltb, List, [], ◌++◌, length, drop, get_or, All, None, Result, Ok, Err, refl, sym, ap, subst, ◌∙◌, arith, length-append, inl, inr, ◌⊎◌}
use Rattle.std.specs.Prelude.{slice_range, MatchResult, IfErr}
use Rattle.std.specs.List.{flat_map}
use Rattle.std.proofs.lemmas.Bool.{lt-ltb, le-ltb, cases_eq, cond-true, cond-false}
use Rattle.std.proofs.lemmas.List.{length-drop, append-nil, length-map, get_or-map, get_or_default}
use Rattle.light_base.specs.declared.tag.Tag.{Tag}
use Rattle.replay_model.specs.declared.End.{End}
use Rattle.replay_model.specs.declared.End.TheVariants.{Halted, InstrSpent, BadAddress, StepsSpent, EntriesFull, OutputFull, InputEmpty}
use Rattle.replay_model.specs.Logs.{Log, no_thread, thread_of}
use Rattle.replay_model.specs.WellFormed.{IsTagOf, IsWellFormed}
use Rattle.log_file.specs.Versions.{Version, header_len, last_end, CanTell}
use Rattle.log_file.specs.declared.version.Version.TheVariants.{One, Two}
use Rattle.log_file.specs.LogFaults.{LogFault, LogKind, fault, out_of_memory}
use Rattle.log_file.specs.declared.log_fault.LogKind.TheVariants as kind
use Rattle.log_file.specs.Spelling.{code_of_end, header_bytes, tag_bytes, entries_bytes, taken_bytes, head_bytes, spelling_in, HasNumbers, IsText}
use Rattle.log_file.specs.LogReading.{Gives, head_in, headers_in, last_tags_in, threads_in, steps_of, header_entries, header_taken, last_tags_place, entries_place, taken_place, log_end, body_in, log_read}
use Rattle.log_file.proofs.Pieces.{length-headers, length-tags, length-all_entries, length-all_taken}
use Rattle.log_file.proofs.RowLaws.{AllAfter, AllAfter-from}
use Rattle.log_file.proofs.FieldLaws.{parted}
use Rattle.log_file.proofs.TagLaws.{steps_in, IsTagIn, tag_is_taken}
use Rattle.log_file.proofs.HeaderLaws.{IsWithin, CountsTaken, HasSmallLimits, header_text}
use Rattle.log_file.proofs.HeadLaws.{reaches-again, head_of_log, head_again, head_there}
use Rattle.log_file.proofs.ThreadLaws.{AreNext, entries_next}
use Rattle.log_file.proofs.ThreadReads.{header_of_thread}
use Rattle.log_file.proofs.LogRows.{IsSound, headers_again, last_tags_again}
use Rattle.log_file.proofs.ThreadRows.{headers_of, entries_counted, taken_counted, IsReadable, threads_again, behind_entries, behind_taken}
use Rattle.log_file.proofs.LogLaws.{headers_spelled, steps_of_headers}

-- ---- a well-formed log passes the tests

known_end : (version : Version) (end : End) → (version ≡ One → end ≢ InputEmpty) → code_of_end end ≤ last_end version
known_end One Halted h = omega arith
known_end One InstrSpent h = omega arith
known_end One (BadAddress address) h = omega arith
known_end One StepsSpent h = omega arith
known_end One EntriesFull h = omega arith
known_end One OutputFull h = omega arith
known_end One InputEmpty h = absurd (h refl refl)
known_end Two Halted h = omega arith
known_end Two InstrSpent h = omega arith
known_end Two (BadAddress address) h = omega arith
known_end Two StepsSpent h = omega arith
known_end Two EntriesFull h = omega arith
known_end Two OutputFull h = omega arith
known_end Two InputEmpty h = omega arith

module _ (version : Version) (log : Log) (formed : IsWellFormed log) (numbers : HasNumbers log) (told : CanTell version log) where
  no_input : (t : ℕ) → t < length log.threads → version ≡ One → (thread_of log t).end ≢ InputEmpty
  no_input t lt one = let old = subst (λ (v : Version). CanTell v log) one told in old.ends t no_thread lt

  counted : (t : ℕ) → t < length log.threads → CountsTaken version (length (thread_of log t).taken)
  counted t lt = go version told
    where
      go : (v : Version) → CanTell v log → CountsTaken v (length (thread_of log t).taken)
      go One old = ap length (old.taken t no_thread lt)
      go Two told = tt

  within : (t : ℕ) → t < length log.threads → IsWithin version (length log.last_tags) log.limits (header_of_thread (thread_of log t))
  within t lt =
      let own = formed.threads t lt in
      record { steps = own.steps; instr = own.instr; entries = own.entries; taken = own.taken; end = own.end; known = known_end version (thread_of log t).end (no_input t lt); counted = counted t lt }

  small : HasSmallLimits log.limits
  small = let r = formed.range in record { steps = omega (arith, r.steps); instr = omega (arith, r.instr); entries = omega (arith, r.entries) }

  headers_sound : (bytes : List ℕ) → AllAfter (λ b h. IsSound version (head_of_log log) bytes h) [] (headers_of log.threads)
  headers_sound bytes = AllAfter-from (λ b h. IsSound version (head_of_log log) bytes h) [] (headers_of log.threads)
      (λ i d lt.
      let here : i < length log.threads = omega (arith, length-map log.threads header_of_thread, lt) in
      let is : get_or (headers_of log.threads) i d ≡ header_of_thread (thread_of log i) = get_or-map header_of_thread log.threads i no_thread d here in
      subst (IsSound version (head_of_log log) bytes) (sym is) (within i here, numbers.addresses i no_thread here))

  tags_taken : AllAfter (λ b t. IsTagIn (steps_in log) t) [] log.last_tags
  tags_taken = AllAfter-from (λ b t. IsTagIn (steps_in log) t) [] log.last_tags (λ i d lt. tag_is_taken log formed (get_or log.last_tags i d) (tag_at i d lt))
    where
      tag_at : (i : ℕ) (d : Tag) → i < length log.last_tags → IsTagOf log (get_or log.last_tags i d)
      tag_at i d lt = subst (IsTagOf log) (get_or_default log.last_tags i None d lt) (formed.last_tags i lt)

  threads_readable : All (IsReadable (length log.last_tags) (steps_of (headers_of log.threads))) log.threads
  threads_readable i d lt = subst (IsReadable (length log.last_tags) (steps_of (headers_of log.threads))) (get_or_default log.threads i no_thread d lt)
      (record {
        next = subst (λ (xs : List ℕ). AreNext (length log.last_tags) xs (thread_of log i).steps (thread_of log i).entries) (sym (steps_of_headers log.threads)) (entries_next log (thread_of log i) formed (formed.threads i lt));
        short = let own = (formed.threads i lt).steps in let r = formed.range in omega (arith, own, r.steps);
        numbers = numbers.taken i no_thread lt;
      })

-- ---- lengths

-- where bytes go on after a part, they reach its end
reach : (bytes : List ℕ) (at k : ℕ) (part rest : List ℕ) → at ≤ length bytes → drop at bytes ≡ part ++ rest → length part ≡ k → at + k ≤ length bytes
reach bytes at k part rest there stands len = omega (arith, there, len, length-drop at bytes, ap length stands, length-append part rest)

-- ---- the text is read

module _ (version : Version) (log : Log) (formed : IsWellFormed log) (numbers : HasNumbers log) (told : CanTell version log) (bytes more : List ℕ) (stands : bytes ≡ spelling_in version log ++ more) where
  -- how the parts are read, and where the text ends
  record IsRead : Type 0 where
    pub front : head_in version bytes ≡ Ok (head_of_log log)
    pub digest_is : slice_range bytes 7 39 ≡ log.digest
    pub first : last_tags_place version (head_of_log log) ≤ length bytes
    pub headers_read : headers_in version (head_of_log log) bytes ≡ Ok (headers_of log.threads)
    pub last_tags_read : last_tags_in (steps_of (headers_of log.threads)) bytes (last_tags_place version (head_of_log log)) (length log.last_tags) ≡ Ok log.last_tags
    pub threads_read : threads_in (length log.last_tags) (headers_of log.threads) bytes (entries_place version (head_of_log log)) (taken_place version (head_of_log log) (headers_of log.threads)) ≡ Ok log.threads
    pub whole : length bytes ≡ log_end version (head_of_log log) (headers_of log.threads) + length more

  read : IsRead
  unfolding spelling_in
  read =
      let hb = head_bytes version log in
      let hs = flat_map (header_bytes version) log.threads in
      let ts = flat_map tag_bytes log.last_tags in
      let es = flat_map entries_bytes log.threads in
      let ns = flat_map taken_bytes log.threads in
      let p4 : bytes ≡ (hb ++ hs ++ ts ++ es) ++ (ns ++ more) = parted bytes (hb ++ hs ++ ts ++ es) ns more stands in
      let p3 : bytes ≡ (hb ++ hs ++ ts) ++ (es ++ (ns ++ more)) = parted bytes (hb ++ hs ++ ts) es (ns ++ more) p4 in
      let p2 : bytes ≡ (hb ++ hs) ++ (ts ++ (es ++ (ns ++ more))) = parted bytes (hb ++ hs) ts (es ++ (ns ++ more)) p3 in
      let p1 : bytes ≡ hb ++ (hs ++ (ts ++ (es ++ (ns ++ more)))) = parted bytes hb hs (ts ++ (es ++ (ns ++ more))) p2 in
      let h = head_again version bytes log (hs ++ (ts ++ (es ++ (ns ++ more)))) formed.range numbers.digest p1 in
      let spelled : drop 51 bytes ≡ flat_map (header_text version) (headers_of log.threads) ++ (ts ++ (es ++ (ns ++ more))) =
      h.behind_it ∙ ap (λ (xs : List ℕ). xs ++ (ts ++ (es ++ (ns ++ more)))) (sym (headers_spelled version log.threads)) in
      let hs_read = headers_again version (head_of_log log) bytes (headers_of log.threads) (ts ++ (es ++ (ns ++ more))) (length-map log.threads header_of_thread) (small version log formed numbers told) (headers_sound version log formed numbers told bytes) spelled in
      let tags : AllAfter (λ b t. IsTagIn (steps_of (headers_of log.threads)) t) [] log.last_tags =
      subst (λ (xs : List ℕ). AllAfter (λ b t. IsTagIn xs t) [] log.last_tags) (sym (steps_of_headers log.threads)) (tags_taken version log formed numbers told) in
      let ts_read = last_tags_again (steps_of (headers_of log.threads)) bytes (last_tags_place version (head_of_log log)) log.last_tags (es ++ (ns ++ more)) tags hs_read.1 in
      let at = entries_place version (head_of_log log) in
      let from = taken_place version (head_of_log log) (headers_of log.threads) in
      let entries_stand : drop at bytes ≡ es ++ (ns ++ more) = ts_read.1 in
      let taken_stand : drop from bytes ≡ ns ++ more = behind_entries (length log.last_tags) log.threads bytes at from (ns ++ more) entries_stand in
      let end : drop (log_end version (head_of_log log) (headers_of log.threads)) bytes ≡ more = behind_taken (length log.last_tags) log.threads bytes at from more taken_stand in
      let few : length log.last_tags < 2 ^ 16 = let r = formed.range in omega (arith, r.words) in
      let reach0 : 51 ≤ length bytes = head_there version bytes (head_of_log log) h.head in
      let reach1 = reach bytes 51 (header_len version * length log.threads) hs (ts ++ (es ++ (ns ++ more))) reach0 h.behind_it (length-headers version log.threads) in
      let reach2 = reach bytes (last_tags_place version (head_of_log log)) (4 * length log.last_tags) ts (es ++ (ns ++ more)) reach1 hs_read.1 (length-tags log.last_tags) in
      let reach3 = reach bytes at (14 * header_entries (headers_of log.threads)) es (ns ++ more) reach2 entries_stand (length-all_entries log.threads ∙ ap (λ (n : ℕ). 14 * n) (entries_counted log.threads)) in
      let reach4 = reach bytes from (4 * header_taken (headers_of log.threads)) ns more reach3 taken_stand (length-all_taken log.threads ∙ ap (λ (n : ℕ). 4 * n) (taken_counted log.threads)) in
      record {
        front = h.head;
        digest_is = h.digest;
        first = reach1;
        headers_read = hs_read.0;
        last_tags_read = ts_read.0;
        threads_read = threads_again (length log.last_tags) log.threads bytes at from (ns ++ more) more few (threads_readable version log formed numbers told) entries_stand taken_stand;
        whole = omega (arith, reach4, ap length end, length-drop (log_end version (head_of_log log) (headers_of log.threads)) bytes);
      }

  result : log_read version bytes ≡
      cond (ltb (log_end version (head_of_log log) (headers_of log.threads)) (length bytes)) (Err (fault kind.Long (log_end version (head_of_log log) (headers_of log.threads)))) (Ok log)
  unfolding log_read body_in
  result =
      let r = read in
      rw (r.front, reaches-again bytes _ r.first, r.headers_read, reaches-again bytes (log_end version (head_of_log log) (headers_of log.threads)) (omega (arith, r.whole)), r.last_tags_read, r.threads_read)
      (ap (λ (d : List ℕ). cond (ltb (log_end version (head_of_log log) (headers_of log.threads)) (length bytes)) (Err (fault kind.Long (log_end version (head_of_log log) (headers_of log.threads))))
      (Ok (record { digest = d; limits = log.limits; threads = log.threads; last_tags = log.last_tags }))) r.digest_is)

-- the text of a log is read as this log
pub text_read : (version : Version) (bytes : List ℕ) (log : Log) → IsText version bytes log → log_read version bytes ≡ Ok log
text_read version bytes log text =
    let stands : bytes ≡ spelling_in version log ++ [] = text.spelled ∙ sym (append-nil (spelling_in version log)) in
    let r = read version log text.formed text.numbers text.told bytes [] stands in
    result version log text.formed text.numbers text.told bytes [] stands ∙ cond-false _ _ (Ok log) (le-ltb _ (length bytes) (omega (arith, r.whole)))

-- with bytes after it, it is too long
pub text_long : (version : Version) (bytes more : List ℕ) (log : Log) → IsText version bytes log → 0 < length more → log_read version (bytes ++ more) ≡ Err (fault kind.Long (length bytes))
text_long version bytes more log text some =
    let alone : bytes ≡ spelling_in version log ++ [] = text.spelled ∙ sym (append-nil (spelling_in version log)) in
    let stands : bytes ++ more ≡ spelling_in version log ++ more = ap (λ (xs : List ℕ). xs ++ more) text.spelled in
    let r = read version log text.formed text.numbers text.told bytes [] alone in
    let s = read version log text.formed text.numbers text.told (bytes ++ more) more stands in
    let end : log_end version (head_of_log log) (headers_of log.threads) ≡ length bytes = omega (arith, r.whole) in
    result version log text.formed text.numbers text.told (bytes ++ more) more stands ∙ cond-true _ (Err (fault kind.Long (log_end version (head_of_log log) (headers_of log.threads)))) (Ok log) (lt-ltb _ (length (bytes ++ more)) (omega (arith, s.whole, some))) ∙ ap (λ (k : ℕ). Err (fault kind.Long k)) end

-- ---- what a reader answers

abbrev at_place : LogKind → ℕ → LogFault
at_place k at = record { kind = k; at = at }

abbrev read_so : Log → Result Log LogFault
read_so log = Ok log

abbrev refused : LogFault → Result Log LogFault
refused e = Err e

never_both : (e : LogFault) (log : Log) → refused e ≡ read_so log → ⊥
never_both e log h = cc

ok_is : (l log : Log) → read_so l ≡ read_so log → l ≡ log
ok_is l log h = cc

-- a fault is that of memory, or another
memory_or : (k : LogKind) (at : ℕ) → (at_place k at ≡ out_of_memory) ⊎ (at_place k at ≢ out_of_memory)
memory_or kind.Short at = inr (λ h. let e : kind.Short ≡ kind.Memory = ap (λ (f : LogFault). f.kind) h in cc)
memory_or kind.Magic at = inr (λ h. let e : kind.Magic ≡ kind.Memory = ap (λ (f : LogFault). f.kind) h in cc)
memory_or kind.Counts at = inr (λ h. let e : kind.Counts ≡ kind.Memory = ap (λ (f : LogFault). f.kind) h in cc)
memory_or kind.EndCode at = inr (λ h. let e : kind.EndCode ≡ kind.Memory = ap (λ (f : LogFault). f.kind) h in cc)
memory_or kind.Order at = inr (λ h. let e : kind.Order ≡ kind.Memory = ap (λ (f : LogFault). f.kind) h in cc)
memory_or kind.Range at = inr (λ h. let e : kind.Range ≡ kind.Memory = ap (λ (f : LogFault). f.kind) h in cc)
memory_or kind.Source at = inr (λ h. let e : kind.Source ≡ kind.Memory = ap (λ (f : LogFault). f.kind) h in cc)
memory_or kind.Word at = inr (λ h. let e : kind.Word ≡ kind.Memory = ap (λ (f : LogFault). f.kind) h in cc)
memory_or kind.Twice at = inr (λ h. let e : kind.Twice ≡ kind.Memory = ap (λ (f : LogFault). f.kind) h in cc)
memory_or kind.Overlap at = inr (λ h. let e : kind.Overlap ≡ kind.Memory = ap (λ (f : LogFault). f.kind) h in cc)
memory_or kind.Long at = inr (λ h. let e : kind.Long ≡ kind.Memory = ap (λ (f : LogFault). f.kind) h in cc)
memory_or kind.Memory at =
    elim (cases_eq at 0) [
      | inl no_place ↦ inl (ap (at_place kind.Memory) no_place)
      | inr other ↦ inr (λ h. other (ap (λ (f : LogFault). f.at) h))
    ]

pub only_is : (version : Version) (bytes : List ℕ) (r : Result Log LogFault) (log : Log) → Gives (λ l. l) r (log_read version bytes) → IsText version bytes log → MatchResult r (λ l. l ≡ log) (λ e. e ≡ out_of_memory)
only_is version bytes (Ok l) log given text = ok_is l log (sym given ∙ text_read version bytes log text)
only_is version bytes (Err e) log given text =
    elim (memory_or e.kind e.at) [
      | inl same ↦ same
      | inr other ↦ absurd (never_both e log (sym (given other) ∙ text_read version bytes log text))
    ]

pub refused_is : (version : Version) (bytes : List ℕ) (r : Result Log LogFault) → Gives (λ l. l) r (log_read version bytes) → IfErr r (λ e. e.kind ≢ kind.Memory → (log : Log) → ¬ IsText version bytes log)
refused_is version bytes (Ok l) given = tt
refused_is version bytes (Err e) given = λ other log text. never_both e log (sym (given (λ h. other (ap (λ (f : LogFault). f.kind) h))) ∙ text_read version bytes log text)
