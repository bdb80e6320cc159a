-- Tags of a log: what is read is one, and one is read.
use Rattle.std.proofs.Common.{◌≡◌, ℕ, zero, suc, ◌%◌, ◌^◌, ◌<◌, ◌≤◌, Bool, true, false, eqb, ltb, leb, ◌&&◌, ◌||◌, List, length, map, Some, None, refl, sym, ap, subst, ◌∙◌, arith, inl, inr, ◌⊎◌}
use Rattle.std.specs.Prelude.{slice_index}
use Rattle.std.proofs.lemmas.Bool.{cases_lt, and_parts, and_from, eqb-true, eq-eqb, leb-true, le-leb, ltb-true, lt-ltb, cond-true}
use Rattle.std.proofs.lemmas.Option.{cond_some}
use Rattle.std.proofs.lemmas.List.{get_or-map, get_or_past, length-map}
use Rattle.light_base.specs.declared.tag.Tag.{Tag}
use Rattle.light_base.specs.Tags.{bits_of, writer_of, IsTag, IsWriter, bits_of-writer_of}
use Rattle.light_base.proofs.Tags.{writer_of-bits_of, bits_of-IsTag, bits_of-lt}
use Rattle.replay_model.specs.Logs.{ThreadLog, Log, no_thread, thread_of}
use Rattle.replay_model.specs.WellFormed.{IsTagOf, IsWellFormed}
use Rattle.log_file.specs.LogReading.{is_taken, is_tag, tag_in}

-- a tag of a log whose threads took so many steps
pub record IsTagIn (steps : List ℕ) (tag : Tag) : Type 0 where
  pub taken : is_taken steps tag ≡ true
  pub writer : IsWriter tag

either_true : (a b : Bool) → (a || b) ≡ true → (a ≡ true) ⊎ (b ≡ true)
either_true true b h = inl refl
either_true false b h = inr h

pub tag_holds : (bits : ℕ) → is_tag bits ≡ true → IsTag bits
tag_holds bits h = go (either_true (eqb bits 0) (leb (2 ^ 28) bits && ltb 0 (bits % 2 ^ 28)) h)
  where
    go : (eqb bits 0 ≡ true) ⊎ ((leb (2 ^ 28) bits && ltb 0 (bits % 2 ^ 28)) ≡ true) → IsTag bits
    go (inl e) = inl (eqb-true bits 0 e)
    go (inr e) = let both = and_parts (leb (2 ^ 28) bits) (ltb 0 (bits % 2 ^ 28)) e in inr (leb-true (2 ^ 28) bits both.0, ltb-true 0 (bits % 2 ^ 28) both.1)

pub tag_tested : (bits : ℕ) → IsTag bits → is_tag bits ≡ true
tag_tested bits (inl e) = ap (λ (b : Bool). b || (leb (2 ^ 28) bits && ltb 0 (bits % 2 ^ 28))) (eq-eqb bits 0 e)
tag_tested bits (inr h) =
    let both = and_from (leb (2 ^ 28) bits) (ltb 0 (bits % 2 ^ 28)) (le-leb (2 ^ 28) bits h.0) (lt-ltb 0 (bits % 2 ^ 28) h.1) in or_right (eqb bits 0) _ both
  where
    or_right : (a b : Bool) → b ≡ true → (a || b) ≡ true
    or_right true b e = refl
    or_right false b e = e

pub writer_fits : (bits : ℕ) → bits < 2 ^ 32 → IsTag bits → IsWriter (writer_of bits)
writer_fits zero lt h = tt
writer_fits (suc n) lt (inl e) = absurd (omega (arith, e))
writer_fits (suc n) lt (inr h) = record { thread = omega (arith, lt); first = h.1; last = omega arith }

-- the tag that was read has the number, and is one of the log
pub tag_take : (steps : List ℕ) (bits : ℕ) (tag : Tag) → bits < 2 ^ 32 → tag_in steps bits ≡ Some tag → (bits_of tag ≡ bits) × IsTagIn steps tag
unfolding tag_in
tag_take steps bits tag lt e =
    let found = cond_some (is_tag bits && is_taken steps (writer_of bits)) (writer_of bits) tag e in
    let both = and_parts (is_tag bits) (is_taken steps (writer_of bits)) found.0 in
    let holds = tag_holds bits both.0 in (
      ap bits_of (sym found.1) ∙ bits_of-writer_of bits holds,
      subst (IsTagIn steps) found.1 (record { taken = both.1; writer = writer_fits bits lt holds }),
    )

-- and a tag of the log is read by its number
pub tag_again : (steps : List ℕ) (tag : Tag) → IsTagIn steps tag → tag_in steps (bits_of tag) ≡ Some tag
unfolding tag_in
tag_again steps tag h =
    let back = writer_of-bits_of tag h.writer in
    let taken : is_taken steps (writer_of (bits_of tag)) ≡ true = ap (is_taken steps) back ∙ h.taken in
    cond-true _ (Some (writer_of (bits_of tag))) None (and_from (is_tag (bits_of tag)) _ (tag_tested (bits_of tag) (bits_of-IsTag tag h.writer)) taken) ∙ ap Some back

pub tag_fits : (steps : List ℕ) (tag : Tag) → IsTagIn steps tag → bits_of tag < 2 ^ 32
tag_fits steps tag h = bits_of-lt tag h.writer

-- ---- tags of a log

-- how many steps each thread took
abbrev pub steps_in : Log → List ℕ
steps_in log = map (λ (t : ThreadLog). t.steps) log.threads

steps_at : (log : Log) (t : ℕ) → slice_index (steps_in log) t ≡ (thread_of log t).steps
steps_at log t = go (cases_lt t (length log.threads))
  where
    go : (t < length log.threads) ⊎ (length log.threads ≤ t) → slice_index (steps_in log) t ≡ (thread_of log t).steps
    go (inl lt) = get_or-map (λ (x : ThreadLog). x.steps) log.threads t no_thread 0 lt
    go (inr le) =
        get_or_past (steps_in log) t 0 (omega (arith, length-map log.threads (λ (x : ThreadLog). x.steps), le)) ∙ ap (λ (x : ThreadLog). x.steps) (sym (get_or_past log.threads t no_thread le))

-- a tag of the log names a step that was taken
pub tag_of_log : (log : Log) (tag : Tag) → is_taken (steps_in log) tag ≡ true → IsTagOf log tag
tag_of_log log None h = tt
tag_of_log log (Some event) h =
    let both = and_parts (ltb 0 event.step) (leb event.step (slice_index (steps_in log) event.thread)) h in
    let first = ltb-true 0 event.step both.0 in
    let last = leb-true event.step (slice_index (steps_in log) event.thread) both.1 in
    let same = steps_at log event.thread in
    record {
      thread = go first (omega (arith, last, same)) (cases_lt event.thread (length log.threads));
      first = first;
      last = omega (arith, last, same);
    }
  where
    go : 0 < event.step → event.step ≤ (thread_of log event.thread).steps → (event.thread < length log.threads) ⊎ (length log.threads ≤ event.thread) → event.thread < length log.threads
    go first last (inl lt) = lt
    go first last (inr le) = absurd (omega (arith, first, last, ap (λ (x : ThreadLog). x.steps) (get_or_past log.threads event.thread no_thread le)))

pub tag_is_taken : (log : Log) → IsWellFormed log → (tag : Tag) → IsTagOf log tag → IsTagIn (steps_in log) tag
tag_is_taken log formed None h = record { taken = refl; writer = tt }
tag_is_taken log formed (Some event) h =
    let same = steps_at log event.thread in
    let short = (formed.threads event.thread h.thread).steps in
    record {
      taken = and_from (ltb 0 event.step) _ (lt-ltb 0 event.step h.first) (le-leb event.step (slice_index (steps_in log) event.thread) (omega (arith, same, h.last)));
      writer = record {
        thread = omega (arith, h.thread, formed.range.threads);
        first = h.first;
        last = omega (arith, h.last, short, formed.range.steps);
      };
    }
