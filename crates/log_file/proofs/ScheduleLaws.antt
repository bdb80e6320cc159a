-- The laws of schedules as bytes: what is read is spelled so, and what is spelled so is read.
use Rattle.std.proofs.Common.{◌≡◌, ◌≢◌, ℕ, ◌+◌, ◌*◌, ◌^◌, ◌<◌, ◌≤◌, Bool, true, false, cond, ltb, eqb, not, List, [], ◌∷◌, ◌++◌, length, take, drop, All, Option, Some, None, Result, Ok, Err, refl, sym, ap, subst, ◌∙◌, arith, length-append, inl, inr, ◌⊎◌}
use Rattle.std.specs.Prelude.{IfOk, MatchResult, IfErr}
use Rattle.std.specs.Global.{Vec}
use Rattle.std.specs.Option.{ok_or}
use Rattle.std.specs.List.{flat_map, starts_with}
use Rattle.std.specs.Int.{w32, to_be_bytes}
use Rattle.std.proofs.lemmas.Bool.{cases_eq, ltb-false, lt-ltb, le-ltb, not-false, cond-true, cond-false, cases_Bool}
use Rattle.std.proofs.lemmas.Slice.Eq.{bytes_eq-Decides}
use Rattle.std.proofs.lemmas.List.{take-append-drop, take_at, drop_all, append-nil}
use Rattle.light_base.specs.declared.tag.Event.{Event}
use Rattle.light_base.specs.Tags.{HasTag, IsWriter, bits_of, writer_of, bits_of-writer_of}
use Rattle.light_base.specs.Numbers.{IsBytes}
use Rattle.light_base.proofs.Tags.{writer_of-bits_of, bits_of-IsTag, bits_of-lt}
use Rattle.log_file.specs.LogReading.{number_at, is_tag}
use Rattle.log_file.specs.Schedules.{SchedFault, SchedKind, fault, out_of_memory, magic, event_bytes, schedule_text, IsSchedule, reaches, event_in, next_event, events_in, count_in, schedule_read, Gives}
use Rattle.log_file.specs.declared.sched_fault.SchedKind.TheVariants as kind
use Rattle.log_file.proofs.RowLaws.{AllAfter-map, AllAfter-both, AllAfter-counted, AllAfter-at, AllAfter-from, ok_then, rows_take, rows_again, StandsAt, rows_stand, rows_stood}
use Rattle.log_file.proofs.FieldLaws.{joined, parted, behind, number_take, number_fits, number_again}
use Rattle.log_file.proofs.TagLaws.{tag_holds, tag_tested, writer_fits}

-- the event at a place whose number was read
pub event_read : (bytes : List ℕ) (before : List Event) (i n : ℕ) (event : Option Event) → length before ≡ i → n ≡ number_at bytes (8 + 4 * i) → event ≡ event_in n → next_event bytes before ≡ ok_or event (fault kind.Event i)
event_read bytes before i n event count number is =
    ap (λ (k : ℕ). ok_or (event_in (number_at bytes (8 + 4 * k))) (fault kind.Event k)) count ∙ ap (λ (m : ℕ). ok_or (event_in m) (fault kind.Event i)) (sym number) ∙ ap (λ (o : Option Event). ok_or o (fault kind.Event i)) (sym is)

-- ---- events

event_take : (bits : ℕ) (event : Event) → bits < 2 ^ 32 → event_in bits ≡ Some event → (bits_of (Some event) ≡ bits) × HasTag event
unfolding event_in
event_take bits event lt e = go (cases_Bool (is_tag bits))
  where
    go : (is_tag bits ≡ true) ⊎ (is_tag bits ≡ false) → (bits_of (Some event) ≡ bits) × HasTag event
    go (inl t) =
        let holds = tag_holds bits t in
        let same : writer_of bits ≡ Some event = sym (cond-true (is_tag bits) (writer_of bits) None t) ∙ e in
        (ap bits_of (sym same) ∙ bits_of-writer_of bits holds, subst IsWriter same (writer_fits bits lt holds))
    go (inr f) = let same : None ≡ Some event = sym (cond-false (is_tag bits) (writer_of bits) None f) ∙ e in absurd (cc same)

event_again : (event : Event) → HasTag event → event_in (bits_of (Some event)) ≡ Some event
unfolding event_in
event_again event h = cond-true (is_tag (bits_of (Some event))) _ None (tag_tested (bits_of (Some event)) (bits_of-IsTag (Some event) h)) ∙ writer_of-bits_of (Some event) h

found : {A : Type 0} (o : Option A) (f : SchedFault) (x : A) → ok_or o f ≡ Ok x → o ≡ Some x
found None f x e = absurd cc
found (Some y) f x e = cc

passed : {A : Type 0} (b : Bool) (f : SchedFault) (r : Result A SchedFault) (x : A) → cond b (Err f) r ≡ Ok x → (b ≡ false) × (r ≡ Ok x)
passed true f r x e = absurd cc
passed false f r x e = (refl, e)

module _ (bytes : List ℕ) where
  abbrev place : List Event → ℕ
  place before = 8 + 4 * length before

  place-more : (before : List Event) (e : Event) → place (before ++ e ∷ []) ≡ place before + 4
  place-more before e = omega (arith, length-append before (e ∷ []))

  events_take : (n : ℕ) (events : List Event) → IsBytes bytes → 8 + 4 * n ≤ length bytes → events_in bytes n ≡ Ok events →
      (length events ≡ n) × All HasTag events × (drop 8 bytes ≡ flat_map event_bytes events ++ drop (8 + 4 * n) bytes)
  events_take n events fits there e =
      let (new, parts, count, read) = rows_take (next_event bytes) n [] events e in
      let counted = AllAfter-counted (λ b x. next_event bytes b ≡ Ok x) n [] new (omega (arith, count)) read in
      let each : (b : List Event) (x : Event) → (next_event bytes b ≡ Ok x) × (length b < n) → HasTag x × StandsAt event_bytes bytes place b x =
      λ b x r.
      let one = event_take (number_at bytes (place b)) x (number_fits bytes fits (place b)) (found (event_in (number_at bytes (place b))) (fault kind.Event (length b)) x r.0) in (
        one.1,
        number_take bytes fits (place b) (place b + 4) refl (omega (arith, r.1)) ∙ ap (λ (k : ℕ). to_be_bytes w32 k ++ drop (place b + 4) bytes) (sym one.0) ∙ ap (λ (k : ℕ). event_bytes x ++ drop k bytes) (sym (place-more b x)),
      ) in
      let tagged : All HasTag new = λ i d lt. AllAfter-at (λ b x. HasTag x) [] new (AllAfter-map _ (λ b x. HasTag x) (λ b x r. (each b x r).0) [] new counted) i d lt in
      let stand = rows_stand event_bytes bytes place [] new (AllAfter-map _ (StandsAt event_bytes bytes place) (λ b x r. (each b x r).1) [] new counted) in
      let end : place new ≡ 8 + 4 * n = omega (arith, count) in
      let P : List Event → Type 0 = λ es. (length es ≡ n) × All HasTag es × (drop 8 bytes ≡ flat_map event_bytes es ++ drop (8 + 4 * n) bytes) in
      subst P (sym parts) (count, tagged, stand ∙ ap (λ (k : ℕ). flat_map event_bytes new ++ drop k bytes) end)

  events_again : (events : List Event) (rest : List ℕ) → All HasTag events → drop 8 bytes ≡ flat_map event_bytes events ++ rest → (events_in bytes (length events) ≡ Ok events) × (drop (8 + 4 * length events) bytes ≡ rest)
  events_again events rest tagged stands =
      let stood = rows_stood event_bytes bytes place place-more [] events rest stands in
      let tags = AllAfter-from (λ b x. HasTag x) [] events (λ i d lt. tagged i d lt) in
      let one : (b : List Event) (x : Event) → HasTag x × StandsAt event_bytes bytes place b x → next_event bytes b ≡ Ok x =
      λ b x r.
      let number = number_again bytes (place b) (bits_of (Some x)) (drop (place (b ++ x ∷ [])) bytes) (bits_of-lt (Some x) r.0) r.1 in
      ap (λ (k : ℕ). ok_or (event_in k) (fault kind.Event (length b))) number ∙ ap (λ (o : Option Event). ok_or o (fault kind.Event (length b))) (event_again x r.0) in
      (rows_again (next_event bytes) [] events (AllAfter-map _ (λ b x. next_event bytes b ≡ Ok x) one [] events (AllAfter-both (λ b x. HasTag x) (StandsAt event_bytes bytes place) [] events tags stood.0)), stood.1)

length-events : (events : List Event) → length (flat_map event_bytes events) ≡ 4 * length events
length-events [] = refl
length-events (e ∷ events) = length-append (event_bytes e) (flat_map event_bytes events) ∙ omega (arith, length-events events)

-- ---- schedules

reaches-take : (bytes : List ℕ) (place : ℕ) (u : Prim.Unit {0}) → reaches bytes place ≡ Ok u → place ≤ length bytes
unfolding reaches
reaches-take bytes place u e = ltb-false (length bytes) place (passed (ltb (length bytes) place) (fault kind.Short (length bytes)) (Ok tt) u e).0

reaches-again : (bytes : List ℕ) (place : ℕ) → place ≤ length bytes → reaches bytes place ≡ Ok tt
unfolding reaches
reaches-again bytes place le = rw (le-ltb (length bytes) place le) refl

count_take : (bytes : List ℕ) (count : ℕ) → count_in bytes ≡ Ok count → (8 ≤ length bytes) × (take 4 bytes ≡ magic) × (number_at bytes 4 ≡ count)
unfolding count_in
count_take bytes count e =
    let reach = ok_then (reaches bytes 8) _ count e in
    let begin = passed (not (starts_with eqb bytes magic)) (fault kind.Magic 0) _ count reach.2 in
    (reaches-take bytes 8 reach.0 reach.1, sym ((bytes_eq-Decides magic (take 4 bytes)).0 (not-false _ begin.0)), cc begin.1)

-- what is read is the text of the order
pub schedule_take : (bytes : List ℕ) (order : List Event) → IsBytes bytes → schedule_read bytes ≡ Ok order → IsSchedule bytes order
unfolding schedule_read
schedule_take bytes order fits e =
    let counted = ok_then (count_in bytes) _ order e in
    let n : ℕ = counted.0 in
    let head = count_take bytes n counted.1 in
    let reach = ok_then (reaches bytes (8 + 4 * n)) _ order counted.2 in
    let events = ok_then (events_in bytes n) _ order reach.2 in
    let es : List Event = events.0 in
    let last = passed (ltb (8 + 4 * n) (length bytes)) (fault kind.Long (8 + 4 * n)) (Ok es) order events.2 in
    let same : es ≡ order = cc last.1 in
    let there = reaches-take bytes (8 + 4 * n) reach.0 reach.1 in
    let are = events_take bytes n es fits there events.1 in
    let none_left : drop (8 + 4 * n) bytes ≡ [] = drop_all (8 + 4 * n) bytes (ltb-false (8 + 4 * n) (length bytes) last.0) in
    let tail : drop 8 bytes ≡ flat_map event_bytes es = are.2 ∙ ap (λ (xs : List ℕ). flat_map event_bytes es ++ xs) none_left ∙ append-nil (flat_map event_bytes es) in
    let number : number_at bytes 4 ≡ length es = head.2 ∙ sym are.0 in
    let count : drop 4 bytes ≡ to_be_bytes w32 (length es) ++ drop 8 bytes = number_take bytes fits 4 8 refl head.0 ∙ ap (λ (k : ℕ). to_be_bytes w32 k ++ drop 8 bytes) number in
    let begin : bytes ≡ magic ++ drop 4 bytes = sym (take-append-drop 4 bytes) ∙ ap (λ (xs : List ℕ). xs ++ drop 4 bytes) head.1 in
    let whole : bytes ≡ schedule_text es = joined bytes magic (drop 4 bytes) (to_be_bytes w32 (length es)) (drop 8 bytes) begin count ∙ ap (λ (xs : List ℕ). (magic ++ to_be_bytes w32 (length es)) ++ xs) tail in
    let fits_count : length es < 2 ^ 32 = subst (λ (k : ℕ). k < 2 ^ 32) number (number_fits bytes fits 4) in
    subst (IsSchedule bytes) same (record { events = are.1; few = fits_count; spelled = whole })

-- how the text of an order is read, with or without bytes after it
module _ (order : List Event) (tagged : All HasTag order) (few : length order < 2 ^ 32) (bytes more : List ℕ) (stands : bytes ≡ schedule_text order ++ more) where
  record IsRead : Type 0 where
    pub count : count_in bytes ≡ Ok (length order)
    pub events : events_in bytes (length order) ≡ Ok order
    pub whole : length bytes ≡ 8 + 4 * length order + length more

  read : IsRead
  unfolding count_in
  read =
      let m = magic in
      let c = to_be_bytes w32 (length order) in
      let es = flat_map event_bytes order in
      let two : bytes ≡ (m ++ c) ++ (es ++ more) = parted bytes (m ++ c) es more stands in
      let one : bytes ≡ m ++ (c ++ (es ++ more)) = parted bytes m c (es ++ more) two in
      let after : drop 8 bytes ≡ es ++ more = behind bytes 0 8 (m ++ c) (es ++ more) two refl in
      let number : number_at bytes 4 ≡ length order = number_again bytes 4 (length order) (es ++ more) few (behind bytes 0 4 m (c ++ (es ++ more)) one refl) in
      let long : length bytes ≡ 8 + 4 * length order + length more = omega (arith, ap length two, length-append (m ++ c) (es ++ more), length-append es more, length-events order) in
      let begins : starts_with eqb bytes magic ≡ true = (bytes_eq-Decides magic (take 4 bytes)).1 (sym (ap (take 4) one ∙ take_at m (c ++ (es ++ more)) 4 refl)) in
      record {
        count = rw (reaches-again bytes 8 (omega (arith, long)), begins) (ap Ok number);
        events = (events_again bytes order more tagged after).0;
        whole = long;
      }

  result : schedule_read bytes ≡ cond (ltb (8 + 4 * length order) (length bytes)) (Err (fault kind.Long (8 + 4 * length order))) (Ok order)
  unfolding schedule_read
  result = let r = read in rw (r.count, reaches-again bytes (8 + 4 * length order) (omega (arith, r.whole)), r.events) refl

-- the text of an order is read as this order
pub schedule_again : (bytes : List ℕ) (order : List Event) → IsSchedule bytes order → schedule_read bytes ≡ Ok order
schedule_again bytes order text =
    let stands : bytes ≡ schedule_text order ++ [] = text.spelled ∙ sym (append-nil (schedule_text order)) in
    let r = read order text.events text.few bytes [] stands in
    result order text.events text.few bytes [] stands ∙ cond-false _ (Err (fault kind.Long (8 + 4 * length order))) (Ok order) (le-ltb (8 + 4 * length order) (length bytes) (omega (arith, r.whole)))

-- with bytes after it, it is too long
pub schedule_long : (bytes more : List ℕ) (order : List Event) → IsSchedule bytes order → 0 < length more → schedule_read (bytes ++ more) ≡ Err (fault kind.Long (length bytes))
schedule_long bytes more order text some =
    let alone : bytes ≡ schedule_text order ++ [] = text.spelled ∙ sym (append-nil (schedule_text order)) in
    let stands : bytes ++ more ≡ schedule_text order ++ more = ap (λ (xs : List ℕ). xs ++ more) text.spelled in
    let r = read order text.events text.few bytes [] alone in
    let s = read order text.events text.few (bytes ++ more) more stands in
    let end : 8 + 4 * length order ≡ length bytes = omega (arith, r.whole) in
    result order text.events text.few (bytes ++ more) more stands ∙
    cond-true _ (Err (fault kind.Long (8 + 4 * length order))) (Ok order) (lt-ltb (8 + 4 * length order) (length (bytes ++ more)) (omega (arith, s.whole, some))) ∙ ap (λ (k : ℕ). Err (fault kind.Long k)) end

-- ---- what a reader answers

abbrev read_so : List Event → Result (List Event) SchedFault
read_so order = Ok order

abbrev refused : SchedFault → Result (List Event) SchedFault
refused e = Err e

never_both : (e : SchedFault) (order : List Event) → refused e ≡ read_so order → ⊥
never_both e order h = cc

ok_is : (a b : List Event) → read_so a ≡ read_so b → a ≡ b
ok_is a b h = cc

abbrev at_place : SchedKind → ℕ → SchedFault
at_place k at = record { kind = k; at = at }

-- a fault is that of memory, or another
memory_or : (k : SchedKind) (at : ℕ) → (at_place k at ≡ out_of_memory) ⊎ (at_place k at ≢ out_of_memory)
memory_or kind.Short at = inr (λ h. let e : kind.Short ≡ kind.Memory = ap (λ (f : SchedFault). f.kind) h in cc)
memory_or kind.Magic at = inr (λ h. let e : kind.Magic ≡ kind.Memory = ap (λ (f : SchedFault). f.kind) h in cc)
memory_or kind.Event at = inr (λ h. let e : kind.Event ≡ kind.Memory = ap (λ (f : SchedFault). f.kind) h in cc)
memory_or kind.Long at = inr (λ h. let e : kind.Long ≡ kind.Memory = ap (λ (f : SchedFault). f.kind) h in cc)
memory_or kind.Memory at =
    elim (cases_eq at 0) [
      | inl no_place ↦ inl (ap (at_place kind.Memory) no_place)
      | inr other ↦ inr (λ h. other (ap (λ (f : SchedFault). f.at) h))
    ]

-- a vector of events that was read, or a fault
abbrev Answer : Type 0
Answer = Result (Vec Event) SchedFault

pub found_is : (bytes : List ℕ) (r : Answer) → IsBytes bytes → Gives (λ events. events.items) r (schedule_read bytes) → IfOk r (λ events. IsSchedule bytes events.items)
found_is bytes (Ok events) fits given = schedule_take bytes events.items fits given
found_is bytes (Err e) fits given = tt

pub only_is : (bytes : List ℕ) (r : Answer) (order : List Event) → Gives (λ events. events.items) r (schedule_read bytes) → IsSchedule bytes order → MatchResult r (λ events. events.items ≡ order) (λ e. e ≡ out_of_memory)
only_is bytes (Ok events) order given text = ok_is events.items order (sym given ∙ schedule_again bytes order text)
only_is bytes (Err e) order given text =
    elim (memory_or e.kind e.at) [
      | inl same ↦ same
      | inr other ↦ absurd (never_both e order (sym (given other) ∙ schedule_again bytes order text))
    ]

pub refused_is : (bytes : List ℕ) (r : Answer) → Gives (λ events. events.items) r (schedule_read bytes) → IfErr r (λ e. e.kind ≢ kind.Memory → (order : List Event) → ¬ IsSchedule bytes order)
refused_is bytes (Ok events) given = tt
refused_is bytes (Err e) given = λ other order text. never_both e order (sym (given (λ h. other (ap (λ (f : SchedFault). f.kind) h))) ∙ schedule_again bytes order text)
