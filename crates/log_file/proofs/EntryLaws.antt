-- Entries: what is read passes the tests and stands there, and what passes the tests is read where it stands.
use Rattle.std.proofs.Common.{◌≡◌, ℕ, ◌+◌, ◌^◌, ◌<◌, ◌≤◌, Bool, true, false, cond, ltb, leb, ◌||◌, List, ◌++◌, length, drop, Option, Some, None, Result, Ok, Err, refl, sym, ap, subst, ◌∙◌, arith}
use Rattle.std.specs.Option.{ok_or}
use Rattle.std.specs.List.{list_any}
use Rattle.std.specs.Int.{w16, w32, to_be_bytes}
use Rattle.std.proofs.lemmas.Bool.{or_parts, leb-false, lt-leb, ltb-false, le-ltb}
use Rattle.light_base.specs.declared.tag.Tag.{Tag}
use Rattle.light_base.specs.Tags.{bits_of}
use Rattle.light_base.specs.Numbers.{IsBytes}
use Rattle.replay_model.specs.declared.Entry.{Entry}
use Rattle.replay_model.specs.MoreReads.{is_entry_for}
use Rattle.log_file.specs.LogFaults.{LogFault, fault}
use Rattle.log_file.specs.declared.log_fault.LogKind.TheVariants as kind
use Rattle.log_file.specs.Spelling.{entry_bytes}
use Rattle.log_file.specs.LogReading.{half_at, number_at, tag_in, newest_first, ends_late, entry_of, entry_at}
use Rattle.log_file.proofs.RowLaws.{ok_then}
use Rattle.log_file.proofs.FieldLaws.{joined, parted, behind, number_take, half_take, number_fits, number_again, half_again}
use Rattle.log_file.proofs.TagLaws.{IsTagIn, tag_take, tag_again, tag_fits}

-- an entry that may stand behind these, of a thread that took `own` steps
pub record IsNext (words : ℕ) (steps : List ℕ) (own : ℕ) (before : List Entry) (e : Entry) : Type 0 where
  pub order : newest_first before < e.first
  pub between : e.first ≤ e.last
  pub high : e.last ≤ own
  pub source : IsTagIn steps e.source
  pub word : e.word < words
  pub once : list_any (is_entry_for e.word e.source) before ≡ false
  pub apart : list_any (ends_late e.word e.first) before ≡ false

-- a test that no fault came of
pub passed : {A : Type 0} (b : Bool) (f : LogFault) (r : Result A LogFault) (x : A) → cond b (Err f) r ≡ Ok x → (b ≡ false) × (r ≡ Ok x)
passed true f r x e = absurd cc
passed false f r x e = (refl, e)

pub found : {A : Type 0} (o : Option A) (f : LogFault) (x : A) → ok_or o f ≡ Ok x → o ≡ Some x
found None f x e = absurd cc
found (Some y) f x e = cc

abbrev made : ℕ → Tag → ℕ → ℕ → Entry
made word source first last = record { word = word; source = source; first = first; last = last }

-- an entry that was read of four numbers
pub record IsRead (e : Entry) (word bits first last : ℕ) : Type 0 where
  pub word_is : e.word ≡ word
  pub bits_are : bits_of e.source ≡ bits
  pub first_is : e.first ≡ first
  pub last_is : e.last ≡ last

module _ (words : ℕ) (steps : List ℕ) (own at : ℕ) (before : List Entry) where
  entry_take : (word bits first last : ℕ) (e : Entry) → bits < 2 ^ 32 → entry_of words steps own at before word bits first last ≡ Ok e → IsRead e word bits first last × IsNext words steps own before e
  unfolding entry_of
  entry_take word bits first last e fits h =
      let order = passed (leb first (newest_first before)) (fault kind.Order at) _ e h in
      let range = passed (ltb last first || ltb own last) (fault kind.Range at) _ e order.1 in
      let source = ok_then (ok_or (tag_in steps bits) (fault kind.Source at)) _ e range.1 in
      let tag : Tag = source.0 in
      let is = tag_take steps bits tag fits (found (tag_in steps bits) (fault kind.Source at) tag source.1) in
      let in_words = passed (leb words word) (fault kind.Word at) _ e source.2 in
      let once = passed (list_any (is_entry_for word tag) before) (fault kind.Twice at) _ e in_words.1 in
      let apart = passed (list_any (ends_late word first) before) (fault kind.Overlap at) _ e once.1 in
      let same : made word tag first last ≡ e = cc apart.1 in
      let both = or_parts (ltb last first) (ltb own last) range.0 in
      let P : Entry → Type 0 = λ x. IsRead x word bits first last × IsNext words steps own before x in
      subst P same (
        record { word_is = refl; bits_are = is.0; first_is = refl; last_is = refl },
        record {
          order = leb-false first (newest_first before) order.0;
          between = ltb-false last first both.0;
          high = ltb-false own last both.1;
          source = is.1;
          word = leb-false words word in_words.0;
          once = once.0;
          apart = apart.0;
        },
      )

  entry_again : (e : Entry) → IsNext words steps own before e → entry_of words steps own at before e.word (bits_of e.source) e.first e.last ≡ Ok e
  unfolding entry_of
  entry_again e h =
      rw (
        lt-leb e.first (newest_first before) h.order,
        le-ltb e.last e.first h.between,
        le-ltb own e.last h.high,
        tag_again steps e.source h.source,
        lt-leb words e.word h.word,
        h.once,
        h.apart,
      ) refl

-- ---- where it stands

fields_stand : (bytes : List ℕ) (at : ℕ) → IsBytes bytes → at + 14 ≤ length bytes →
    drop at bytes ≡ (to_be_bytes w16 (half_at bytes at) ++ to_be_bytes w32 (number_at bytes (at + 2)) ++ to_be_bytes w32 (number_at bytes (at + 6)) ++ to_be_bytes w32 (number_at bytes (at + 10))) ++ drop (at + 14) bytes
fields_stand bytes at fits there =
    let w = to_be_bytes w16 (half_at bytes at) in
    let n : ℕ → List ℕ = λ k. to_be_bytes w32 (number_at bytes k) in
    let a = half_take bytes fits at (at + 2) refl (omega arith) in
    let b = number_take bytes fits (at + 2) (at + 6) (omega arith) (omega arith) in
    let c = number_take bytes fits (at + 6) (at + 10) (omega arith) (omega arith) in
    let d = number_take bytes fits (at + 10) (at + 14) (omega arith) there in
    let ab = joined (drop at bytes) w (drop (at + 2) bytes) (n (at + 2)) (drop (at + 6) bytes) a b in
    let abc = joined (drop at bytes) (w ++ n (at + 2)) (drop (at + 6) bytes) (n (at + 6)) (drop (at + 10) bytes) ab c in
    joined (drop at bytes) (w ++ n (at + 2) ++ n (at + 6)) (drop (at + 10) bytes) (n (at + 10)) (drop (at + 14) bytes) abc d

-- the entry that was read may stand there, and does
pub entry_at-take : (words : ℕ) (steps : List ℕ) (own : ℕ) (bytes : List ℕ) (at : ℕ) (before : List Entry) (e : Entry) → IsBytes bytes → at + 14 ≤ length bytes →
    entry_at words steps own bytes at before ≡ Ok e → IsNext words steps own before e × (drop at bytes ≡ entry_bytes e ++ drop (at + 14) bytes)
entry_at-take words steps own bytes at before e fits there h =
    let read = entry_take words steps own at before (half_at bytes at) (number_at bytes (at + 2)) (number_at bytes (at + 6)) (number_at bytes (at + 10)) e (number_fits bytes fits (at + 2)) h in
    let told : ℕ → ℕ → ℕ → ℕ → List ℕ = λ word bits first last. to_be_bytes w16 word ++ to_be_bytes w32 bits ++ to_be_bytes w32 first ++ to_be_bytes w32 last in
    let same : told (half_at bytes at) (number_at bytes (at + 2)) (number_at bytes (at + 6)) (number_at bytes (at + 10)) ≡ entry_bytes e =
    ap (λ (n : ℕ). told n (number_at bytes (at + 2)) (number_at bytes (at + 6)) (number_at bytes (at + 10))) (sym read.0.word_is) ∙
    ap (λ (n : ℕ). told e.word n (number_at bytes (at + 6)) (number_at bytes (at + 10))) (sym read.0.bits_are) ∙
    ap (λ (n : ℕ). told e.word (bits_of e.source) n (number_at bytes (at + 10))) (sym read.0.first_is) ∙ ap (told e.word (bits_of e.source) e.first) (sym read.0.last_is) in
    (read.1, fields_stand bytes at fits there ∙ ap (λ (xs : List ℕ). xs ++ drop (at + 14) bytes) same)

-- an entry that stands there and may is read
pub entry_at-again : (words : ℕ) (steps : List ℕ) (own : ℕ) (bytes : List ℕ) (at : ℕ) (before : List Entry) (e : Entry) (rest : List ℕ) → words < 2 ^ 16 → own < 2 ^ 32 →
    IsNext words steps own before e → drop at bytes ≡ entry_bytes e ++ rest → entry_at words steps own bytes at before ≡ Ok e
entry_at-again words steps own bytes at before e rest few short next stands =
    let w = to_be_bytes w16 e.word in
    let b = to_be_bytes w32 (bits_of e.source) in
    let f = to_be_bytes w32 e.first in
    let l = to_be_bytes w32 e.last in
    let three : drop at bytes ≡ (w ++ b ++ f) ++ (l ++ rest) = parted (drop at bytes) (w ++ b ++ f) l rest stands in
    let two : drop at bytes ≡ (w ++ b) ++ (f ++ (l ++ rest)) = parted (drop at bytes) (w ++ b) f (l ++ rest) three in
    let one : drop at bytes ≡ w ++ (b ++ (f ++ (l ++ rest))) = parted (drop at bytes) w b (f ++ (l ++ rest)) two in
    let most : e.last < 2 ^ 32 = omega (arith, next.high) in
    let word : half_at bytes at ≡ e.word = half_again bytes at e.word (b ++ (f ++ (l ++ rest))) (omega (arith, next.word)) one in
    let bits : number_at bytes (at + 2) ≡ bits_of e.source =
    number_again bytes (at + 2) (bits_of e.source) (f ++ (l ++ rest)) (tag_fits steps e.source next.source) (behind bytes at 2 w (b ++ (f ++ (l ++ rest))) one refl) in
    let first : number_at bytes (at + 6) ≡ e.first = number_again bytes (at + 6) e.first (l ++ rest) (omega (arith, next.between)) (behind bytes at 6 (w ++ b) (f ++ (l ++ rest)) two refl) in
    let last : number_at bytes (at + 10) ≡ e.last = number_again bytes (at + 10) e.last rest most (behind bytes at 10 (w ++ b ++ f) (l ++ rest) three refl) in
    ap (λ (n : ℕ). entry_of words steps own at before n (number_at bytes (at + 2)) (number_at bytes (at + 6)) (number_at bytes (at + 10))) word ∙
    ap (λ (n : ℕ). entry_of words steps own at before e.word n (number_at bytes (at + 6)) (number_at bytes (at + 10))) bits ∙
    ap (λ (n : ℕ). entry_of words steps own at before e.word (bits_of e.source) n (number_at bytes (at + 10))) first ∙
    ap (entry_of words steps own at before e.word (bits_of e.source) e.first) last ∙ entry_again words steps own at before e next
