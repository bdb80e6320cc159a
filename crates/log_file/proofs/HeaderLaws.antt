-- Headers: what is read keeps the limits and stands there, and what keeps them is read where it stands.
use Rattle.std.proofs.Common.{◌≡◌, ℕ, ◌+◌, ◌^◌, ◌<◌, ◌≤◌, Bool, true, false, cond, eqb, ltb, ◌||◌, List, [], ◌∷◌, ◌++◌, length, drop, Option, Some, None, Ok, refl, sym, ap, subst, ◌∙◌, arith, inl, inr, ◌⊎◌}
use Rattle.std.specs.Prelude.{slice_index}
use Rattle.std.specs.Option.{ok_or}
use Rattle.std.specs.Int.{w32, to_be_bytes}
use Rattle.std.proofs.lemmas.Bool.{or_parts, ltb-false, le-ltb, eqb-true, cond-false}
use Rattle.std.proofs.lemmas.List.{append-nil, drop_more}
use Rattle.light_base.specs.Numbers.{IsBytes}
use Rattle.replay_model.specs.declared.End.{End}
use Rattle.replay_model.specs.declared.End.TheVariants.{Halted, InstrSpent, BadAddress, StepsSpent, EntriesFull, OutputFull, InputEmpty}
use Rattle.replay_model.specs.Logs.{Limits}
use Rattle.replay_model.specs.WellFormed.{IsPossibleEnd}
use Rattle.log_file.specs.Versions.{Version, header_len, last_end}
use Rattle.log_file.specs.declared.version.Version.TheVariants.{One, Two}
use Rattle.log_file.specs.LogFaults.{fault}
use Rattle.log_file.specs.declared.log_fault.LogKind.TheVariants as kind
use Rattle.log_file.specs.Spelling.{code_of_end, address_of_end}
use Rattle.log_file.specs.LogReading.{Head, Header, number_at, plain_end, end_in, taken_at, is_over, counts_at, header_of, header_at}
use Rattle.log_file.proofs.RowLaws.{ok_then}
use Rattle.log_file.proofs.FieldLaws.{joined, parted, behind, number_take, number_fits, number_again, byte_again}
use Rattle.log_file.proofs.EntryLaws.{passed, found}

-- ---- ends

-- the end with this number and this address, in a version of which this is the greatest number
pub record IsEnd (version : Version) (words code address : ℕ) (end : End) : Type 0 where
  pub number : code_of_end end ≡ code
  pub place : address_of_end end ≡ address
  pub possible : IsPossibleEnd words end
  pub known : code_of_end end ≤ last_end version

chosen : {A : Type 0} (b : Bool) (x y z : A) → cond b x y ≡ z → ((b ≡ true) × (x ≡ z)) ⊎ ((b ≡ false) × (y ≡ z))
chosen true x y z e = inl (refl, e)
chosen false x y z e = inr (refl, e)

module _ (version : Version) (words code : ℕ) (end : End) (most : code ≤ last_end version) where
  -- one of the ends that have no address
  plain-case : (x : End) (n : ℕ) → code_of_end x ≡ n → address_of_end x ≡ 0 → IsPossibleEnd words x → (rest : Option End) → (rest ≡ Some end → IsEnd version words code 0 end) →
      cond (eqb code n) (Some x) rest ≡ Some end → IsEnd version words code 0 end
  plain-case x n number address possible rest others e = go (chosen (eqb code n) (Some x) rest (Some end) e)
    where
      here : eqb code n ≡ true → IsEnd version words code 0 x
      here t = let same = eqb-true code n t in record { number = number ∙ sym same; place = address; possible = possible; known = omega (arith, number, same, most) }

      go : ((eqb code n ≡ true) × (Some x ≡ Some end)) ⊎ ((eqb code n ≡ false) × (rest ≡ Some end)) → IsEnd version words code 0 end
      go (inl h) = let same : x ≡ end = cc h.1 in subst (IsEnd version words code 0) same (here h.0)
      go (inr h) = others h.1

  plain_take : plain_end code ≡ Some end → IsEnd version words code 0 end
  plain_take =
      plain-case Halted 0 refl refl tt _ (plain-case InstrSpent 1 refl refl tt _ (plain-case StepsSpent 3 refl refl tt _ (plain-case EntriesFull 4 refl refl tt _
      (plain-case OutputFull 5 refl refl tt _ (plain-case InputEmpty 6 refl refl tt _ (λ e. absurd cc))))))

pub end_take : (version : Version) (words code address : ℕ) (end : End) → end_in version words code address ≡ Some end → IsEnd version words code address end
unfolding end_in
end_take version words code address end e = known (chosen (ltb (last_end version) code) None _ (Some end) e)
  where
    bad : eqb code 2 ≡ true → code ≤ last_end version → (ltb address words ≡ true) × (None ≡ Some end) ⊎ (ltb address words ≡ false) × (Some (BadAddress address) ≡ Some end) → IsEnd version words code address end
    bad two most (inl h) = absurd cc h.1
    bad two most (inr h) =
        let same : BadAddress address ≡ end = cc h.1 in
        let number = eqb-true code 2 two in
        subst (IsEnd version words code address) same (record { number = sym number; place = refl; possible = ltb-false address words h.0; known = omega (arith, number, most) })

    plain : code ≤ last_end version → (eqb address 0 ≡ true) × (plain_end code ≡ Some end) ⊎ (eqb address 0 ≡ false) × (None ≡ Some end) → IsEnd version words code address end
    plain most (inl h) = subst (λ (a : ℕ). IsEnd version words code a end) (sym (eqb-true address 0 h.0)) (plain_take version words code end most h.1)
    plain most (inr h) = absurd cc h.1

    told : code ≤ last_end version → (eqb code 2 ≡ true) × (cond (ltb address words) None (Some (BadAddress address)) ≡ Some end) ⊎ (eqb code 2 ≡ false) × (cond (eqb address 0) (plain_end code) None ≡ Some end) →
        IsEnd version words code address end
    told most (inl h) = bad h.0 most (chosen (ltb address words) None (Some (BadAddress address)) (Some end) h.1)
    told most (inr h) = plain most (chosen (eqb address 0) (plain_end code) None (Some end) h.1)

    known : (ltb (last_end version) code ≡ true) × (None ≡ Some end) ⊎ (ltb (last_end version) code ≡ false) × (cond (eqb code 2) (cond (ltb address words) None (Some (BadAddress address))) (cond (eqb address 0) (plain_end code) None) ≡ Some end) →
        IsEnd version words code address end
    known (inl h) = absurd cc h.1
    known (inr h) = told (ltb-false (last_end version) code h.0) (chosen (eqb code 2) _ _ (Some end) h.1)

pub end_again : (version : Version) (words : ℕ) (end : End) → IsPossibleEnd words end → code_of_end end ≤ last_end version → end_in version words (code_of_end end) (address_of_end end) ≡ Some end
unfolding end_in
end_again One words Halted possible known = refl
end_again One words InstrSpent possible known = refl
end_again One words (BadAddress address) possible known = cond-false (ltb address words) None (Some (BadAddress address)) (le-ltb address words possible)
end_again One words StepsSpent possible known = refl
end_again One words EntriesFull possible known = refl
end_again One words OutputFull possible known = refl
end_again One words InputEmpty possible known = absurd (omega (arith, known))
end_again Two words Halted possible known = refl
end_again Two words InstrSpent possible known = refl
end_again Two words (BadAddress address) possible known = cond-false (ltb address words) None (Some (BadAddress address)) (le-ltb address words possible)
end_again Two words StepsSpent possible known = refl
end_again Two words EntriesFull possible known = refl
end_again Two words OutputFull possible known = refl
end_again Two words InputEmpty possible known = refl

-- ---- headers

-- how many input numbers a header counts; version 1 does not say
abbrev pub count_text : Version → ℕ → List ℕ
count_text One taken = []
count_text Two taken = to_be_bytes w32 taken

-- the bytes of a header
abbrev pub header_text : Version → Header → List ℕ
header_text version h =
    code_of_end h.end ∷ [] ++ to_be_bytes w32 (address_of_end h.end) ++ to_be_bytes w32 h.steps ++ to_be_bytes w32 h.instr ++ to_be_bytes w32 h.entries ++ count_text version h.taken

-- version 1 counts no input numbers
abbrev pub CountsTaken : Version → ℕ → Type 0
CountsTaken One taken = taken ≡ 0
CountsTaken Two taken = Prim.Unit {0}

-- a header that keeps these limits
pub record IsWithin (version : Version) (words : ℕ) (limits : Limits) (h : Header) : Type 0 where
  pub steps : h.steps ≤ limits.steps
  pub instr : h.instr ≤ limits.instr
  pub entries : h.entries ≤ limits.entries
  pub taken : h.taken ≤ 65536
  pub end : IsPossibleEnd words h.end
  pub known : code_of_end h.end ≤ last_end version
  pub counted : CountsTaken version h.taken

-- whether counts pass the limits does not depend on the end
counts_within : (limits : Limits) (h : Header) → is_over limits h ≡ false → (h.steps ≤ limits.steps) × (h.instr ≤ limits.instr) × (h.entries ≤ limits.entries) × (h.taken ≤ 65536)
counts_within limits h e =
    let a = or_parts (ltb limits.steps h.steps || ltb limits.instr h.instr || ltb limits.entries h.entries) (ltb 65536 h.taken) e in
    let b = or_parts (ltb limits.steps h.steps || ltb limits.instr h.instr) (ltb limits.entries h.entries) a.0 in
    let c = or_parts (ltb limits.steps h.steps) (ltb limits.instr h.instr) b.0 in
    (ltb-false _ _ c.0, ltb-false _ _ c.1, ltb-false _ _ b.1, ltb-false _ _ a.1)

within_counts : (limits : Limits) (h : Header) → h.steps ≤ limits.steps → h.instr ≤ limits.instr → h.entries ≤ limits.entries → h.taken ≤ 65536 → is_over limits h ≡ false
within_counts limits h s i e t = rw (le-ltb limits.steps h.steps s, le-ltb limits.instr h.instr i, le-ltb limits.entries h.entries e, le-ltb 65536 h.taken t) refl

-- a header that was read of a number, an address and counts
pub record IsHeaderOf (h : Header) (code address : ℕ) (counts : Header) : Type 0 where
  pub number : code_of_end h.end ≡ code
  pub place : address_of_end h.end ≡ address
  pub steps_are : h.steps ≡ counts.steps
  pub instr_are : h.instr ≡ counts.instr
  pub entries_are : h.entries ≡ counts.entries
  pub taken_are : h.taken ≡ counts.taken

header_take : (version : Version) (head : Head) (at code address : ℕ) (counts h : Header) → CountsTaken version counts.taken → header_of version head at code address counts ≡ Ok h →
    IsHeaderOf h code address counts × IsWithin version head.words head.limits h
unfolding header_of
header_take version head at code address counts h counted e =
    let over = passed (is_over head.limits counts) (fault kind.Counts at) _ h e in
    let ended = ok_then (ok_or (end_in version head.words code address) (fault kind.EndCode at)) _ h over.1 in
    let end : End = ended.0 in
    let is = end_take version head.words code address end (found (end_in version head.words code address) (fault kind.EndCode at) end ended.1) in
    let within = counts_within head.limits counts over.0 in
    let same : record counts { end = end } ≡ h = cc ended.2 in
    let P : Header → Type 0 = λ x. IsHeaderOf x code address counts × IsWithin version head.words head.limits x in
    subst P same (
      record { number = is.number; place = is.place; steps_are = refl; instr_are = refl; entries_are = refl; taken_are = refl },
      record { steps = within.0; instr = within.1; entries = within.2; taken = within.3; end = is.possible; known = is.known; counted = counted },
    )

header_again : (version : Version) (head : Head) (at : ℕ) (h : Header) → IsWithin version head.words head.limits h →
    header_of version head at (code_of_end h.end) (address_of_end h.end) (record h { end = Halted }) ≡ Ok h
unfolding header_of
header_again version head at h w =
    let counts : Header = record h { end = Halted } in
    rw (within_counts head.limits counts w.steps w.instr w.entries w.taken, end_again version head.words h.end w.end w.known) refl

-- ---- where they stand

taken_counts : (version : Version) (bytes : List ℕ) (at : ℕ) → CountsTaken version (taken_at version bytes at)
taken_counts One bytes at = refl
taken_counts Two bytes at = tt

-- a header that is there stands there
fields_stand : (version : Version) (bytes : List ℕ) (at : ℕ) → IsBytes bytes → at + header_len version ≤ length bytes →
    drop at bytes ≡ (slice_index bytes at ∷ [] ++ to_be_bytes w32 (number_at bytes (at + 1)) ++ to_be_bytes w32 (number_at bytes (at + 5)) ++ to_be_bytes w32 (number_at bytes (at + 9)) ++ to_be_bytes w32 (number_at bytes (at + 13)) ++
    count_text version (taken_at version bytes at)) ++ drop (at + header_len version) bytes
fields_stand version bytes at fits there = last version there
  where
    n : ℕ → List ℕ
    n k = to_be_bytes w32 (number_at bytes k)

    code : List ℕ
    code = slice_index bytes at ∷ []

    four : at + 17 ≤ length bytes → drop at bytes ≡ (code ++ n (at + 1) ++ n (at + 5) ++ n (at + 9) ++ n (at + 13)) ++ drop (at + 17) bytes
    four there =
        let a : drop at bytes ≡ code ++ drop (at + 1) bytes = drop_more bytes at 0 (omega arith) in
        let b = number_take bytes fits (at + 1) (at + 5) (omega arith) (omega arith) in
        let c = number_take bytes fits (at + 5) (at + 9) (omega arith) (omega arith) in
        let d = number_take bytes fits (at + 9) (at + 13) (omega arith) (omega arith) in
        let e = number_take bytes fits (at + 13) (at + 17) (omega arith) there in
        let ab = joined (drop at bytes) code (drop (at + 1) bytes) (n (at + 1)) (drop (at + 5) bytes) a b in
        let abc = joined (drop at bytes) (code ++ n (at + 1)) (drop (at + 5) bytes) (n (at + 5)) (drop (at + 9) bytes) ab c in
        let abcd = joined (drop at bytes) (code ++ n (at + 1) ++ n (at + 5)) (drop (at + 9) bytes) (n (at + 9)) (drop (at + 13) bytes) abc d in
        joined (drop at bytes) (code ++ n (at + 1) ++ n (at + 5) ++ n (at + 9)) (drop (at + 13) bytes) (n (at + 13)) (drop (at + 17) bytes) abcd e

    last : (version : Version) → at + header_len version ≤ length bytes → drop at bytes ≡ (code ++ n (at + 1) ++ n (at + 5) ++ n (at + 9) ++ n (at + 13) ++ count_text version (taken_at version bytes at)) ++ drop (at + header_len version) bytes
    last One there = four there ∙ ap (λ (xs : List ℕ). xs ++ drop (at + 17) bytes) (sym (append-nil (code ++ n (at + 1) ++ n (at + 5) ++ n (at + 9) ++ n (at + 13))))
    last Two there =
        joined (drop at bytes) (code ++ n (at + 1) ++ n (at + 5) ++ n (at + 9) ++ n (at + 13)) (drop (at + 17) bytes) (n (at + 17)) (drop (at + 21) bytes) (four (omega arith))
        (number_take bytes fits (at + 17) (at + 21) (omega arith) there)

-- the header that was read keeps the limits and stands there
pub header_at-take : (version : Version) (head : Head) (bytes : List ℕ) (at : ℕ) (h : Header) → IsBytes bytes → at + header_len version ≤ length bytes → header_at version head bytes at ≡ Ok h →
    IsWithin version head.words head.limits h × (drop at bytes ≡ header_text version h ++ drop (at + header_len version) bytes) × (address_of_end h.end < 2 ^ 32)
header_at-take version head bytes at h fits there e =
    let read = header_take version head at (slice_index bytes at) (number_at bytes (at + 1)) (counts_at version bytes at) h (taken_counts version bytes at) e in
    let told : ℕ → ℕ → ℕ → ℕ → ℕ → ℕ → List ℕ = λ code address steps instr entries taken.
    code ∷ [] ++ to_be_bytes w32 address ++ to_be_bytes w32 steps ++ to_be_bytes w32 instr ++ to_be_bytes w32 entries ++ count_text version taken in
    let s = number_at bytes (at + 5) in
    let i = number_at bytes (at + 9) in
    let n = number_at bytes (at + 13) in
    let t = taken_at version bytes at in
    let same : told (slice_index bytes at) (number_at bytes (at + 1)) s i n t ≡ header_text version h =
    ap (λ (k : ℕ). told k (number_at bytes (at + 1)) s i n t) (sym read.0.number) ∙ ap (λ (k : ℕ). told (code_of_end h.end) k s i n t) (sym read.0.place) ∙
    ap (λ (k : ℕ). told (code_of_end h.end) (address_of_end h.end) k i n t) (sym read.0.steps_are) ∙
    ap (λ (k : ℕ). told (code_of_end h.end) (address_of_end h.end) h.steps k n t) (sym read.0.instr_are) ∙
    ap (λ (k : ℕ). told (code_of_end h.end) (address_of_end h.end) h.steps h.instr k t) (sym read.0.entries_are) ∙
    ap (told (code_of_end h.end) (address_of_end h.end) h.steps h.instr h.entries) (sym read.0.taken_are) in
    let fits_address : address_of_end h.end < 2 ^ 32 = subst (λ (k : ℕ). k < 2 ^ 32) (sym read.0.place) (number_fits bytes fits (at + 1)) in
    (read.1, fields_stand version bytes at fits there ∙ ap (λ (xs : List ℕ). xs ++ drop (at + header_len version) bytes) same, fits_address)

-- the counts of a header fit their bytes
pub record HasSmallLimits (limits : Limits) : Type 0 where
  pub steps : limits.steps < 2 ^ 32
  pub instr : limits.instr < 2 ^ 32
  pub entries : limits.entries < 2 ^ 32

count_again : (version : Version) (bytes : List ℕ) (at : ℕ) (taken : ℕ) (rest : List ℕ) → CountsTaken version taken → taken < 2 ^ 32 → drop (at + 17) bytes ≡ count_text version taken ++ rest → taken_at version bytes at ≡ taken
count_again One bytes at taken rest counted fits e = sym counted
count_again Two bytes at taken rest counted fits e = number_again bytes (at + 17) taken rest fits e

-- a header that keeps the limits is read where it stands
pub header_at-again : (version : Version) (head : Head) (bytes : List ℕ) (at : ℕ) (h : Header) (rest : List ℕ) → IsWithin version head.words head.limits h → HasSmallLimits head.limits → address_of_end h.end < 2 ^ 32 →
    drop at bytes ≡ header_text version h ++ rest → header_at version head bytes at ≡ Ok h
header_at-again version head bytes at h rest w small fits stands =
    let c = code_of_end h.end ∷ [] in
    let a = to_be_bytes w32 (address_of_end h.end) in
    let s = to_be_bytes w32 h.steps in
    let i = to_be_bytes w32 h.instr in
    let e = to_be_bytes w32 h.entries in
    let t = count_text version h.taken in
    let here = drop at bytes in
    let five = parted here (c ++ a ++ s ++ i ++ e) t rest stands in
    let four = parted here (c ++ a ++ s ++ i) e (t ++ rest) five in
    let three = parted here (c ++ a ++ s) i (e ++ (t ++ rest)) four in
    let two = parted here (c ++ a) s (i ++ (e ++ (t ++ rest))) three in
    let one : here ≡ c ++ (a ++ (s ++ (i ++ (e ++ (t ++ rest))))) = parted here c a (s ++ (i ++ (e ++ (t ++ rest)))) two in
    let code : slice_index bytes at ≡ code_of_end h.end = byte_again bytes at (code_of_end h.end) (a ++ (s ++ (i ++ (e ++ (t ++ rest))))) one in
    let address = number_again bytes (at + 1) (address_of_end h.end) (s ++ (i ++ (e ++ (t ++ rest)))) fits (behind bytes at 1 c (a ++ (s ++ (i ++ (e ++ (t ++ rest))))) one refl) in
    let steps = number_again bytes (at + 5) h.steps (i ++ (e ++ (t ++ rest))) (omega (arith, w.steps, small.steps)) (behind bytes at 5 (c ++ a) (s ++ (i ++ (e ++ (t ++ rest)))) two refl) in
    let instr = number_again bytes (at + 9) h.instr (e ++ (t ++ rest)) (omega (arith, w.instr, small.instr)) (behind bytes at 9 (c ++ a ++ s) (i ++ (e ++ (t ++ rest))) three refl) in
    let entries = number_again bytes (at + 13) h.entries (t ++ rest) (omega (arith, w.entries, small.entries)) (behind bytes at 13 (c ++ a ++ s ++ i) (e ++ (t ++ rest)) four refl) in
    let taken = count_again version bytes at h.taken rest w.counted (omega (arith, w.taken)) (behind bytes at 17 (c ++ a ++ s ++ i ++ e) (t ++ rest) five refl) in
    let counts : counts_at version bytes at ≡ record h { end = Halted } = λ j. record { end = Halted; steps = steps j; instr = instr j; entries = entries j; taken = taken j } in
    ap (λ (k : ℕ). header_of version head at k (number_at bytes (at + 1)) (counts_at version bytes at)) code ∙
    ap (λ (k : ℕ). header_of version head at (code_of_end h.end) k (counts_at version bytes at)) address ∙
    ap (header_of version head at (code_of_end h.end) (address_of_end h.end)) counts ∙ header_again version head at h w
