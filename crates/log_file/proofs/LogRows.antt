-- Headers and last tags, row after row: what is read stands there, and what stands there is read.
use Rattle.std.proofs.Common.{◌≡◌, ℕ, ◌+◌, ◌*◌, ◌^◌, ◌<◌, ◌≤◌, List, [], ◌∷◌, ◌++◌, length, drop, Option, Ok, refl, sym, ap, subst, ◌∙◌, arith, length-append}
use Rattle.std.specs.Option.{ok_or}
use Rattle.std.specs.List.{flat_map}
use Rattle.std.specs.Int.{w32, to_be_bytes}
use Rattle.std.proofs.Math.Nat.{mul-le-mul_left}
use Rattle.light_base.specs.declared.tag.Tag.{Tag}
use Rattle.light_base.specs.Tags.{bits_of}
use Rattle.light_base.specs.Numbers.{IsBytes}
use Rattle.log_file.specs.Versions.{Version, header_len}
use Rattle.log_file.specs.LogFaults.{fault}
use Rattle.log_file.specs.declared.log_fault.LogKind.TheVariants as kind
use Rattle.log_file.specs.Spelling.{tag_bytes, address_of_end}
use Rattle.log_file.specs.declared.version.Version.TheVariants.{One, Two}
use Rattle.log_file.specs.Rows.{rows}
use Rattle.log_file.specs.LogReading.{Head, Header, number_at, next_header, headers_in, tag_in, next_last, last_tags_in, last_tags_place}
use Rattle.log_file.proofs.RowLaws.{AllAfter, AllAfter-map, AllAfter-both, AllAfter-counted, rows_take, rows_again, StandsAt, rows_stand, rows_stood}
use Rattle.log_file.proofs.FieldLaws.{number_take, number_fits, number_again}
use Rattle.log_file.proofs.TagLaws.{IsTagIn, tag_take, tag_again, tag_fits}
use Rattle.log_file.proofs.EntryLaws.{found}
use Rattle.log_file.proofs.HeaderLaws.{IsWithin, HasSmallLimits, header_text, header_at-take, header_at-again}

-- ---- headers

module _ (version : Version) (head : Head) (bytes : List ℕ) where
  abbrev header_place : List Header → ℕ
  header_place before = 51 + header_len version * length before

  header_place-more : (before : List Header) (h : Header) → header_place (before ++ h ∷ []) ≡ header_place before + header_len version
  header_place-more before h = ap (λ (n : ℕ). 51 + header_len version * n) (length-append before (h ∷ [])) ∙ grown (header_len version) (length before)
    where
      grown : (len n : ℕ) → 51 + len * (n + 1) ≡ 51 + len * n + len
      grown len n = omega arith

  -- a header that keeps the limits and whose address fits
  abbrev pub IsSound : Header → Type 0
  IsSound h = IsWithin version head.words head.limits h × (address_of_end h.end < 2 ^ 32)

  header_within : (n k : ℕ) → k < n → 51 + header_len version * n ≤ length bytes → 51 + header_len version * k + header_len version ≤ length bytes
  header_within n k less there = let ge : k + 1 ≤ n = omega arith in let most : header_len version * (k + 1) ≤ header_len version * n = mul-le-mul_left (header_len version) ge in omega (arith, most, there)

  -- headers that were read keep the limits and stand behind the head
  pub headers_take : (headers : List Header) → IsBytes bytes → last_tags_place version head ≤ length bytes → headers_in version head bytes ≡ Ok headers →
      (length headers ≡ head.threads) × AllAfter (λ b h. IsSound h) [] headers × (drop 51 bytes ≡ flat_map (header_text version) headers ++ drop (last_tags_place version head) bytes)
  headers_take headers fits there e =
      let n = head.threads in
      let (new, parts, count, read) = rows_take (next_header version head bytes) n [] headers e in
      let counted = AllAfter-counted (λ b h. next_header version head bytes b ≡ Ok h) n [] new (omega (arith, count)) read in
      let each : (b : List Header) (h : Header) → (next_header version head bytes b ≡ Ok h) × (length b < n) → IsSound h × StandsAt (header_text version) bytes header_place b h =
      λ b h r.
      let one = header_at-take version head bytes (header_place b) h fits (header_within n (length b) r.1 there) r.0 in
      ((one.0, one.2), one.1 ∙ ap (λ (k : ℕ). header_text version h ++ drop k bytes) (sym (header_place-more b h))) in
      let sound = AllAfter-map _ (λ b h. IsSound h) (λ b h r. (each b h r).0) [] new counted in
      let stand = rows_stand (header_text version) bytes header_place [] new (AllAfter-map _ (StandsAt (header_text version) bytes header_place) (λ b h r. (each b h r).1) [] new counted) in
      let start : 51 ≡ header_place [] = omega arith in
      let end : header_place new ≡ last_tags_place version head = ap (λ (k : ℕ). 51 + header_len version * k) count in
      let stands : drop 51 bytes ≡ flat_map (header_text version) new ++ drop (last_tags_place version head) bytes =
      ap (λ (k : ℕ). drop k bytes) start ∙ stand ∙ ap (λ (k : ℕ). flat_map (header_text version) new ++ drop k bytes) end in
      let P : List Header → Type 0 = λ hs. (length hs ≡ n) × AllAfter (λ b h. IsSound h) [] hs × (drop 51 bytes ≡ flat_map (header_text version) hs ++ drop (last_tags_place version head) bytes) in
      subst P (sym parts) (count, sound, stands)

  header_text-length : (h : Header) → length (header_text version h) ≡ header_len version
  header_text-length h = sized version
    where
      sized : (version : Version) → length (header_text version h) ≡ header_len version
      sized One = refl
      sized Two = refl

  -- headers that keep them and stand there are read
  pub headers_again : (headers : List Header) (rest : List ℕ) → length headers ≡ head.threads → HasSmallLimits head.limits → AllAfter (λ b h. IsSound h) [] headers →
      drop 51 bytes ≡ flat_map (header_text version) headers ++ rest → (headers_in version head bytes ≡ Ok headers) × (drop (last_tags_place version head) bytes ≡ rest)
  headers_again headers rest count small sound stands =
      let start : 51 ≡ header_place [] = omega arith in
      let next : (b : List Header) (h : Header) → header_place (b ++ h ∷ []) ≡ header_place b + length (header_text version h) = λ b h. header_place-more b h ∙ ap (λ (k : ℕ). header_place b + k) (sym (header_text-length h)) in
      let stood = rows_stood (header_text version) bytes header_place next [] headers rest (ap (λ (k : ℕ). drop k bytes) (sym start) ∙ stands) in
      let both = AllAfter-both (λ b h. IsSound h) (StandsAt (header_text version) bytes header_place) [] headers sound stood.0 in
      let read = rows_again (next_header version head bytes) [] headers
      (AllAfter-map _ (λ b h. next_header version head bytes b ≡ Ok h)
      (λ b h r. header_at-again version head bytes (header_place b) h (drop (header_place (b ++ h ∷ [])) bytes) r.0.0 small r.0.1 r.1) [] headers both) in
      (ap (rows (next_header version head bytes)) (sym count) ∙ read, ap (λ (k : ℕ). drop k bytes) (ap (λ (k : ℕ). 51 + header_len version * k) (sym count)) ∙ stood.1)

-- ---- last tags

module _ (steps : List ℕ) (bytes : List ℕ) (at : ℕ) where
  abbrev last_place : List Tag → ℕ
  last_place before = at + 4 * length before

  last_place-more : (before : List Tag) (t : Tag) → last_place (before ++ t ∷ []) ≡ last_place before + 4
  last_place-more before t = omega (arith, length-append before (t ∷ []))

  pub last_tags_take : (n : ℕ) (last_tags : List Tag) → IsBytes bytes → at + 4 * n ≤ length bytes → last_tags_in steps bytes at n ≡ Ok last_tags →
      (length last_tags ≡ n) × AllAfter (λ b t. IsTagIn steps t) [] last_tags × (drop at bytes ≡ flat_map tag_bytes last_tags ++ drop (at + 4 * n) bytes)
  last_tags_take n last_tags fits there e =
      let (new, parts, count, read) = rows_take (next_last steps bytes at) n [] last_tags e in
      let counted = AllAfter-counted (λ b t. next_last steps bytes at b ≡ Ok t) n [] new (omega (arith, count)) read in
      let each : (b : List Tag) (t : Tag) → (next_last steps bytes at b ≡ Ok t) × (length b < n) → IsTagIn steps t × StandsAt tag_bytes bytes last_place b t =
      λ b t r.
      let one = tag_take steps (number_at bytes (last_place b)) t (number_fits bytes fits (last_place b)) (found (tag_in steps (number_at bytes (last_place b))) (fault kind.Source (last_place b)) t r.0) in (
        one.1,
        number_take bytes fits (last_place b) (last_place b + 4) refl (omega (arith, r.1)) ∙ ap (λ (k : ℕ). to_be_bytes w32 k ++ drop (last_place b + 4) bytes) (sym one.0) ∙
            ap (λ (k : ℕ). tag_bytes t ++ drop k bytes) (sym (last_place-more b t)),
      ) in
      let tags = AllAfter-map _ (λ b t. IsTagIn steps t) (λ b t r. (each b t r).0) [] new counted in
      let stand = rows_stand tag_bytes bytes last_place [] new (AllAfter-map _ (StandsAt tag_bytes bytes last_place) (λ b t r. (each b t r).1) [] new counted) in
      let start : at ≡ last_place [] = omega arith in
      let end : last_place new ≡ at + 4 * n = omega (arith, count) in
      let stands : drop at bytes ≡ flat_map tag_bytes new ++ drop (at + 4 * n) bytes = ap (λ (k : ℕ). drop k bytes) start ∙ stand ∙ ap (λ (k : ℕ). flat_map tag_bytes new ++ drop k bytes) end in
      let P : List Tag → Type 0 = λ ts. (length ts ≡ n) × AllAfter (λ b t. IsTagIn steps t) [] ts × (drop at bytes ≡ flat_map tag_bytes ts ++ drop (at + 4 * n) bytes) in
      subst P (sym parts) (count, tags, stands)

  pub last_tags_again : (last_tags : List Tag) (rest : List ℕ) → AllAfter (λ b t. IsTagIn steps t) [] last_tags → drop at bytes ≡ flat_map tag_bytes last_tags ++ rest →
      (last_tags_in steps bytes at (length last_tags) ≡ Ok last_tags) × (drop (at + 4 * length last_tags) bytes ≡ rest)
  last_tags_again last_tags rest tags stands =
      let start : at ≡ last_place [] = omega arith in
      let stood = rows_stood tag_bytes bytes last_place last_place-more [] last_tags rest (ap (λ (k : ℕ). drop k bytes) (sym start) ∙ stands) in
      let both = AllAfter-both (λ b t. IsTagIn steps t) (StandsAt tag_bytes bytes last_place) [] last_tags tags stood.0 in
      let one : (b : List Tag) (t : Tag) → IsTagIn steps t × StandsAt tag_bytes bytes last_place b t → next_last steps bytes at b ≡ Ok t =
      λ b t r.
      let number = number_again bytes (last_place b) (bits_of t) (drop (last_place (b ++ t ∷ [])) bytes) (tag_fits steps t r.0) r.1 in
      ap (λ (k : ℕ). ok_or (tag_in steps k) (fault kind.Source (last_place b))) number ∙ ap (λ (o : Option Tag). ok_or o (fault kind.Source (last_place b))) (tag_again steps t r.0) in
      (rows_again (next_last steps bytes at) [] last_tags (AllAfter-map _ (λ b t. next_last steps bytes at b ≡ Ok t) one [] last_tags both), stood.1)
