-- Rows that were read, each with those before it, and the bytes that they stand in.
use Rattle.std.proofs.Common.{◌≡◌, ℕ, zero, suc, ◌+◌, ◌<◌, List, [], ◌∷◌, ◌++◌, length, take, drop, get_or, Result, Ok, Err, refl, sym, ap, subst, ◌∙◌, append_assoc, length-append, arith}
use Rattle.std.specs.List.{flat_map}
use Rattle.std.proofs.lemmas.List.{append-nil, drop_at, drop-drop}
use Rattle.machine.specs.Reading.{◌>>=◌}
use Rattle.log_file.specs.Rows.{rows_after}

-- what holds of each row and those before it
abbrev pub AllAfter : {A : Type 0} → (List A → A → Type 0) → List A → List A → Type 0
AllAfter P before [] = Prim.Unit {0}
AllAfter P before (x ∷ xs) = P before x × AllAfter P (before ++ x ∷ []) xs

pub ok_then : {A B E : Type 0} (r : Result A E) (f : A → Result B E) (y : B) → (r >>= f) ≡ Ok y → (x : A) × (r ≡ Ok x) × (f x ≡ Ok y)
ok_then (Ok x) f y e = (x, refl, e)
ok_then (Err d) f y e = absurd cc

module _ {A : Type 0} where
  push_front : (before : List A) (x : A) (xs : List A) → (before ++ x ∷ []) ++ xs ≡ before ++ (x ∷ xs)
  push_front before x xs = append_assoc before (x ∷ []) xs

  pub AllAfter-map : (P Q : List A → A → Type 0) → ((before : List A) (x : A) → P before x → Q before x) → (before xs : List A) → AllAfter P before xs → AllAfter Q before xs
  AllAfter-map P Q f before [] all = tt
  AllAfter-map P Q f before (x ∷ xs) all = (f before x all.0, AllAfter-map P Q f (before ++ x ∷ []) xs all.1)

  pub AllAfter-both : (P Q : List A → A → Type 0) (before xs : List A) → AllAfter P before xs → AllAfter Q before xs → AllAfter (λ b x. P b x × Q b x) before xs
  AllAfter-both P Q before [] all others = tt
  AllAfter-both P Q before (x ∷ xs) all others = ((all.0, others.0), AllAfter-both P Q (before ++ x ∷ []) xs all.1 others.1)

  -- at each place, and from each place
  pub AllAfter-at : (P : List A → A → Type 0) (before xs : List A) → AllAfter P before xs → (i : ℕ) (d : A) → i < length xs → P (before ++ take i xs) (get_or xs i d)
  AllAfter-at P before [] all i d lt = absurd (omega (arith, lt))
  AllAfter-at P before (x ∷ xs) all zero d lt = subst (λ (b : List A). P b x) (sym (append-nil before)) all.0
  AllAfter-at P before (x ∷ xs) all (suc i) d lt =
      subst (λ (b : List A). P b (get_or xs i d)) (push_front before x (take i xs)) (AllAfter-at P (before ++ x ∷ []) xs all.1 i d (omega arith))

  pub AllAfter-from : (P : List A → A → Type 0) (before xs : List A) → ((i : ℕ) (d : A) → i < length xs → P (before ++ take i xs) (get_or xs i d)) → AllAfter P before xs
  AllAfter-from P before [] each = tt
  AllAfter-from P before (x ∷ xs) each =
      let first : P before x = subst (λ (b : List A). P b x) (append-nil before) (each 0 x (omega arith)) in
      (first, AllAfter-from P (before ++ x ∷ []) xs (λ i d lt. subst (λ (b : List A). P b (get_or xs i d)) (sym (push_front before x (take i xs))) (each (suc i) d (omega arith))))

  -- there are fewer rows before each than in all
  pub AllAfter-counted : (P : List A → A → Type 0) (n : ℕ) (before xs : List A) → length before + length xs ≡ n → AllAfter P before xs → AllAfter (λ b x. P b x × (length b < n)) before xs
  AllAfter-counted P n before [] count all = tt
  AllAfter-counted P n before (x ∷ xs) count all =
      ((all.0, omega (arith, count)), AllAfter-counted P n (before ++ x ∷ []) xs (omega (arith, count, length-append before (x ∷ []))) all.1)

  module _ {E : Type 0} (read : List A → Result A E) where
    -- rows that were read
    pub rows_take : (n : ℕ) (before all : List A) → rows_after read before n ≡ Ok all → (new : List A) × (all ≡ before ++ new) × (length new ≡ n) × AllAfter (λ b x. read b ≡ Ok x) before new
    unfolding rows_after
    rows_take zero before all e = ([], (let same : before ≡ all = cc e in sym same ∙ sym (append-nil before)), refl, tt)
    rows_take (suc n) before all e =
        let (row, is, rest) = ok_then (read before) (λ row. rows_after read (before ++ row ∷ []) n) all e in
        let (new, parts, count, each) = rows_take n (before ++ row ∷ []) all rest in
        (row ∷ new, parts ∙ push_front before row new, ap suc count, (is, each))

    -- and rows that are read again
    pub rows_again : (before new : List A) → AllAfter (λ b x. read b ≡ Ok x) before new → rows_after read before (length new) ≡ Ok (before ++ new)
    unfolding rows_after
    rows_again before [] all = ap Ok (sym (append-nil before))
    rows_again before (x ∷ new) all =
        ap (λ (r : Result A E). r >>= λ row. rows_after read (before ++ row ∷ []) (length new)) all.0 ∙ rows_again (before ++ x ∷ []) new all.1 ∙ ap Ok (push_front before x new)

  module _ (text : A → List ℕ) (bytes : List ℕ) (place : List A → ℕ) where
    -- a row that stands at its place, and those behind it at theirs
    abbrev pub StandsAt : List A → A → Type 0
    StandsAt before x = drop (place before) bytes ≡ text x ++ drop (place (before ++ x ∷ [])) bytes

    pub rows_stand : (before xs : List A) → AllAfter StandsAt before xs → drop (place before) bytes ≡ flat_map text xs ++ drop (place (before ++ xs)) bytes
    rows_stand before [] all = ap (λ (b : List A). drop (place b) bytes) (sym (append-nil before))
    rows_stand before (x ∷ xs) all =
        all.0 ∙ ap (λ (rest : List ℕ). text x ++ rest) (rows_stand (before ++ x ∷ []) xs all.1 ∙ ap (λ (b : List A). flat_map text xs ++ drop (place b) bytes) (push_front before x xs)) ∙
        sym (append_assoc (text x) (flat_map text xs) (drop (place (before ++ (x ∷ xs))) bytes))

    pub rows_stood : ((before : List A) (x : A) → place (before ++ x ∷ []) ≡ place before + length (text x)) → (before xs : List A) (rest : List ℕ) →
        drop (place before) bytes ≡ flat_map text xs ++ rest → AllAfter StandsAt before xs × (drop (place (before ++ xs)) bytes ≡ rest)
    rows_stood next before [] rest e = (tt, ap (λ (b : List A). drop (place b) bytes) (append-nil before) ∙ e)
    rows_stood next before (x ∷ xs) rest e =
        let whole : drop (place before) bytes ≡ text x ++ (flat_map text xs ++ rest) = e ∙ append_assoc (text x) (flat_map text xs) rest in
        let behind : drop (place (before ++ x ∷ [])) bytes ≡ flat_map text xs ++ rest =
        ap (λ (k : ℕ). drop k bytes) (next before x) ∙ sym (drop-drop (length (text x)) (place before) bytes) ∙ ap (drop (length (text x))) whole ∙ drop_at (text x) (flat_map text xs ++ rest) (length (text x)) refl in
        let others = rows_stood next (before ++ x ∷ []) xs rest behind in
        ((whole ∙ ap (λ (r : List ℕ). text x ++ r) (sym behind), others.0), ap (λ (b : List A). drop (place b) bytes) (sym (push_front before x xs)) ∙ others.1)
