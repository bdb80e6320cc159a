-- Rows of numbers: filled, and then ordered.
use Rattle.std.proofs.Common.{◌≡◌, ℕ, ◌+◌, ◌<◌, ◌≤◌, eqb, nat_cmp, List, [], ◌∷◌, ◌++◌, length, set, map, refl, sym, ◌∙◌, ap, subst, arith, inl, inr, ◌⊎◌, append_assoc, append-nil}
use Rattle.std.specs.Prelude.{◌≢◌, Contains, filter, replicate}
use Rattle.std.specs.List.{dedup}
use Rattle.std.specs.List.Sorted.{IsSorted, IsPermutation}
use Rattle.std.proofs.lemmas.Cmp.{nat_cmp_total}
use Rattle.std.proofs.lemmas.Bool.{cases_eq, eq-eqb, ne_eqb, eqb-true}
use Rattle.std.proofs.lemmas.List.{length-set, get_or-set_same, get_or-set_other, get_or-replicate, length-replicate, map-append}
use Rattle.std.proofs.lemmas.List.Elements.{filter-append}
use Rattle.std.proofs.lemmas.List.Sorted.{Contains-permutation, IsPermutation-sym}
use Rattle.std.proofs.lemmas.List.Kept.{Contains-dedup_nat, Contains-from_dedup}
use Rattle.constraints.proofs.Members.{of_map, in_map, of_filter, in_filter}
use Rattle.constraints.proofs.Strict.{deduped, nat_ties, nat-less}
use Rattle.audit.specs.declared.rows.Mark.{Mark}
use Rattle.audit.specs.Rows.{numbers_of, row_at, IsOrdered, AreFilled, AreOrdered, AreRows}

-- sorted, and each kept once
pub ordered-by : (xs ys : List ℕ) → IsPermutation xs ys → IsSorted nat_cmp ys → IsOrdered xs (dedup eqb ys)
ordered-by xs ys perm sorted = record {
  rising = λ i j d l m. nat-less _ _ (deduped nat_cmp_total nat_ties ys sorted i j d l m);
  same = λ n. (
    λ c. Contains-permutation ys xs n (IsPermutation-sym xs ys perm) (Contains-from_dedup eqb ys n c),
    λ c. Contains-dedup_nat ys n (Contains-permutation xs ys n perm c),
  );
}

-- ---- filling

numbers-push : (marks : List Mark) (mark : Mark) (row : ℕ) → numbers_of (marks ++ mark ∷ []) row ≡ numbers_of marks row ++ numbers_of (mark ∷ []) row
numbers-push marks mark row =
    ap (map (λ (m : Mark). m.number)) (filter-append (λ (m : Mark). eqb m.row row) marks (mark ∷ [])) ∙
    map-append (λ (m : Mark). m.number) (filter (λ (m : Mark). eqb m.row row) marks) (filter (λ (m : Mark). eqb m.row row) (mark ∷ []))

one-here : (mark : Mark) (row : ℕ) → mark.row ≡ row → numbers_of (mark ∷ []) row ≡ mark.number ∷ []
one-here mark row e = rw (eq-eqb mark.row row e) refl

one-there : (mark : Mark) (row : ℕ) → mark.row ≢ row → numbers_of (mark ∷ []) row ≡ []
one-there mark row n = rw (ne_eqb mark.row row n) refl

pub filled-none : (rows : List (List ℕ)) → AreFilled rows [] rows
filled-none rows = record { counted = refl; each = λ row l. sym (append-nil (row_at rows row)) }

pub filled-more : (old : List (List ℕ)) (marks : List Mark) (mark : Mark) (now new : List (List ℕ)) → AreFilled old marks now → mark.row < length old →
    new ≡ set now mark.row (row_at now mark.row ++ mark.number ∷ []) → AreFilled old (marks ++ mark ∷ []) new
filled-more old marks mark now new is l e = record {
  counted = ap length e ∙ length-set now mark.row (row_at now mark.row ++ mark.number ∷ []) ∙ is.counted;
  each = λ row m. ap (λ (rows : List (List ℕ)). row_at rows row) e ∙ go row m (cases_eq row mark.row) ∙ ap (λ (xs : List ℕ). row_at old row ++ xs) (sym (numbers-push marks mark row));
}
  where
    here : row_at (set now mark.row (row_at now mark.row ++ mark.number ∷ [])) mark.row ≡ row_at old mark.row ++ (numbers_of marks mark.row ++ numbers_of (mark ∷ []) mark.row)
    here =
        get_or-set_same now mark.row (row_at now mark.row ++ mark.number ∷ []) [] (let n = is.counted in omega (arith, n, l)) ∙ ap (λ (xs : List ℕ). xs ++ mark.number ∷ []) (is.each mark.row l) ∙
        append_assoc (row_at old mark.row) (numbers_of marks mark.row) (mark.number ∷ []) ∙
        ap (λ (xs : List ℕ). row_at old mark.row ++ (numbers_of marks mark.row ++ xs)) (sym (one-here mark mark.row refl))

    go : (row : ℕ) → row < length old → (row ≡ mark.row) ⊎ (row ≡ mark.row → ⊥) →
        row_at (set now mark.row (row_at now mark.row ++ mark.number ∷ [])) row ≡ row_at old row ++ (numbers_of marks row ++ numbers_of (mark ∷ []) row)
    go row m (inl q) =
        let P : ℕ → Type 0 = λ r. row_at (set now mark.row (row_at now mark.row ++ mark.number ∷ [])) r ≡ row_at old r ++ (numbers_of marks r ++ numbers_of (mark ∷ []) r) in
        subst P (sym q) here
    go row m (inr n) =
        get_or-set_other now mark.row row (row_at now mark.row ++ mark.number ∷ []) [] n ∙ is.each row m ∙
        ap (λ (xs : List ℕ). row_at old row ++ xs) (sym (append-nil (numbers_of marks row)) ∙ ap (λ (xs : List ℕ). numbers_of marks row ++ xs) (sym (one-there mark row (λ e. n (sym e)))))

-- ---- ordering

pub record OrderedUpTo (old : List (List ℕ)) (k : ℕ) (now : List (List ℕ)) : Type 0 where
  pub counted : length now ≡ length old
  pub done : (row : ℕ) → row < k → IsOrdered (row_at old row) (row_at now row)
  pub left : (row : ℕ) → k ≤ row → row_at now row ≡ row_at old row

pub ordered-none : (old : List (List ℕ)) → OrderedUpTo old 0 old
ordered-none old = record { counted = refl; done = λ row l. absurd (omega (arith, l)); left = λ row l. refl }

pub ordered-more : (old now new : List (List ℕ)) (k : ℕ) (x : List ℕ) → OrderedUpTo old k now → k < length now → new ≡ set now k x → IsOrdered (row_at now k) x → OrderedUpTo old (k + 1) new
ordered-more old now new k x is l e ordered = record {
  counted = ap length e ∙ length-set now k x ∙ is.counted;
  done = λ row m. subst (λ (rows : List (List ℕ)). IsOrdered (row_at old row) (row_at rows row)) (sym e) (go row m (cases_eq row k));
  left = λ row m. ap (λ (rows : List (List ℕ)). row_at rows row) e ∙ get_or-set_other now k row x [] (λ q. absurd (omega (arith, m, q))) ∙ is.left row (omega (arith, m));
}
  where
    here : IsOrdered (row_at old k) (row_at (set now k x) k)
    here =
        let P : List ℕ → Type 0 = λ xs. IsOrdered (row_at old k) xs in
        let Q : List ℕ → Type 0 = λ xs. IsOrdered xs x in
        subst P (sym (get_or-set_same now k x [] l)) (subst Q (is.left k (omega arith)) ordered)

    go : (row : ℕ) → row < k + 1 → (row ≡ k) ⊎ (row ≡ k → ⊥) → IsOrdered (row_at old row) (row_at (set now k x) row)
    go row m (inl q) = let P : ℕ → Type 0 = λ r. IsOrdered (row_at old r) (row_at (set now k x) r) in subst P (sym q) here
    go row m (inr n) =
        let P : List ℕ → Type 0 = λ xs. IsOrdered (row_at old row) xs in
        subst P (sym (get_or-set_other now k row x [] n)) (is.done row (omega (arith, m, n)))

pub ordered-all : (old now : List (List ℕ)) (k : ℕ) → OrderedUpTo old k now → length old ≤ k → AreOrdered old now
ordered-all old now k is l = record { counted = is.counted; each = λ row m. is.done row (omega (arith, l, m)) }

-- ---- both

pub rows-are : (count : ℕ) (marks : List Mark) (empty filled rows : List (List ℕ)) → empty ≡ replicate count [] → AreFilled empty marks filled → AreOrdered filled rows → AreRows count marks rows
rows-are count marks empty filled rows e fills orders = record {
  counted = orders.counted ∙ many;
  rising = λ row l. (ordered row l).rising;
  holds = λ row n l. (
    λ c. there row n (subst (λ (xs : List ℕ). Contains xs n) (at row l) (((ordered row l).same n).0 c)),
    λ c. ((ordered row l).same n).1 (subst (λ (xs : List ℕ). Contains xs n) (sym (at row l)) (back row n c)),
  );
}
  where
    many : length filled ≡ count
    many = fills.counted ∙ ap length e ∙ length-replicate {A = List ℕ} count []

    ordered : (row : ℕ) → row < count → IsOrdered (row_at filled row) (row_at rows row)
    ordered row l = orders.each row (let m = many in omega (arith, m, l))

    at : (row : ℕ) → row < count → row_at filled row ≡ numbers_of marks row
    at row l =
        fills.each row (let m = many in let n = fills.counted in omega (arith, m, n, l)) ∙
        ap (λ (rs : List (List ℕ)). row_at rs row ++ numbers_of marks row) e ∙ ap (λ (xs : List ℕ). xs ++ numbers_of marks row) (get_or-replicate count row [] [] l)

    there : (row n : ℕ) → Contains (numbers_of marks row) n → Contains marks (record { row = row; number = n })
    there row n c =
        let (m, d, q) = of_map (λ (m : Mark). m.number) (filter (λ (m : Mark). eqb m.row row) marks) n c in
        let (k, t) = of_filter (λ (m : Mark). eqb m.row row) marks m d in
        let r : m.row ≡ row = eqb-true m.row row t in
        let same : m ≡ record { row = row; number = n } = λ i. record { row = r i; number = q i } in
        subst (λ (x : Mark). Contains marks x) same k

    back : (row n : ℕ) → Contains marks (record { row = row; number = n }) → Contains (numbers_of marks row) n
    back row n c = in_map (λ (m : Mark). m.number) (filter (λ (m : Mark). eqb m.row row) marks) (record { row = row; number = n })
        (in_filter (λ (m : Mark). eqb m.row row) marks (record { row = row; number = n }) c (eq-eqb row row refl))
