-- Rows that are read one after the other, as a loop does.
use Rattle.std.proofs.Common.{◌≡◌, ℕ, suc, ◌+◌, ◌-◌, ◌<◌, ◌≤◌, List, [], ◌∷◌, ◌++◌, Result, Ok, Err, refl, sym, ap, ◌∙◌, arith}
use Rattle.machine.specs.Reading.{◌>>=◌}
use Rattle.log_file.specs.Rows.{rows_after}

module _ {A E : Type 0} (read : List A → Result A E) (before : List A) where
  row_more : (n : ℕ) (row : A) → read before ≡ Ok row → rows_after read before (suc n) ≡ rows_after read (before ++ row ∷ []) n
  unfolding rows_after
  row_more n row e = ap (λ (r : Result A E). r >>= λ row. rows_after read (before ++ row ∷ []) n) e

  row_fault : (n : ℕ) (e : E) → read before ≡ Err e → rows_after read before (suc n) ≡ Err e
  unfolding rows_after
  row_fault n f e = ap (λ (r : Result A E). r >>= λ row. rows_after read (before ++ row ∷ []) n) e

  rows_none : (n : ℕ) → n ≡ 0 → rows_after read before n ≡ Ok before
  unfolding rows_after
  rows_none n e = rw e refl

  -- after one more row the rest is read as before
  pub rows_go_on : (n i : ℕ) (row : A) (total : Result (List A) E) → i < n → read before ≡ Ok row → rows_after read before (n - i) ≡ total →
      rows_after read (before ++ row ∷ []) (n - (i + 1)) ≡ total
  rows_go_on n i row total lt e so_far =
      let k : n - i ≡ suc (n - (i + 1)) = omega arith in
      sym (ap (rows_after read before) k ∙ row_more (n - (i + 1)) row e) ∙ so_far

  -- a fault ends it
  pub rows_stop : (n i : ℕ) (f : E) (total : Result (List A) E) → i < n → read before ≡ Err f → rows_after read before (n - i) ≡ total → total ≡ Err f
  rows_stop n i f total lt e so_far =
      let k : n - i ≡ suc (n - (i + 1)) = omega arith in
      sym so_far ∙ ap (rows_after read before) k ∙ row_fault (n - (i + 1)) f e

  -- and so does the last row
  pub rows_end : (n i : ℕ) (total : Result (List A) E) → n ≤ i → rows_after read before (n - i) ≡ total → total ≡ Ok before
  rows_end n i total le so_far = sym so_far ∙ rows_none (n - i) (omega arith)
