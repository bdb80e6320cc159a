-- The verdicts of the parts are those of all jobs.
use Rattle.std.proofs.Common.{◌≡◌, ℕ, ◌+◌, ◌*◌, ◌/◌, ◌<◌, ◌≤◌, List, [], ◌∷◌, ◌++◌, length, take, drop, ◌-◌, suc, refl, sym, ◌∙◌, ap, subst, arith, append_assoc, add-one, get_or, below_more}
use Rattle.std.specs.Prelude.{Result, Ok, Err, IfOk, IsOk, slice_index_or}
use Rattle.std.specs.List.{All, AllZip, flat_map, slice_range}
use Rattle.std.specs.Global.{Vec}
use Rattle.std.proofs.Math.Nat.{mul-div_cancel_left, div-mul-le_self, div-le_of_le-mul, mul-le-mul_right}
use Rattle.std.proofs.lemmas.Nat.{le-div}
use Rattle.std.proofs.lemmas.List.{drop_all, get_or_default}
use Rattle.std.proofs.Math.Seq.{drop-cons}
use Rattle.std.proofs.lemmas.List.Edits.{between_more}
use Rattle.std.proofs.lemmas.List.Folds.{drop_split}
use Rattle.light_base.specs.declared.memory.Memory.{Memory}
use Rattle.batch.specs.Jobs.{JobValue}
use Rattle.batch.specs.Verdicts.{IsVerdict}
use Rattle.batch.specs.Parts.{AreVerdicts, IsPartJudged, part_start, part_of, verdicts_in}
use Rattle.batch.specs.declared.verdict.Verdict.{Verdict}

pub zip-append : {A B : Type 0} (R : A → B → Type 0) (xs xs' : List A) (ys ys' : List B) → AllZip R xs ys → AllZip R xs' ys' → AllZip R (xs ++ xs') (ys ++ ys')
zip-append R [] xs' [] ys' one two = two
zip-append R [] xs' (y ∷ ys) ys' one two = absurd one
zip-append R (x ∷ xs) xs' [] ys' one two = absurd one
zip-append R (x ∷ xs) xs' (y ∷ ys) ys' one two = (one.0, zip-append R xs xs' ys ys' one.1 two)

-- one more part that is there was done
module _ (parts : List (Result (Vec Verdict) Memory)) (k : ℕ) (part : Result (Vec Verdict) Memory) (v : Vec Verdict) (within : k < length parts) (at : part ≡ get_or parts k part) (is : part ≡ Ok v) where
  pub done_more : ((i : ℕ) (d : Result (Vec Verdict) Memory) → i < k → IsOk (slice_index_or parts i d)) → (i : ℕ) (d : Result (Vec Verdict) Memory) → i < k + 1 → IsOk (slice_index_or parts i d)
  done_more done i d low =
      below_more (λ (n : ℕ). IsOk (slice_index_or parts n d)) k (λ n less. done n d less)
      (subst (λ (r : Result (Vec Verdict) Memory). IsOk r) (sym is ∙ (at ∙ get_or_default parts k part d within)) refl) i low

  rest_is : drop k parts ≡ Ok v ∷ drop (k + 1) parts
  rest_is = rw add-one (drop-cons parts k part within ∙ ap (λ (r : Result (Vec Verdict) Memory). r ∷ drop (suc k) parts) (sym at ∙ is))

  pub one_more : (all new : List Verdict) → flat_map verdicts_in parts ≡ all ++ flat_map verdicts_in (drop k parts) → (more : List Verdict) → more ≡ v.items → new ≡ all ++ more →
      flat_map verdicts_in parts ≡ new ++ flat_map verdicts_in (drop (k + 1) parts)
  one_more all new order more same gives =
      let rest = flat_map verdicts_in (drop (k + 1) parts) in
      order ∙ (ap (λ (ps : List (Result (Vec Verdict) Memory)). all ++ flat_map verdicts_in ps) rest_is
      ∙ (sym (append_assoc all v.items rest) ∙ ap (λ (front : List Verdict). front ++ rest) (ap (λ (w : List Verdict). all ++ w) (sym same) ∙ sym gives)))

-- one more job of a part has its verdict
pub judged_more : (budget : ℕ) (jobs : List JobValue) (from i : ℕ) (job : JobValue) (vs new : List Verdict) (v : Verdict) → from ≤ i → i < length jobs → job ≡ get_or jobs i job →
    AreVerdicts budget (slice_range jobs from i) vs → IsVerdict budget job v → new ≡ vs ++ v ∷ [] → AreVerdicts budget (slice_range jobs from (i + 1)) new
judged_more budget jobs from i job vs new v low within at before is gives =
    let more : slice_range jobs from (i + 1) ≡ slice_range jobs from i ++ job ∷ [] =
    between_more jobs from i job low within ∙ ap (λ (j : JobValue). slice_range jobs from i ++ j ∷ []) (sym at) in
    subst (λ (js : List JobValue). AreVerdicts budget js new) (sym more)
    (subst (λ (ws : List Verdict). AreVerdicts budget (slice_range jobs from i ++ job ∷ []) ws) (sym gives)
    (zip-append (IsVerdict budget) (slice_range jobs from i) (job ∷ []) vs (v ∷ []) before (is, tt)))

pub none_judged : (budget : ℕ) (jobs : List JobValue) (from : ℕ) → AreVerdicts budget (slice_range jobs from from) []
none_judged budget jobs from = subst (λ (n : ℕ). AreVerdicts budget (take n (drop from jobs)) []) (sym none) tt
  where
    none : from - from ≡ 0
    none = omega arith

pub start_rises : (jobs workers w : ℕ) → 0 < workers → part_start jobs workers w ≤ part_start jobs workers (w + 1)
start_rises jobs workers w some =
    le-div (w * jobs / workers) ((w + 1) * jobs) workers some (let h = div-mul-le_self (w * jobs) workers in let e : (w + 1) * jobs ≡ w * jobs + jobs = omega arith in omega (arith, h, e))

pub start_within : (jobs workers w : ℕ) → 0 < workers → w ≤ workers → part_start jobs workers w ≤ jobs
start_within jobs workers w some low = div-le_of_le-mul workers (mul-le-mul_right jobs low)

pub start_last : (jobs workers w : ℕ) → 0 < workers → w ≡ workers → part_start jobs workers w ≡ jobs
start_last jobs workers w some is = ap (λ (n : ℕ). n * jobs / workers) is ∙ mul-div_cancel_left jobs some

module _ (budget : ℕ) (jobs : List JobValue) (workers : ℕ) (some : 0 < workers) where
  -- the worker was done, with a verdict for each job of its part
  abbrev pub IsPartDone : ℕ → Result (Vec Verdict) Memory → Type 0
  IsPartDone w r = IfOk r (IsPartJudged budget jobs workers w)

  pub joined : (w : ℕ) (parts : List (Result (Vec Verdict) Memory)) → w + length parts ≡ workers → All IsOk parts →
      ((i : ℕ) (d : Result (Vec Verdict) Memory) → i < length parts → IsPartDone (w + i) (slice_index_or parts i d)) →
      AreVerdicts budget (drop (part_start (length jobs) workers w) jobs) (flat_map verdicts_in parts)
  joined w [] count done each =
      subst (λ (rest : List JobValue). AreVerdicts budget rest [])
      (sym (drop_all (part_start (length jobs) workers w) jobs (let e = start_last (length jobs) workers w some (omega arith) in omega (arith, e)))) tt
  joined w (Err e ∷ parts) count done each = let none : IsOk (slice_index_or (Err e ∷ parts) 0 (Err e)) = done 0 (Err e) (omega arith) in cc
  joined w (Ok v ∷ parts) count done each =
      subst (λ (rest : List JobValue). AreVerdicts budget rest (v.items ++ flat_map verdicts_in parts))
      (sym (drop_split jobs (part_start (length jobs) workers w) (part_start (length jobs) workers (w + 1)) (start_rises (length jobs) workers w some)))
      (zip-append (IsVerdict budget) (part_of jobs workers w) (drop (part_start (length jobs) workers (w + 1)) jobs) v.items (flat_map verdicts_in parts)
      (subst (λ (n : ℕ). AreVerdicts budget (part_of jobs workers n) v.items) (omega arith) (each 0 (Ok v) (omega arith)))
      (joined (w + 1) parts (omega arith) (λ k d within. done (suc k) d (omega arith))
      (λ i d within. subst (λ (n : ℕ). IsPartDone n (slice_index_or parts i d)) (omega arith) (each (suc i) d (omega arith)))))

  -- so the verdicts of all parts are those of all jobs
  pub all_joined : (parts : List (Result (Vec Verdict) Memory)) → length parts ≡ workers → All IsOk parts →
      ((i : ℕ) (d : Result (Vec Verdict) Memory) → i < workers → IsPartDone i (slice_index_or parts i d)) → AreVerdicts budget jobs (flat_map verdicts_in parts)
  all_joined parts count done each =
      let start : part_start (length jobs) workers 0 ≡ 0 = omega arith in
      subst (λ (n : ℕ). AreVerdicts budget (drop n jobs) (flat_map verdicts_in parts)) start
      (joined 0 parts (omega arith) done (λ i d within. subst (λ (n : ℕ). IsPartDone n (slice_index_or parts i d)) (omega arith) (each i d (omega arith))))

  -- what is joined of parts that were done are the verdicts of all jobs
  pub joined_ok : (parts lent : List (Result (Vec Verdict) Memory)) (r : Result (Vec Verdict) Memory) → lent ≡ parts → length parts ≡ workers → IfOk r (λ all. All IsOk lent) →
      IfOk r (λ all. all.items ≡ flat_map verdicts_in lent) →
      ((i : ℕ) (d : Result (Vec Verdict) Memory) → i < workers → IsPartDone i (slice_index_or parts i d)) → IfOk r (λ all. AreVerdicts budget jobs all.items)
  joined_ok parts lent (Err e) same count done order each = tt
  joined_ok parts lent (Ok all) same count done order each =
      subst (λ (vs : List Verdict). AreVerdicts budget jobs vs) (sym (order ∙ ap (flat_map verdicts_in) same))
      (all_joined parts count (subst (λ (ps : List (Result (Vec Verdict) Memory)). All IsOk ps) same done) each)
