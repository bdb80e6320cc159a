-- Numbers that rise from row to row.
use Rattle.std.proofs.Common.{◌≡◌, ◌≢◌, ℕ, zero, suc, ◌+◌, ◌-◌, ◌*◌, ◌<◌, ◌≤◌, List, length, get_or, set, refl, sym, ◌∙◌, ap, subst, arith, inl, inr, ◌⊎◌}
use Rattle.std.specs.Prelude.{max, min}
use Rattle.std.proofs.lemmas.Bool.{cases_lt}
use Rattle.std.proofs.lemmas.List.{get_or-set_same, get_or-set_other, length-set}
use Rattle.std.proofs.Math.Nat.{mul-le-mul, suc-mul, le-max_left, le-max_right, min-le_left, min-le_right}
use Rattle.races.specs.Bounds.{AreBlocks, NeverLess, RiseBy, AreTops, AreFloors}
use Rattle.races.proofs.Tabled.{row-below}

-- what stands at a place after one number was written
read-set : (xs : List ℕ) (at v k : ℕ) → at < length xs → (P : ℕ → Type 0) → (k ≡ at → P v) → (k ≢ at → P (get_or xs k 0)) → P (get_or (set xs at v) k 0)
read-set xs at v k l P same other = go (cases_lt k at) (cases_lt at k)
  where
    away : k ≢ at → P (get_or (set xs at v) k 0)
    away n = subst P (sym (get_or-set_other xs at k v 0 n)) (other n)

    go : (k < at) ⊎ (at ≤ k) → (at < k) ⊎ (k ≤ at) → P (get_or (set xs at v) k 0)
    go (inl m) q = away (λ e. absurd (omega (arith, m, e)))
    go (inr m) (inl n) = away (λ e. absurd (omega (arith, n, e)))
    go (inr m) (inr n) =
        let e : k ≡ at = omega (arith, m, n) in
        subst P (sym (ap (λ i. get_or (set xs at v) i 0) e ∙ get_or-set_same xs at v 0 l)) (same e)

-- numbers that were raised from one place up to another
pub record AreRaised (step from to : ℕ) (old new : List ℕ) : Type 0 where
  pub size : length new ≡ length old
  pub least : NeverLess new old
  pub rise : RiseBy step new from to
  pub before : (k : ℕ) → k < from → get_or new k 0 ≡ get_or old k 0

pub raised-none : (step from : ℕ) (old new : List ℕ) → new ≡ old → AreRaised step from from old new
raised-none step from old new e = subst (AreRaised step from from old) (sym e) record { size = refl; least = λ k. omega arith; rise = λ k l m. absurd (omega (arith, l, m)); before = λ k l. refl }

pub raised-more : (step from to v : ℕ) (old xs new : List ℕ) → 0 < step → step ≤ from → from ≤ to → to < length old → new ≡ set xs to v → v ≡ max (get_or xs to 0) (get_or xs (to - step) 0) →
    AreRaised step from to old xs → AreRaised step from (to + 1) old new
raised-more step from to v old xs new pos far order within e q r = subst (AreRaised step from (to + 1) old) (sym e) record {
  size = length-set xs to v ∙ r.size;
  least = λ k. read-set xs to v k there (λ n. get_or old k 0 ≤ n) (λ s. let a = r.least k in let b = ap (λ i. get_or xs i 0) s in let c = le-max_left (get_or xs to 0) (get_or xs (to - step) 0) in omega (arith, a, b, c, q)) (λ d. r.least k);
  rise = λ k l m. read-set xs to v k there (λ n. get_or (set xs to v) (k - step) 0 ≤ n)
      (λ s. let a = get_or-set_other xs to (k - step) v 0 (λ z. absurd (omega (arith, z, s, pos, far, order))) in let b = ap (λ i. get_or xs (i - step) 0) s in let c = le-max_right (get_or xs to 0) (get_or xs (to - step) 0) in omega (arith, a, b, c, q))
      (λ d. let a = get_or-set_other xs to (k - step) v 0 (λ z. absurd (omega (arith, z, m, pos, far, l))) in let b = r.rise k l (less k m d) in omega (arith, a, b));
  before = λ k l. get_or-set_other xs to k v 0 (λ z. absurd (omega (arith, z, l, order))) ∙ r.before k l;
}
  where
    there : to < length xs
    there = let s = r.size in omega (arith, s, within)

    less : (k : ℕ) → k < to + 1 → k ≢ to → k < to
    less k m d = go (cases_lt k to)
      where
        go : (k < to) ⊎ (to ≤ k) → k < to
        go (inl n) = n
        go (inr n) = absurd (d (omega (arith, m, n)))

-- numbers that were lowered from one place down to another
pub record AreLowered (step from to : ℕ) (old new : List ℕ) : Type 0 where
  pub size : length new ≡ length old
  pub most : NeverLess old new
  pub rise : RiseBy step new (from + step) (to + step)
  pub before : (k : ℕ) → k < from → get_or new k 0 ≡ get_or old k 0

pub lowered-none : (step from to : ℕ) (old new : List ℕ) → to ≤ from → new ≡ old → AreLowered step from to old new
lowered-none step from to old new o e = subst (AreLowered step from to old) (sym e) record { size = refl; most = λ k. omega arith; rise = λ k l m. absurd (omega (arith, l, m, o)); before = λ k l. refl }

pub lowered-more : (step at to v : ℕ) (old xs new : List ℕ) → 0 < step → at < to → to + step ≤ length old → new ≡ set xs at v → v ≡ min (get_or xs at 0) (get_or xs (at + step) 0) →
    AreLowered step (at + 1) to old xs → AreLowered step at to old new
lowered-more step at to v old xs new pos order within e q r = subst (AreLowered step at to old) (sym e) record {
  size = length-set xs at v ∙ r.size;
  most = λ k. read-set xs at v k there (λ n. n ≤ get_or old k 0) (λ s. let a = r.most k in let b = ap (λ i. get_or xs i 0) s in let c = min-le_left (get_or xs at 0) (get_or xs (at + step) 0) in omega (arith, a, b, c, q)) (λ d. r.most k);
  rise = λ k l m. read-set xs at v (k - step) there (λ n. n ≤ get_or (set xs at v) k 0)
      (λ s. let z : k ≡ at + step = omega (arith, s, l) in let a = get_or-set_other xs at k v 0 (λ y. absurd (omega (arith, y, z, pos))) in let b = ap (λ i. get_or xs i 0) z in let c = min-le_right (get_or xs at 0) (get_or xs (at + step) 0) in omega (arith, a, b, c, q))
      (λ d. let a = get_or-set_other xs at k v 0 (λ y. absurd (omega (arith, y, l, pos))) in let b = r.rise k (more k l d) m in omega (arith, a, b));
  before = λ k l. get_or-set_other xs at k v 0 (λ z. absurd (omega (arith, z, l))) ∙ r.before k (omega (arith, l));
}
  where
    there : at < length xs
    there = let s = r.size in omega (arith, s, within, order)

    more : (k : ℕ) → at + step ≤ k → k - step ≢ at → at + 1 + step ≤ k
    more k l d = go (cases_lt (at + step) k)
      where
        go : (at + step < k) ⊎ (k ≤ at + step) → at + 1 + step ≤ k
        go (inl n) = omega (arith, n)
        go (inr n) = absurd (d (omega (arith, l, n)))

-- down a column that rises from row to row
chain : (width start end i d t : ℕ) (xs : List ℕ) → RiseBy width xs ((start + 1) * width) (end * width) → start ≤ i → i + d < end → t < width → get_or xs (i * width + t) 0 ≤ get_or xs ((i + d) * width + t) 0
chain width start end i zero t xs r l m n = let e : i + 0 ≡ i = omega arith in let a = ap (λ k. get_or xs (k * width + t) 0) e in omega (arith, a)
chain width start end i (suc d) t xs r l m n =
    let ih = chain width start end i d t xs r l (omega (arith, m)) n in
    let s = suc-mul (i + d) width in
    let e : i + suc d ≡ suc (i + d) = omega arith in
    let a = ap (λ k. k * width) e in
    let p : (start + 1) * width ≤ (i + suc d) * width = mul-le-mul {n₂ = i + suc d} {m₂ = width} (omega (arith, l)) (omega arith) in
    let b = row-below (i + suc d) end width t m n in
    let z : (i + suc d) * width + t - width ≡ (i + d) * width + t = omega (arith, s, a) in
    let y = r ((i + suc d) * width + t) (omega (arith, p)) b in
    let q = ap (λ k. get_or xs k 0) z in
    omega (arith, ih, y, q)

-- columns that rise within each of the blocks before one
abbrev pub RiseInBlocks : ℕ → List ℕ → ℕ → List ℕ → Type 0
RiseInBlocks width starts blocks xs = (b : ℕ) → b < blocks → RiseBy width xs ((get_or starts b 0 + 1) * width) (get_or starts (b + 1) 0 * width)

-- blocks begin one after the other
blocks-rise : (blocks rows b d : ℕ) (starts : List ℕ) → AreBlocks blocks rows starts → b + d ≤ blocks → get_or starts b 0 ≤ get_or starts (b + d) 0
blocks-rise blocks rows b zero starts a l = let e : b + 0 ≡ b = omega arith in let q = ap (λ k. get_or starts k 0) e in omega (arith, q)
blocks-rise blocks rows b (suc d) starts a l =
    let ih = blocks-rise blocks rows b d starts a (omega (arith, l)) in
    let r = a.rise (b + d) (omega (arith, l)) in
    let e : b + suc d ≡ b + d + 1 = omega arith in
    let q = ap (λ k. get_or starts k 0) e in
    omega (arith, ih, r, q)

-- a change behind all rows of the blocks before one leaves these as they were
rise-kept : (width blocks rows b : ℕ) (starts xs new : List ℕ) → AreBlocks blocks rows starts → b ≤ blocks → ((k : ℕ) → k < get_or starts b 0 * width → get_or new k 0 ≡ get_or xs k 0) →
    RiseInBlocks width starts b xs → RiseInBlocks width starts b new
rise-kept width blocks rows b starts xs new a l same r c m k lo hi =
    let s = blocks-rise blocks rows (c + 1) (b - (c + 1)) starts a (omega (arith, m, l)) in
    let e : c + 1 + (b - (c + 1)) ≡ b = omega (arith, m) in
    let q = ap (λ n. get_or starts n 0) e in
    let p : get_or starts (c + 1) 0 * width ≤ get_or starts b 0 * width = mul-le-mul {n₂ = get_or starts b 0} {m₂ = width} (omega (arith, s, q)) (omega arith) in
    let x = same k (omega (arith, hi, p)) in
    let y = same (k - width) (omega (arith, hi, p)) in
    let z = r c m k lo hi in
    omega (arith, x, y, z)

-- the tops so far: no less than the numbers, and rising in the blocks before one
pub record AreTopsTo (width block : ℕ) (starts numbers tops : List ℕ) : Type 0 where
  pub size : length tops ≡ length numbers
  pub least : NeverLess tops numbers
  pub rise : RiseInBlocks width starts block tops

pub tops-more : (width rows block from : ℕ) (starts numbers tops new : List ℕ) → AreBlocks width rows starts → block < width → from ≡ (get_or starts block 0 + 1) * width →
    AreRaised width from (get_or starts (block + 1) 0 * width) tops new → AreTopsTo width block starts numbers tops → AreTopsTo width (block + 1) starts numbers new
tops-more width rows block from starts numbers tops new a l f r t = record {
  size = r.size ∙ t.size;
  least = λ k. let x = r.least k in let y = t.least k in omega (arith, x, y);
  rise = λ b m. go b m (cases_lt b block);
}
  where
    early : get_or starts block 0 * width ≤ from
    early = let s : get_or starts block 0 * width ≤ (get_or starts block 0 + 1) * width = mul-le-mul {n₂ = get_or starts block 0 + 1} {m₂ = width} (omega arith) (omega arith) in omega (arith, s, f)

    go : (b : ℕ) → b < block + 1 → (b < block) ⊎ (block ≤ b) → RiseBy width new ((get_or starts b 0 + 1) * width) (get_or starts (b + 1) 0 * width)
    go b m (inl n) = rise-kept width width rows block starts tops new a (omega (arith, l)) (λ k o. r.before k (let e = early in omega (arith, o, e))) t.rise b n
    go b m (inr n) =
        let o : block ≡ b = omega (arith, m, n) in
        subst (λ c. RiseBy width new ((get_or starts c 0 + 1) * width) (get_or starts (c + 1) 0 * width)) o (subst (λ c. RiseBy width new c (get_or starts (block + 1) 0 * width)) f r.rise)

pub tops-done : (width : ℕ) (starts numbers tops : List ℕ) (block : ℕ) → block ≡ width → AreTopsTo width block starts numbers tops → AreTops width width starts numbers tops
tops-done width starts numbers tops block w to = let s = subst (λ b. AreTopsTo width b starts numbers tops) w to in record {
  size = s.size;
  bound = λ b i j t l o.
      let e : i + (j - i) ≡ j = (let h = o.order in omega (arith, h)) in
      let q = ap (λ k. get_or tops (k * width + t) 0) e in
      let h = o.end in
      let c = chain width (get_or starts b 0) (get_or starts (b + 1) 0) i (j - i) t tops (s.rise b o.block) o.begin (omega (arith, h, e)) l in
      let x = s.least (i * width + t) in
      omega (arith, q, c, x);
}

-- the floors so far: no more than the numbers, and rising in the blocks before one
pub record AreFloorsTo (width block : ℕ) (starts numbers floors : List ℕ) : Type 0 where
  pub size : length floors ≡ length numbers
  pub most : NeverLess numbers floors
  pub rise : RiseInBlocks width starts block floors

pub floors-more : (width rows block : ℕ) (starts numbers floors new : List ℕ) → AreBlocks width rows starts → block < width → get_or starts block 0 < get_or starts (block + 1) 0 →
    AreLowered width (get_or starts block 0 * width) ((get_or starts (block + 1) 0 - 1) * width) floors new → AreFloorsTo width block starts numbers floors → AreFloorsTo width (block + 1) starts numbers new
floors-more width rows block starts numbers floors new a l some r t = record {
  size = r.size ∙ t.size;
  most = λ k. let x = r.most k in let y = t.most k in omega (arith, x, y);
  rise = λ b m. go b m (cases_lt b block);
}
  where
    begin : get_or starts block 0 * width + width ≡ (get_or starts block 0 + 1) * width
    begin = let s = suc-mul (get_or starts block 0) width in let e : suc (get_or starts block 0) ≡ get_or starts block 0 + 1 = omega arith in let q = ap (λ n. n * width) e in omega (arith, s, q)

    end : (get_or starts (block + 1) 0 - 1) * width + width ≡ get_or starts (block + 1) 0 * width
    end = let s = suc-mul (get_or starts (block + 1) 0 - 1) width in let e : suc (get_or starts (block + 1) 0 - 1) ≡ get_or starts (block + 1) 0 = omega (arith, some) in let q = ap (λ n. n * width) e in omega (arith, s, q)

    go : (b : ℕ) → b < block + 1 → (b < block) ⊎ (block ≤ b) → RiseBy width new ((get_or starts b 0 + 1) * width) (get_or starts (b + 1) 0 * width)
    go b m (inl n) = rise-kept width width rows block starts floors new a (omega (arith, l)) (λ k o. r.before k o) t.rise b n
    go b m (inr n) =
        let o : block ≡ b = omega (arith, m, n) in
        subst (λ c. RiseBy width new ((get_or starts c 0 + 1) * width) (get_or starts (c + 1) 0 * width)) o (subst (λ c. RiseBy width new ((get_or starts block 0 + 1) * width) c) end (subst (λ c. RiseBy width new c ((get_or starts (block + 1) 0 - 1) * width + width)) begin r.rise))

-- a block without rows asks nothing
pub floors-same : (width block : ℕ) (starts numbers floors : List ℕ) → get_or starts (block + 1) 0 ≤ get_or starts block 0 → AreFloorsTo width block starts numbers floors → AreFloorsTo width (block + 1) starts numbers floors
floors-same width block starts numbers floors none t = record { size = t.size; most = t.most; rise = λ b m. go b m (cases_lt b block) }
  where
    go : (b : ℕ) → b < block + 1 → (b < block) ⊎ (block ≤ b) → RiseBy width floors ((get_or starts b 0 + 1) * width) (get_or starts (b + 1) 0 * width)
    go b m (inl n) k lo hi = t.rise b n k lo hi
    go b m (inr n) k lo hi =
        let o : block ≡ b = omega (arith, m, n) in
        let x = ap (λ c. get_or starts c 0) o in
        let y = ap (λ c. get_or starts (c + 1) 0) o in
        let p : get_or starts (b + 1) 0 * width ≤ (get_or starts b 0 + 1) * width = mul-le-mul {n₂ = get_or starts b 0 + 1} {m₂ = width} (omega (arith, x, y, none)) (omega arith) in
        absurd (omega (arith, lo, hi, p))

pub floors-done : (width : ℕ) (starts numbers floors : List ℕ) (block : ℕ) → block ≡ width → AreFloorsTo width block starts numbers floors → AreFloors width width starts numbers floors
floors-done width starts numbers floors block w to = let s = subst (λ b. AreFloorsTo width b starts numbers floors) w to in record {
  size = s.size;
  bound = λ b i j t l o.
      let e : i + (j - i) ≡ j = (let h = o.order in omega (arith, h)) in
      let q = ap (λ k. get_or floors (k * width + t) 0) e in
      let h = o.end in
      let c = chain width (get_or starts b 0) (get_or starts (b + 1) 0) i (j - i) t floors (s.rise b o.block) o.begin (omega (arith, h, e)) l in
      let x = s.most (j * width + t) in
      omega (arith, q, c, x);
}

-- nothing was done before the first block
pub tops-none : (width : ℕ) (starts numbers tops : List ℕ) → tops ≡ numbers → AreTopsTo width 0 starts numbers tops
tops-none width starts numbers tops e = subst (AreTopsTo width 0 starts numbers) (sym e) record { size = refl; least = λ k. omega arith; rise = λ b m. absurd (omega (arith, m)) }

pub floors-none : (width : ℕ) (starts numbers floors : List ℕ) → floors ≡ numbers → AreFloorsTo width 0 starts numbers floors
floors-none width starts numbers floors e = subst (AreFloorsTo width 0 starts numbers) (sym e) record { size = refl; most = λ k. omega arith; rise = λ b m. absurd (omega (arith, m)) }

-- no block ends behind the last row
pub block-within : (width rows b : ℕ) (starts numbers : List ℕ) → AreBlocks width rows starts → length numbers ≡ rows * width → b < width → get_or starts (b + 1) 0 * width ≤ length numbers
block-within width rows b starts numbers a n l =
    let p : get_or starts (b + 1) 0 * width ≤ rows * width = mul-le-mul {n₂ = rows} {m₂ = width} (a.within b l) (omega arith) in
    omega (arith, n, p)

-- the last row but one of a block that has rows ends a row before the block does
pub row-within : (width rows b : ℕ) (starts numbers : List ℕ) → AreBlocks width rows starts → length numbers ≡ rows * width → b < width → get_or starts b 0 < get_or starts (b + 1) 0 →
    (get_or starts (b + 1) 0 - 1) * width + width ≤ length numbers
row-within width rows b starts numbers a n l some =
    let p = block-within width rows b starts numbers a n l in
    let s = suc-mul (get_or starts (b + 1) 0 - 1) width in
    let e : suc (get_or starts (b + 1) 0 - 1) ≡ get_or starts (b + 1) 0 = omega (arith, some) in
    let q = ap (λ k. k * width) e in
    omega (arith, p, s, q)

pub rows-rise : (width from to : ℕ) → from < to → from * width ≤ (to - 1) * width
rows-rise width from to l = mul-le-mul {n₂ = to - 1} {m₂ = width} (omega (arith, l)) (omega arith)
