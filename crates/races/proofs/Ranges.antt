-- How many numbers of a range pass a test.
use Rattle.std.proofs.Common.{◌≡◌, ℕ, zero, suc, ◌+◌, ◌-◌, ◌<◌, ◌≤◌, Bool, true, false, cond, List, [], ◌∷◌, refl, ap, arith}
use Rattle.std.specs.List.{count_by, sum_by, range_with_len}
use Rattle.std.proofs.lemmas.List.Sums.{sum_by-cons, count_by-le-length}
use Rattle.std.proofs.lemmas.List.FromFn.{length-range_with_len}
use Rattle.races.specs.Shut.{IsFront}

-- those from one number up to another
abbrev pub counted : (ℕ → Bool) → ℕ → ℕ → ℕ
counted test from to = count_by test (range_with_len from (to - from))

abbrev pub bit : Bool → ℕ
bit b = cond b 1 0

pub sum-split : (f : ℕ → ℕ) (a n m : ℕ) → sum_by f (range_with_len a (n + m)) ≡ sum_by f (range_with_len a n) + sum_by f (range_with_len (a + n) m)
sum-split f a zero m =
    let e : a + 0 ≡ a = omega arith in
    let z : 0 + m ≡ m = omega arith in
    let q = ap (λ k. sum_by f (range_with_len k m)) e in
    let r = ap (λ k. sum_by f (range_with_len a k)) z in
    omega (arith, q, r)
sum-split f a (suc n) m =
    let ih = sum-split f (a + 1) n m in
    let z : suc n + m ≡ suc (n + m) = omega arith in
    let r = ap (λ k. sum_by f (range_with_len a k)) z in
    let b = sum_by-cons f a (range_with_len (a + 1) (n + m)) in
    let c = sum_by-cons f a (range_with_len (a + 1) n) in
    let e : (a + 1) + n ≡ a + suc n = omega arith in
    let q = ap (λ k. sum_by f (range_with_len k m)) e in
    omega (arith, ih, b, c, q, r)

-- one more number
pub sum-more : (f : ℕ → ℕ) (n : ℕ) → sum_by f (range_with_len 0 (n + 1)) ≡ sum_by f (range_with_len 0 n) + f n
sum-more f n =
    let s = sum-split f 0 n 1 in
    let z : 0 + n ≡ n = omega arith in
    let q = ap (λ k. sum_by f (range_with_len k 1)) z in
    let c = sum_by-cons f n [] in
    omega (arith, s, q, c)

count-cons : (test : ℕ → Bool) (x : ℕ) (xs : List ℕ) → count_by test (x ∷ xs) ≡ bit (test x) + count_by test xs
count-cons test x xs = sum_by-cons (λ y. bit (test y)) x xs

count-split : (test : ℕ → Bool) (a n m : ℕ) → count_by test (range_with_len a (n + m)) ≡ count_by test (range_with_len a n) + count_by test (range_with_len (a + n) m)
count-split test a n m = sum-split (λ y. bit (test y)) a n m

pub counted-join : (test : ℕ → Bool) (a b c : ℕ) → a ≤ b → b ≤ c → counted test a c ≡ counted test a b + counted test b c
counted-join test a b c l m =
    let s = count-split test a (b - a) (c - b) in
    let e : (b - a) + (c - b) ≡ c - a = omega arith in
    let f : a + (b - a) ≡ b = omega arith in
    let p = ap (λ k. count_by test (range_with_len a k)) e in
    let q = ap (λ k. count_by test (range_with_len k (c - b))) f in
    omega (arith, s, p, q)

count-all : (test : ℕ → Bool) (a n : ℕ) → ((j : ℕ) → a ≤ j → j < a + n → test j ≡ true) → count_by test (range_with_len a n) ≡ n
count-all test a zero h = refl
count-all test a (suc n) h =
    let ih = count-all test (a + 1) n (λ j l m. h j (omega (arith, l)) (omega (arith, m))) in
    let b = count-cons test a (range_with_len (a + 1) n) in
    let t = ap bit (h a (omega arith) (omega arith)) in
    omega (arith, ih, b, t)

pub counted-all : (test : ℕ → Bool) (a b : ℕ) → ((j : ℕ) → a ≤ j → j < b → test j ≡ true) → counted test a b ≡ b - a
counted-all test a b h = count-all test a (b - a) (λ j l m. h j l (omega (arith, l, m)))

count-none : (test : ℕ → Bool) (a n : ℕ) → ((j : ℕ) → a ≤ j → j < a + n → test j ≡ false) → count_by test (range_with_len a n) ≡ 0
count-none test a zero h = refl
count-none test a (suc n) h =
    let ih = count-none test (a + 1) n (λ j l m. h j (omega (arith, l)) (omega (arith, m))) in
    let b = count-cons test a (range_with_len (a + 1) n) in
    let t = ap bit (h a (omega arith) (omega arith)) in
    omega (arith, ih, b, t)

pub counted-none : (test : ℕ → Bool) (a b : ℕ) → ((j : ℕ) → a ≤ j → j < b → test j ≡ false) → counted test a b ≡ 0
counted-none test a b h = count-none test a (b - a) (λ j l m. h j l (omega (arith, l, m)))

count-same : (test other : ℕ → Bool) (a n : ℕ) → ((j : ℕ) → a ≤ j → j < a + n → test j ≡ other j) → count_by test (range_with_len a n) ≡ count_by other (range_with_len a n)
count-same test other a zero h = refl
count-same test other a (suc n) h =
    let ih = count-same test other (a + 1) n (λ j l m. h j (omega (arith, l)) (omega (arith, m))) in
    let b = count-cons test a (range_with_len (a + 1) n) in
    let c = count-cons other a (range_with_len (a + 1) n) in
    let t = ap bit (h a (omega arith) (omega arith)) in
    omega (arith, ih, b, c, t)

pub counted-same : (test other : ℕ → Bool) (a b : ℕ) → ((j : ℕ) → a ≤ j → j < b → test j ≡ other j) → counted test a b ≡ counted other a b
counted-same test other a b h = count-same test other a (b - a) (λ j l m. h j l (omega (arith, l, m)))

-- one more number
pub counted-more : (test : ℕ → Bool) (a b : ℕ) → a ≤ b → counted test a (b + 1) ≡ counted test a b + bit (test b)
counted-more test a b l =
    let s = counted-join test a b (b + 1) l (omega arith) in
    let e : (b + 1) - b ≡ 1 = omega arith in
    let p = ap (λ k. count_by test (range_with_len b k)) e in
    let c = count-cons test b [] in
    omega (arith, s, p, c)

-- those of a front
pub counted-front : (test : ℕ → Bool) (from to end : ℕ) → IsFront test from to end → counted test from to ≡ end - from
counted-front test from to end f =
    let l = f.low in
    let h = f.high in
    let s = counted-join test from end to l h in
    let a = counted-all test from end f.before in
    let b = counted-none test end to f.after in
    omega (arith, s, a, b)

pub counted-yes : (test : ℕ → Bool) (from place count new : ℕ) → from ≤ place → test place ≡ true → count ≡ counted test from place → new ≡ count + 1 → new ≡ counted test from (place + 1)
counted-yes test from place count new l t e q = let m = counted-more test from place l in let b = ap bit t in omega (arith, m, b, e, q)

pub counted-no : (test : ℕ → Bool) (from place count new : ℕ) → from ≤ place → test place ≡ false → count ≡ counted test from place → new ≡ count → new ≡ counted test from (place + 1)
counted-no test from place count new l t e q = let m = counted-more test from place l in let b = ap bit t in omega (arith, m, b, e, q)

-- a front more
pub front-more : (test : ℕ → Bool) (start next from to end count : ℕ) → start ≡ from → next ≡ to → IsFront test from to end → count ≡ counted test 0 start → counted test 0 next ≡ count + (end - start)
front-more test start next from to end count e q f c =
    let a = ap (counted test 0) e in
    let b = ap (counted test 0) q in
    let l = f.low in
    let h = f.high in
    let j = counted-join test 0 from to (omega arith) (omega (arith, l, h)) in
    let k = counted-front test from to end f in
    omega (arith, a, b, j, k, c, e)

pub counted-le : (test : ℕ → Bool) (from to : ℕ) → counted test from to ≤ to - from
counted-le test from to = let a = count_by-le-length test (range_with_len from (to - from)) in let b = length-range_with_len from (to - from) in omega (arith, a, b)

pub count-few : (test : ℕ → Bool) (a n : ℕ) → count_by test (range_with_len a n) ≤ n
count-few test a n = let c = count_by-le-length test (range_with_len a n) in let b = length-range_with_len a n in omega (arith, c, b)
