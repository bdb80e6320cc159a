-- Threads that take turns: the lists of their runners, before and after a round.
use Rattle.std.proofs.Common.{◌≡◌, ◌≢◌, ℕ, suc, ◌+◌, ◌-◌, ◌<◌, ◌≤◌, Bool, true, false, ◌||◌, List, [], ◌∷◌, ◌++◌, map, reverse, length, refl, sym, ◌∙◌, ap, subst, arith, inl, inr, ◌⊎◌}
use Rattle.std.specs.Prelude.{slice_index_or, slice_set, All}
use Rattle.std.specs.List.{Any}
use Rattle.std.proofs.lemmas.Bool.{cases_eq}
use Rattle.std.proofs.lemmas.List.{append_assoc, reverse-append, map-append, length-set, get_or-set_same, get_or-set_other, get_or_default}
use Rattle.std.proofs.lemmas.List.Sums.{sum_by-set}
use Rattle.machine.specs.Programs.{ProgramValue, LimitsValue, code_of}
use Rattle.machine.specs.Inputs.{InputsValue, inputs_of}
use Rattle.tagged_words.specs.Views.{SharedWords}
use Rattle.running_thread.specs.Running.{puts_out}
use Rattle.recorder.specs.Running.{Running, IsSame, IsAtEnd}
use Rattle.recorder.specs.Grouped.{RanFor, RunsIn, MayPutOut, AreSame, TookTurn, TookTurns, RanInRounds, steps_left}

-- what was done, and the rest the other way round: an element goes from the end of the rest to the end of what was done
pub popped : {A B : Type 0} (f : A → B) (done : List B) (xs ys : List A) (x : A) → xs ≡ ys ++ x ∷ [] → (done ++ f x ∷ []) ++ reverse (map f ys) ≡ done ++ reverse (map f xs)
popped {A} {B} f done xs ys x e =
    append_assoc done (f x ∷ []) (reverse (map f ys)) ∙
    ap (λ (l : List B). done ++ l) (sym (reverse-append (map f ys) (f x ∷ []))) ∙
    ap (λ (l : List B). done ++ reverse l) (sym (map-append f ys (x ∷ []))) ∙
    ap (λ (l : List A). done ++ reverse (map f l)) (sym e)

-- ---- the same threads

is_same-refl : (r : Running) → IsSame r r
is_same-refl r = record { program = refl; limits = refl; list = refl; words = refl; thread = refl }

is_same-trans : (a b c : Running) → IsSame a b → IsSame b c → IsSame a c
is_same-trans a b c s t = record {
  program = t.program ∙ s.program;
  limits = t.limits ∙ s.limits;
  list = t.list ∙ s.list;
  words = t.words ∙ s.words;
  thread = t.thread ∙ s.thread;
}

pub same-refl : (rs : List Running) → AreSame rs rs
same-refl rs = record { count = refl; each = λ k d l. is_same-refl (slice_index_or rs k d) }

pub same-trans : (a b c : List Running) → AreSame a b → AreSame b c → AreSame a c
same-trans a b c s t = record {
  count = t.count ∙ s.count;
  each = λ k d l. is_same-trans _ _ _ (s.each k d l) (t.each k d (let n = s.count in omega (arith, n, l)));
}

-- one of them has changed
pub same-set : (a b : List Running) (k : ℕ) (r : Running) → AreSame a b → k < length b → ((d : Running) → IsSame (slice_index_or b k d) r) → AreSame a (slice_set b k r)
same-set a b k r s there here = record {
  count = length-set b k r ∙ s.count;
  each = λ j d l. go j d l (cases_eq j k);
}
  where
    go : (j : ℕ) (d : Running) → j < length a → (j ≡ k) ⊎ (j ≢ k) → IsSame (slice_index_or a j d) (slice_index_or (slice_set b k r) j d)
    go j d l (inl e) =
        subst (λ (x : Running). IsSame (slice_index_or a j d) x) (sym (ap (λ (n : ℕ). slice_index_or (slice_set b k r) n d) e ∙ get_or-set_same b k r d there))
        (is_same-trans _ _ _ (s.each j d l) (subst (λ (n : ℕ). IsSame (slice_index_or b n d) r) (sym e) (here d)))
    go j d l (inr ne) = subst (λ (x : Running). IsSame (slice_index_or a j d) x) (sym (get_or-set_other b k j r d ne)) (s.each j d l)

module _ (words : SharedWords) (p : ProgramValue) (limits : LimitsValue) (inputs : InputsValue) where
  runs-same : (a b : Running) → RunsIn words p limits inputs a → IsSame a b → RunsIn words p limits inputs b
  runs-same a b r s = record {
    program = s.program ∙ r.program;
    bounds = s.limits ∙ r.bounds;
    list = s.list ∙ r.list ∙ ap (inputs_of inputs) (sym s.thread);
    own = s.words ∙ r.own;
  }

  pub same-runs : (a b : List Running) → All (RunsIn words p limits inputs) a → AreSame a b → All (RunsIn words p limits inputs) b
  same-runs a b all s k d l =
      let l' : k < length a = (let n = s.count in omega (arith, n, l)) in
      runs-same (slice_index_or a k d) (slice_index_or b k d) (all k d l') (s.each k d l')

pub same-threads : (a b : List Running) → AreSame a b → map (λ (r : Running). r.hand.thread) b ≡ map (λ (r : Running). r.hand.thread) a
same-threads [] [] s = refl
same-threads [] (y ∷ b) s = absurd (let n = s.count in omega (arith, n))
same-threads (x ∷ a) [] s = absurd (let n = s.count in omega (arith, n))
same-threads (x ∷ a) (y ∷ b) s = (λ i. (s.each 0 x (omega arith)).thread i ∷ same-threads a b rest i)
  where
    rest : AreSame a b
    rest = record { count = (let n = s.count in omega (arith, n)); each = λ k d l. s.each (suc k) d (omega (arith, l)) }

same-puts : (a b : Running) → IsSame a b → MayPutOut b → MayPutOut a
same-puts a b s m =
    subst (λ (t : ℕ). puts_out (code_of a.program t) ≡ true) s.thread (subst (λ (p : ProgramValue). puts_out (code_of p b.hand.thread) ≡ true) s.program m)

pub puts-at : (a b : List Running) (k : ℕ) → AreSame a b → k < length b → ((d : Running) → MayPutOut (slice_index_or b k d)) → Any MayPutOut a
puts-at [] b k s l m = absurd (let n = s.count in omega (arith, n, l))
puts-at (x ∷ a) b k s l m =
    let there : k < length (x ∷ a) = (let n = s.count in omega (arith, n, l)) in
    (k, slice_index_or (x ∷ a) k x, there, get_or_default (x ∷ a) k (slice_index_or (x ∷ a) k x) x there, same-puts _ _ (s.each k x there) (m x))

pub same-any : (a b : List Running) → AreSame a b → Any MayPutOut b → Any MayPutOut a
same-any a b s (k, x, l, e, m) = puts-at a b k s l (λ d. subst MayPutOut (sym (get_or_default b k d x l ∙ e)) m)

-- ---- a round

-- the turns from the last thread of the list down to the k-th
pub record IsInRound (slice : ℕ) (old now : List Running) (k : ℕ) (left : Bool) : Type 0 where
  pub same : AreSame old now
  pub fewer : left ≡ true → steps_left now < steps_left old
  pub most : steps_left now ≤ steps_left old
  pub ended : left ≡ false → (j : ℕ) (d : Running) → k ≤ j → j < length now → IsAtEnd (slice_index_or now j d)
  pub kept : (j : ℕ) (d : Running) → j < k → slice_index_or now j d ≡ slice_index_or old j d
  pub turned : (j : ℕ) (d : Running) → k ≤ j → j < length now → TookTurn slice (slice_index_or old j d) (slice_index_or now j d)

pub round-start : (slice : ℕ) (rs : List Running) (k : ℕ) → length rs ≤ k → IsInRound slice rs rs k false
round-start slice rs k l = record {
  same = same-refl rs;
  fewer = λ h. absurd (cc h);
  most = omega arith;
  ended = λ h j d low high. absurd (omega (arith, l, low, high));
  kept = λ j d low. refl;
  turned = λ j d low high. absurd (omega (arith, l, low, high));
}

pub round-end : (slice : ℕ) (old now : List Running) (left : Bool) → IsInRound slice old now 0 left → TookTurns slice old left now
round-end slice old now left r = record {
  each = λ k d l. r.turned k d (omega arith) (let n = r.same.count in omega (arith, n, l));
  fewer = r.fewer;
  ended = λ h k d l. r.ended h k d (omega arith) l;
}

abbrev own_left : Running → ℕ
own_left r = r.limits.steps - length r.hand.steps

module _ (slice : ℕ) (old now : List Running) (k : ℕ) (left : Bool) (is : IsInRound slice old now (k + 1) left) (there : k < length now) (before after : Running) (at : before ≡ slice_index_or now k before) (same : IsSame before after) where
  before-at : (d : Running) → slice_index_or now k d ≡ before
  before-at d = get_or_default now k d before there ∙ sym at

  same-more : AreSame old (slice_set now k after)
  same-more = same-set old now k after is.same there (λ d. subst (λ (x : Running). IsSame x after) (sym (before-at d)) same)

  sums : steps_left (slice_set now k after) + own_left before ≡ steps_left now + own_left after
  sums = ap (λ (x : Running). steps_left (slice_set now k after) + own_left x) (sym (before-at before)) ∙ sum_by-set own_left now k after before there

  same-limits : after.limits.steps ≡ before.limits.steps
  same-limits = ap (λ (l : LimitsValue). l.steps) same.limits

  ended-more : IsAtEnd after → left ≡ false → (j : ℕ) (d : Running) → k ≤ j → j < length (slice_set now k after) → IsAtEnd (slice_index_or (slice_set now k after) j d)
  ended-more end none j d low high = go (cases_eq j k)
    where
      go : (j ≡ k) ⊎ (j ≢ k) → IsAtEnd (slice_index_or (slice_set now k after) j d)
      go (inl e) = subst IsAtEnd (sym (ap (λ (n : ℕ). slice_index_or (slice_set now k after) n d) e ∙ get_or-set_same now k after d there)) end
      go (inr ne) = subst IsAtEnd (sym (get_or-set_other now k j after d ne)) (is.ended none j d (omega (arith, low, ne)) (let n = length-set now k after in omega (arith, n, high)))

  kept-more : (j : ℕ) (d : Running) → j < k → slice_index_or (slice_set now k after) j d ≡ slice_index_or old j d
  kept-more j d low = get_or-set_other now k j after d (λ e. omega (arith, low, e)) ∙ is.kept j d (omega (arith, low))

  turned-more : TookTurn slice before after → (j : ℕ) (d : Running) → k ≤ j → j < length (slice_set now k after) → TookTurn slice (slice_index_or old j d) (slice_index_or (slice_set now k after) j d)
  turned-more turn j d low high = go (cases_eq j k)
    where
      go : (j ≡ k) ⊎ (j ≢ k) → TookTurn slice (slice_index_or old j d) (slice_index_or (slice_set now k after) j d)
      go (inl e) =
          let first : before ≡ slice_index_or old j d = sym (ap (λ (n : ℕ). slice_index_or old n d) e ∙ sym (is.kept k d (omega arith)) ∙ before-at d) in
          let last : after ≡ slice_index_or (slice_set now k after) j d = sym (ap (λ (n : ℕ). slice_index_or (slice_set now k after) n d) e ∙ get_or-set_same now k after d there) in
          subst (λ (x : Running). TookTurn slice x (slice_index_or (slice_set now k after) j d)) first (subst (TookTurn slice before) last turn)
      go (inr ne) =
          subst (TookTurn slice (slice_index_or old j d)) (sym (get_or-set_other now k j after d ne))
          (is.turned j d (omega (arith, low, ne)) (let n = length-set now k after in omega (arith, n, high)))

  -- a turn
  pub round-more : (goes_on : Bool) → 1 ≤ slice → RanFor before goes_on slice after → IsInRound slice old (slice_set now k after) k (left || goes_on)
  round-more goes_on some ran = go left goes_on refl ran
    where
      go : (l g : Bool) → left ≡ l → RanFor before g slice after → IsInRound slice old (slice_set now k after) k (l || g)
      go l true e r =
          let less : own_left after < own_left before = (let a = r.0 in let b = r.1 in let c = same-limits in omega (arith, a, b, c, some)) in
          let less-all : steps_left (slice_set now k after) < steps_left old = (let s = sums in let m = is.most in omega (arith, s, less, m)) in
          record {
            same = same-more;
            fewer = λ h. less-all;
            most = omega (arith, less-all);
            ended = by l;
            kept = kept-more;
            turned = turned-more (true, r);
          }
        where
          by : (l : Bool) → l || true ≡ false → (j : ℕ) (d : Running) → k ≤ j → j < length (slice_set now k after) → IsAtEnd (slice_index_or (slice_set now k after) j d)
          by true h = absurd (cc h)
          by false h = absurd (cc h)
      go true false e r =
          let most : own_left after ≤ own_left before = (let a = r.0 in let c = same-limits in omega (arith, a, c)) in
          record {
            same = same-more;
            fewer = λ h. let s = sums in let f = is.fewer e in omega (arith, s, most, f);
            most = let s = sums in let m = is.most in omega (arith, s, most, m);
            ended = λ h. absurd (cc h);
            kept = kept-more;
            turned = turned-more (false, r);
          }
      go false false e r =
          let most : own_left after ≤ own_left before = (let a = r.0 in let c = same-limits in omega (arith, a, c)) in
          record {
            same = same-more;
            fewer = λ h. absurd (cc h);
            most = let s = sums in let m = is.most in omega (arith, s, most, m);
            ended = λ h. ended-more r.1 e;
            kept = kept-more;
            turned = turned-more (false, r);
          }

  -- where one is left already, it stays so
  pub round-left : (goes_on : Bool) → 1 ≤ slice → RanFor before goes_on slice after → left ≡ true → IsInRound slice old (slice_set now k after) k left
  round-left goes_on some ran h = subst (IsInRound slice old (slice_set now k after) k) (ap (λ (l : Bool). l || goes_on) h ∙ sym h) (round-more goes_on some ran)

  pub round-on : (goes_on : Bool) → 1 ≤ slice → RanFor before goes_on slice after → left ≡ false → IsInRound slice old (slice_set now k after) k goes_on
  round-on goes_on some ran h = subst (IsInRound slice old (slice_set now k after) k) (ap (λ (l : Bool). l || goes_on) h) (round-more goes_on some ran)

-- ---- rounds

pub no-round : (slice : ℕ) (rs : List Running) → RanInRounds slice rs rs
no-round slice rs = (0, refl)

pub round-after : (slice : ℕ) (firsts before lasts : List Running) (left : Bool) → RanInRounds slice firsts before → TookTurns slice before left lasts → RanInRounds slice firsts lasts
round-after slice firsts before lasts left (n, rounds) turns = (suc n, (before, left, rounds, turns))
