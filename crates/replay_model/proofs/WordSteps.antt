-- Lists of steps at the words.
use Rattle.std.proofs.Common.{◌≡◌, ℕ, ◌+◌, true, false, cond, eqb, List, [], ◌∷◌, ◌++◌, length, refl, sym, ◌∙◌, ap, inl, inr, ◌⊎◌}
use Rattle.std.proofs.lemmas.List.{append_assoc, append-nil}
use Rattle.std.proofs.lemmas.Bool.{cases_Bool, eq-eqb, ne_eqb, cond-true, cond-false}
use Rattle.replay_model.specs.Steps.{Cell, Step, word_of, wrote, found_in, put}
use Rattle.replay_model.specs.WordSteps.{WordStep, event_of, part, Folds}

-- the step without its thread and number
abbrev pub step_of : WordStep → Step
step_of e = record { want = e.want; found = e.found }

-- the part of two lists
pub part-append : (t : ℕ) (xs ys : List WordStep) → part t (xs ++ ys) ≡ part t xs ++ part t ys
part-append t [] ys = refl
part-append t (e ∷ xs) ys = go (cases_Bool (eqb e.thread t)) (part-append t xs ys)
  where
    go : (eqb e.thread t ≡ true) ⊎ (eqb e.thread t ≡ false) → part t (xs ++ ys) ≡ part t xs ++ part t ys →
        cond (eqb e.thread t) (step_of e ∷ []) [] ++ part t (xs ++ ys) ≡ (cond (eqb e.thread t) (step_of e ∷ []) [] ++ part t xs) ++ part t ys
    go (inl q) ih = rw q (ap (λ (s : List Step). step_of e ∷ s) ih)
    go (inr q) ih = rw q ih

-- a step is in the part of its thread
pub part_own : (e : WordStep) (list : List WordStep) → part e.thread (e ∷ list) ≡ step_of e ∷ part e.thread list
part_own e list = ap (λ (s : List Step). s ++ part e.thread list) (cond-true (eqb e.thread e.thread) (step_of e ∷ []) [] (eq-eqb e.thread e.thread refl))

-- and in no other
pub part_other : (u : ℕ) (e : WordStep) (list : List WordStep) → (u ≡ e.thread → ⊥) → part u (e ∷ list) ≡ part u list
part_other u e list n = ap (λ (s : List Step). s ++ part u list) (cond-false (eqb e.thread u) (step_of e ∷ []) [] (ne_eqb e.thread u (λ q. n (sym q))))

-- one more step at the end of the list: it joins its thread's part, and no other
pub part_push : (e : WordStep) (list : List WordStep) → part e.thread (list ++ e ∷ []) ≡ part e.thread list ++ step_of e ∷ []
part_push e list = part-append e.thread list (e ∷ []) ∙ ap (λ (s : List Step). part e.thread list ++ s) (part_own e [])

-- another part stays
pub part_push_other : (u : ℕ) (e : WordStep) (list : List WordStep) → (u ≡ e.thread → ⊥) → part u (list ++ e ∷ []) ≡ part u list
part_push_other u e list n =
    part-append u list (e ∷ []) ∙ ap (λ (s : List Step). part u list ++ s) (part_other u e [] n) ∙ append-nil (part u list)

-- it goes on from where the list led
pub Folds-push : (list earlier : List WordStep) (memory mid : List Cell) (e : WordStep) → Folds earlier memory list mid →
    e.number ≡ length (part e.thread (earlier ++ list)) + 1 → e.found ≡ found_in mid e.want →
    Folds earlier memory (list ++ e ∷ []) (put mid (word_of e.want) (event_of e) (wrote e.want e.found))
Folds-push [] earlier memory mid e folds n f = (
  n ∙ ap (λ (x : List WordStep). length (part e.thread x) + 1) (append-nil earlier),
  f ∙ ap (λ (m : List Cell). found_in m e.want) (sym folds),
  ap (λ (m : List Cell). put m (word_of e.want) (event_of e) (wrote e.want e.found)) folds,
)
Folds-push (x ∷ list) earlier memory mid e folds n f = (
  folds.0,
  folds.1,
  Folds-push list (earlier ++ x ∷ []) (put memory (word_of x.want) (event_of x) (wrote x.want x.found)) mid e folds.2
      (n ∙ ap (λ (y : List WordStep). length (part e.thread y) + 1) (sym (append_assoc earlier (x ∷ []) list))) f,
)
