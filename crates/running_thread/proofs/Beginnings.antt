-- The first steps of a run, and one more.
use Rattle.std.proofs.Common.{◌≡◌, ℕ, ◌+◌, ◌<◌, ◌≤◌, false, List, [], ◌∷◌, ◌++◌, length, take, sym, ◌∙◌, ap, subst, arith, inl, inr, ◌⊎◌}
use Rattle.std.specs.Prelude.{slice_index_or, Option, Some, is_some}
use Rattle.std.proofs.lemmas.Bool.{cases_lt}
use Rattle.std.proofs.lemmas.List.{get_or_append_left, length_push, take-append-le}
use Rattle.std.proofs.Math.Seq.{get_or-append_seam, take-append_seam}
use Rattle.replay_model.specs.declared.Want.TheVariants.{Load}
use Rattle.replay_model.specs.declared.Want.{Want}
use Rattle.replay_model.specs.Steps.{Tag, Cell, Step, has_ended, reads}
use Rattle.replay_model.specs.Threads.{Threads, no_step}
use Rattle.machine.specs.Laws.{FollowsLoad}
use Rattle.running_thread.specs.Running.{IsBegun, IsAfterLoad}

-- what is said of each step with the steps before it, where it holds of one more
each_more : (P : List Step → Step → Type 0) (steps : List Step) (step : Step) → ((k : ℕ) → k < length steps → P (take k steps) (slice_index_or steps k no_step)) → P steps step →
    (k : ℕ) → k < length (steps ++ step ∷ []) → P (take k (steps ++ step ∷ [])) (slice_index_or (steps ++ step ∷ []) k no_step)
each_more P steps step all one k l = go (cases_lt k (length steps))
  where
    go : (k < length steps) ⊎ (length steps ≤ k) → P (take k (steps ++ step ∷ [])) (slice_index_or (steps ++ step ∷ []) k no_step)
    go (inl b) =
        subst (λ (s : Step). P (take k (steps ++ step ∷ [])) s) (sym (get_or_append_left steps (step ∷ []) no_step k b))
        (subst (λ (x : List Step). P x (slice_index_or steps k no_step)) (sym (take-append-le k steps (step ∷ []) (omega arith))) (all k b))
    go (inr g) =
        let e : length steps ≡ k = (let x = length_push steps step in omega (arith, x, l, g)) in
        subst (λ (n : ℕ). P (take n (steps ++ step ∷ [])) (slice_index_or (steps ++ step ∷ []) n no_step)) e
        (subst (λ (s : Step). P (take (length steps) (steps ++ step ∷ [])) s) (sym (get_or-append_seam steps step [] no_step))
        (subst (λ (x : List Step). P x step) (sym (take-append_seam steps (step ∷ []))) one))

pub begun-more : (threads : Threads) (t : ℕ) (steps : List Step) (step : Step) → IsBegun threads t steps → threads t steps ≡ step.want → has_ended step.want ≡ false → is_some step.found ≡ reads step.want →
    IsBegun threads t (steps ++ step ∷ [])
begun-more threads t steps step is wants lives found = record {
  wants = each_more (λ before s. threads t before ≡ s.want) steps step is.wants wants;
  lives = each_more (λ before s. has_ended s.want ≡ false) steps step is.lives lives;
  found = each_more (λ before s. is_some s.found ≡ reads s.want) steps step is.found found;
}

pub begun-none : (threads : Threads) (t : ℕ) → IsBegun threads t []
begun-none threads t = record { wants = λ k l. absurd (omega (arith, l)); lives = λ k l. absurd (omega (arith, l)); found = λ k l. absurd (omega (arith, l)) }

-- the load before a conditional write is the last of them
pub after-load : (threads : Threads) (t : ℕ) (steps : List Step) (word : ℕ) (seen : Tag) → IsBegun threads t steps → FollowsLoad threads t steps word seen → IsAfterLoad steps word seen
after-load threads t steps word seen begun f =
    let n : length steps ≡ length f.earlier + 1 = ap length f.whole ∙ length_push f.earlier f.last in
    let here : length f.earlier < length steps = omega (arith, n) in
    let at : slice_index_or steps (length f.earlier) no_step ≡ f.last = ap (λ (x : List Step). slice_index_or x (length f.earlier) no_step) f.whole ∙ get_or-append_seam f.earlier f.last [] no_step in
    let before : take (length f.earlier) steps ≡ f.earlier = ap (take (length f.earlier)) f.whole ∙ take-append_seam f.earlier (f.last ∷ []) in
    let want : f.last.want ≡ Load word = ap (λ (s : Step). s.want) (sym at) ∙ sym (begun.wants (length f.earlier) here) ∙ ap (threads t) before ∙ f.load in
    let last : f.last ≡ record { want = Load word; found = Some f.cell } = ap (λ (w : Want). record { want = w; found = f.last.found }) want ∙ ap (λ (c : Option Cell). record { want = Load word; found = c }) f.found in
    record { earlier = f.earlier; cell = f.cell; whole = f.whole ∙ ap (λ (s : Step). f.earlier ++ s ∷ []) last; tag = f.tag }
