-- The search for a cut ends.
use Rattle.std.proofs.Common.{◌≡◌, ℕ, zero, suc, ◌+◌, ◌-◌, ◌<◌, ◌≤◌, List, [], ◌∷◌, length, sym, ◌∙◌, ap, subst, arith, inl, inr, ◌⊎◌}
use Rattle.std.specs.Prelude.{Some, slice_index_or, slice_set}
use Rattle.std.proofs.lemmas.List.{get_or_default}
use Rattle.std.proofs.lemmas.List.Elements.{Contains-get_or}
use Rattle.std.proofs.lemmas.Bool.{cases_lt}
use Rattle.replay_model.specs.declared.Entry.{Entry}
use Rattle.replay_model.specs.Steps.{Event}
use Rattle.replay_model.specs.Logs.{ThreadLog, Log, no_thread, thread_of, HasEntry}
use Rattle.replay_model.specs.WellFormed.{IsTagOf, IsWellFormed}
use Rattle.replay_laws.proofs.Places.{entry_thread}
use Rattle.cut_laws.specs.Cuts.{number_of, IsCut}
use Rattle.cut_laws.specs.Searches.{IsSearched, raised}
use Rattle.cut_laws.proofs.Searches.{went_on, ended}
use Rattle.stopper.specs.Nexts.{HasNext}

-- how many entries of all threads are left
abbrev pub entries_left : List ThreadLog → List ℕ → ℕ
entries_left [] nexts = 0
entries_left (thread ∷ threads) [] = length thread.entries + entries_left threads []
entries_left (thread ∷ threads) (next ∷ nexts) = (length thread.entries - next) + entries_left threads nexts

-- one less once one of them is taken
pub left-less : (threads : List ThreadLog) (nexts : List ℕ) (t : ℕ) → length nexts ≡ length threads → number_of nexts t < length (slice_index_or threads t no_thread).entries →
    entries_left threads (slice_set nexts t (number_of nexts t + 1)) < entries_left threads nexts
left-less [] nexts t c l = absurd (omega arith)
left-less (thread ∷ threads) [] t c l = absurd (omega arith)
left-less (thread ∷ threads) (next ∷ nexts) zero c l = omega arith
left-less (thread ∷ threads) (next ∷ nexts) (suc t) c l = let h = left-less threads nexts t (omega arith) l in omega arith

-- the entry that is read is the next one of its thread
pub next_entry : (log : Log) (t n : ℕ) (threads : List ThreadLog) (thread : ThreadLog) (entries : List Entry) (entry : Entry) → threads ≡ log.threads → t < length log.threads →
    thread ≡ slice_index_or threads t thread → entries ≡ thread.entries → entry ≡ slice_index_or entries n entry → entry ≡ slice_index_or (thread_of log t).entries n entry
next_entry log t n threads thread entries entry a l b c d =
    let e : thread ≡ thread_of log t = b ∙ ap (λ (x : List ThreadLog). slice_index_or x t thread) a ∙ get_or_default log.threads t thread no_thread l in
    d ∙ ap (λ (x : List Entry). slice_index_or x n entry) (c ∙ ap (λ (x : ThreadLog). x.entries) e)

-- its source is a step of one of the threads
pub source_there : (log : Log) (t n : ℕ) (entry : Entry) → IsWellFormed log → n < length (thread_of log t).entries → entry ≡ slice_index_or (thread_of log t).entries n entry →
    (source : Event) → entry.source ≡ Some source → source.thread < length log.threads
source_there log t n entry well l e source q =
    let has : HasEntry log t entry = (n, l, sym e) in
    let each = (well.threads t (entry_thread log t entry has)).each entry has in
    let taken = subst (IsTagOf log) q each.source in taken.thread

-- the search goes on by it
pub loop_on : (log : Log) (thread step : ℕ) (numbers nexts ours theirs after : List ℕ) → IsWellFormed log → IsSearched log thread step numbers nexts → ours ≡ numbers → theirs ≡ nexts →
    (t : ℕ) → HasNext log ours theirs t → (entry : Entry) → entry ≡ slice_index_or (thread_of log t).entries (number_of nexts t) entry → after ≡ raised numbers entry.source →
    IsSearched log thread step after (slice_set nexts t (number_of nexts t + 1))
loop_on log thread step numbers nexts ours theirs after well is a b t has entry here r =
    let e : number_of theirs t ≡ number_of nexts t = ap (λ (x : List ℕ). number_of x t) b in
    let f : number_of ours t ≡ number_of numbers t = ap (λ (x : List ℕ). number_of x t) a in
    let m = has.1 entry in
    let q : (slice_index_or (thread_of log t).entries (number_of theirs t) entry).first ≡ entry.first =
    ap (λ (x : ℕ). (slice_index_or (thread_of log t).entries x entry).first) e ∙ ap (λ (x : Entry). x.first) (sym here) in
    let l = has.0 in
    subst (λ (x : List ℕ). IsSearched log thread step x (slice_set nexts t (number_of nexts t + 1))) (sym r)
    (went_on log thread step numbers nexts t entry is (omega (arith, l, e)) here (omega (arith, m, f, q)) well)

-- and ends at the cut
pub loop_ends : (log : Log) (thread step : ℕ) (numbers nexts ours theirs : List ℕ) → IsWellFormed log → IsSearched log thread step numbers nexts → ours ≡ numbers → theirs ≡ nexts →
    ((t : ℕ) → t < length log.threads → HasNext log ours theirs t → ⊥) → IsCut log thread step numbers
loop_ends log thread step numbers nexts ours theirs well is a b none =
    ended log thread step numbers nexts well is (λ t d l. go t d l (cases_lt (number_of numbers t) (slice_index_or (thread_of log t).entries (number_of nexts t) d).first))
  where
    go : (t : ℕ) (d : Entry) → number_of nexts t < length (thread_of log t).entries →
        (number_of numbers t < (slice_index_or (thread_of log t).entries (number_of nexts t) d).first) ⊎ ((slice_index_or (thread_of log t).entries (number_of nexts t) d).first ≤ number_of numbers t) →
        number_of numbers t < (slice_index_or (thread_of log t).entries (number_of nexts t) d).first
    go t d l (inl m) = m
    go t d l (inr m) =
        let e : number_of theirs t ≡ number_of nexts t = ap (λ (x : List ℕ). number_of x t) b in
        let f : number_of ours t ≡ number_of numbers t = ap (λ (x : List ℕ). number_of x t) a in
        absurd (none t (entry_thread log t (slice_index_or (thread_of log t).entries (number_of nexts t) d) (Contains-get_or (thread_of log t).entries (number_of nexts t) d l)) (
          omega (arith, l, e),
          λ x.
              let p : (slice_index_or (thread_of log t).entries (number_of theirs t) x).first ≡ (slice_index_or (thread_of log t).entries (number_of nexts t) d).first =
              ap (λ (k : ℕ). (slice_index_or (thread_of log t).entries k x).first) e ∙ ap (λ (y : Entry). y.first) (get_or_default (thread_of log t).entries (number_of nexts t) x d l) in
              omega (arith, m, f, p),
        ))

-- a number that was read of a list
pub read_number : (xs : List ℕ) (t n count : ℕ) → length xs ≡ count → t < count → n ≡ slice_index_or xs t n → n ≡ number_of xs t
read_number xs t n count c l q = q ∙ get_or_default xs t n 0 (omega (arith, c, l))

-- the entry that is read is the next one of its thread, by the list of next ones
pub taken_entry : (log : Log) (t n : ℕ) (nexts : List ℕ) (threads : List ThreadLog) (thread : ThreadLog) (entries : List Entry) (entry : Entry) → threads ≡ log.threads → t < length log.threads →
    length nexts ≡ length log.threads → n ≡ slice_index_or nexts t n → thread ≡ slice_index_or threads t thread → entries ≡ thread.entries → entry ≡ slice_index_or entries n entry →
    entry ≡ slice_index_or (thread_of log t).entries (number_of nexts t) entry
taken_entry log t n nexts threads thread entries entry a l c q b d e =
    next_entry log t n threads thread entries entry a l b d e ∙
    ap (λ (x : ℕ). slice_index_or (thread_of log t).entries x entry) (read_number nexts t n (length log.threads) c l q)

-- its source is a step of a thread that has a number
pub source_in : (log : Log) (numbers nexts theirs : List ℕ) (t : ℕ) (entry : Entry) → IsWellFormed log → length numbers ≡ length log.threads → theirs ≡ nexts →
    number_of theirs t < length (thread_of log t).entries → entry ≡ slice_index_or (thread_of log t).entries (number_of nexts t) entry →
    (source : Event) → entry.source ≡ Some source → source.thread < length numbers
source_in log numbers nexts theirs t entry well c b l e source q =
    let z : number_of theirs t ≡ number_of nexts t = ap (λ (x : List ℕ). number_of x t) b in
    let r = source_there log t (number_of nexts t) entry well (omega (arith, l, z)) e source q in omega (arith, r, c)

-- one entry less is left
pub one_less : (log : Log) (nexts theirs : List ℕ) (t n : ℕ) → length nexts ≡ length log.threads → t < length log.threads → theirs ≡ nexts → number_of theirs t < length (thread_of log t).entries →
    n ≡ slice_index_or nexts t n → entries_left log.threads (slice_set nexts t (n + 1)) < entries_left log.threads nexts
one_less log nexts theirs t n c l b m q =
    let z : number_of theirs t ≡ number_of nexts t = ap (λ (x : List ℕ). number_of x t) b in
    let P : ℕ → Type 0 = λ x. entries_left log.threads (slice_set nexts t (x + 1)) < entries_left log.threads nexts in
    subst P (sym (read_number nexts t n (length log.threads) c l q)) (left-less log.threads nexts t c (omega (arith, m, z)))
