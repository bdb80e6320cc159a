-- The entries of a thread's log stand by rising first, and it has no more than there is room for.
use Rattle.std.proofs.Common.{◌≡◌, ℕ, zero, suc, ◌+◌, ◌<◌, ◌≤◌, Bool, true, false, cond, eqb, List, [], ◌∷◌, ◌++◌, length, map, take, refl, sym, ◌∙◌, ap, subst, arith}
use Rattle.std.specs.Prelude.{◌≢◌, Contains, Option, Some, None, slice_index_or, is_some}
use Rattle.std.specs.List.{list_any}
use Rattle.std.proofs.lemmas.List.{length-append, length-map, take_more, take_all}
use Rattle.std.proofs.lemmas.List.Elements.{Contains-get_or}
use Rattle.std.proofs.lemmas.Bool.{leb-false}
use Rattle.replay_model.specs.Steps.{Tag, Cell, Step, word_of, reads}
use Rattle.replay_model.specs.declared.Entry.{Entry}
use Rattle.replay_model.specs.Threads.{Threads, IsRun, no_step}
use Rattle.replay_model.specs.ThreadLogs.{numbers, least, entry_at, entries_from, thread_log, is_full}
use Rattle.replay_model.specs.MoreReads.{is_entry_for, touched, with_read}
use Rattle.replay_model.proofs.ThreadLogs.{entry_for, entries_from-comes}
use Rattle.replay_model.proofs.MoreReads.{thread_log-push, thread_log-quiet}

-- each entry has a lesser first than those after it
abbrev pub IsRising : List Entry → Type 0
IsRising es = (i j : ℕ) (d : Entry) → i < j → j < length es → (slice_index_or es i d).first < (slice_index_or es j d).first

-- one more entry in front of those that rise
pub rising-cons : (e : Entry) (es : List Entry) → ((x : Entry) → Contains es x → e.first < x.first) → IsRising es → IsRising (e ∷ es)
rising-cons e es below rising i zero d ij jl = absurd (omega arith)
rising-cons e es below rising zero (suc j) d ij jl = below (slice_index_or es j d) (Contains-get_or es j d (omega arith))
rising-cons e es below rising (suc i) (suc j) d ij jl = rising i j d (omega arith) (omega arith)

-- no entry begins before the steps that it is made of
pub entries_from-above : (whole : List Step) (n : ℕ) (rest : List Step) (entry : Entry) → Contains (entries_from whole n rest) entry → n ≤ entry.first
entries_from-above whole n rest entry c =
    let (k, cell, l, q, e, le) = entries_from-comes whole n rest entry c in
    let f : entry.first ≡ n + k = ap (λ (x : Entry). x.first) e in omega arith

-- the entries of any rest of the steps rise
pub entries_from-rising : (whole : List Step) (n : ℕ) (rest : List Step) → IsRising (entries_from whole n rest)
entries_from-rising whole n [] = λ i j d ij jl. absurd (omega arith)
entries_from-rising whole n (s ∷ rest) = at s.found (entries_from-rising whole (n + 1) rest)
  where
    at : (found : Option Cell) → IsRising (entries_from whole (n + 1) rest) → IsRising (entry_at whole n (word_of s.want) found ++ entries_from whole (n + 1) rest)
    at None ih = ih
    at (Some cell) ih = go (eqb (least (numbers (word_of s.want) cell.tag 1 whole)) n)
      where
        go : (b : Bool) → IsRising (cond b (entry_for whole n (word_of s.want) cell ∷ []) [] ++ entries_from whole (n + 1) rest)
        go false = ih
        go true = rising-cons (entry_for whole n (word_of s.want) cell) (entries_from whole (n + 1) rest)
            (λ x c. let a = entries_from-above whole (n + 1) rest x c in omega arith) ih

-- so do those of the log
pub thread_log-rising : (steps : List Step) → IsRising (thread_log steps)
unfolding thread_log
thread_log-rising steps = entries_from-rising steps 1 steps

-- an entry's first is the least number of its pair
pub thread_log-first : (steps : List Step) (entry : Entry) → Contains (thread_log steps) entry → entry.first ≡ least (numbers entry.word entry.source 1 steps)
unfolding thread_log
thread_log-first steps entry c =
    let (k, cell, l, q, e, le) = entries_from-comes steps 1 steps entry c in
    let P : Entry → Type 0 = λ x. x.first ≡ least (numbers x.word x.source 1 steps) in
    subst P (sym e) (sym le)

-- so no two entries have one pair
pub thread_log-once : (steps : List Step) (i j : ℕ) (d : Entry) → i < j → j < length (thread_log steps) →
    (slice_index_or (thread_log steps) i d).word ≡ (slice_index_or (thread_log steps) j d).word →
    (slice_index_or (thread_log steps) i d).source ≢ (slice_index_or (thread_log steps) j d).source
thread_log-once steps i j d ij jl w s =
    let a : Entry = slice_index_or (thread_log steps) i d in
    let b : Entry = slice_index_or (thread_log steps) j d in
    let r = thread_log-rising steps i j d ij jl in
    let x = thread_log-first steps a (Contains-get_or (thread_log steps) i d (omega arith)) in
    let y = thread_log-first steps b (Contains-get_or (thread_log steps) j d jl) in
    let z : least (numbers a.word a.source 1 steps) ≡ least (numbers b.word b.source 1 steps) =
    ap (λ (k : ℕ). least (numbers k a.source 1 steps)) w ∙ ap (λ (t : Tag). least (numbers b.word t 1 steps)) s in
    omega (arith, r, x, y, z)

-- one more read adds at most one entry
pub with_read-length : (word : ℕ) (tag : Tag) (n : ℕ) (entries : List Entry) → length (with_read word tag n entries) ≤ length entries + 1
with_read-length word tag n entries =
    let a = length-append (map (touched word tag n) entries) (cond (list_any (is_entry_for word tag) entries) [] (record { word = word; source = tag; first = n; last = n } ∷ [])) in
    let b = length-map entries (touched word tag n) in
    let c = one (list_any (is_entry_for word tag) entries) (record { word = word; source = tag; first = n; last = n }) in
    omega (arith, a, b, c)
  where
    one : (b : Bool) (new : Entry) → length (cond b [] (new ∷ [])) ≤ 1
    one true new = omega arith
    one false new = omega arith

-- no step, no entry
pub no_entries : length (thread_log []) ≡ 0
unfolding thread_log
no_entries = refl

-- a run whose thread reads only where there is room has no more entries than that
pub run_room : (threads : Threads) (t limit : ℕ) → ((steps : List Step) → reads (threads t steps) ≡ true → is_full limit steps ≡ false) →
    (steps : List Step) → IsRun threads t steps → length (thread_log steps) ≤ limit
run_room threads t limit room steps run =
    let all = upto (length steps) (omega arith) in
    subst (λ (x : List Step). length (thread_log x) ≤ limit) (take_all (length steps) steps (omega arith)) all
  where
    next : (k : ℕ) → k < length steps → length (thread_log (take k steps)) ≤ limit → length (thread_log (take (k + 1) steps)) ≤ limit
    next k l ih = subst (λ (x : List Step). length (thread_log x) ≤ limit) (sym (take_more steps k no_step l)) (by (slice_index_or steps k no_step).found refl)
      where
        by : (found : Option Cell) → (slice_index_or steps k no_step).found ≡ found → length (thread_log (take k steps ++ slice_index_or steps k no_step ∷ [])) ≤ limit
        by None q = subst (λ (x : List Entry). length x ≤ limit) (sym (thread_log-quiet (take k steps) (slice_index_or steps k no_step) q)) ih
        by (Some cell) q =
            let r : reads (threads t (take k steps)) ≡ true = ap reads (run.wants k l) ∙ sym (run.found k l) ∙ ap is_some q in
            let f : length (thread_log (take k steps)) < limit = leb-false limit (length (thread_log (take k steps))) (room (take k steps) r) in
            let w = with_read-length (word_of (slice_index_or steps k no_step).want) cell.tag (length (take k steps) + 1) (thread_log (take k steps)) in
            subst (λ (x : List Entry). length x ≤ limit) (sym (thread_log-push (take k steps) (slice_index_or steps k no_step) cell q)) (omega arith)

    upto : (k : ℕ) → k ≤ length steps → length (thread_log (take k steps)) ≤ limit
    upto zero l = let n = no_entries in omega (arith, n)
    upto (suc k) l =
        let z : k + 1 ≡ suc k = omega arith in
        subst (λ (n : ℕ). length (thread_log (take n steps)) ≤ limit) z (next k (omega arith) (upto k (omega arith)))
