-- Orders that respect a well-formed log: each event has a tag, and they are few. And what rows of positions say of them.
use Rattle.std.proofs.Common.{◌≡◌, ℕ, ◌^◌, ◌<◌, ◌≤◌, true, false, eqb, Some, List, length, get_or, map, refl, sym, ◌∙◌, ap, subst, arith, inl, inr, ◌⊎◌}
use Rattle.std.specs.Prelude.{Contains, All, filter, [], ◌∷◌, ◌++◌}
use Rattle.std.specs.List.{flat_map, range_with_len, list_any, IsDistinct}
use Rattle.std.proofs.lemmas.Bool.{cases_Bool, cases_lt, both_ways, eqb-true, false_from_ne_true}
use Rattle.std.proofs.lemmas.Cmp.{nat_eq_equiv}
use Rattle.std.proofs.lemmas.List.{length-map, length-append, get_or-map}
use Rattle.std.proofs.lemmas.List.Concat.{length-flat_map}
use Rattle.std.proofs.lemmas.List.Sums.{sum_by-le}
use Rattle.std.proofs.lemmas.List.FromFn.{length-range_with_len}
use Rattle.std.proofs.lemmas.List.Elements.{Contains-get_or, All-contains}
use Rattle.std.proofs.lemmas.Map.Keys.{IsDistinct-from_apart}
use Rattle.std.proofs.lemmas.Map.Steps.{length-le_from_distinct_below}
use Rattle.std.proofs.lemmas.Map.Made.{length-le_from_is_member}
use Rattle.std.proofs.lemmas.Map.Views.{list_any-from_Contains, Contains-from_any}
use Rattle.light_base.specs.Tags.{HasTag, bits_of, writer_of}
use Rattle.light_base.specs.declared.tag.Event.{Event}
use Rattle.light_base.specs.declared.tag.Tag.{Tag}
use Rattle.light_base.proofs.Tags.{writer_of-bits_of}
use Rattle.plain_search.specs.Searches.{Pair, problem_of, Solves, outcome}
use Rattle.replay_model.specs.declared.Entry.{Entry}
use Rattle.replay_model.specs.Logs.{Log, thread_of}
use Rattle.replay_model.specs.Orders.{Respects}
use Rattle.replay_model.specs.WellFormed.{IsWellFormed}
use Rattle.constraints.specs.Positions.{thread_numbers, event_list, event_at, no_event}
use Rattle.constraints.specs.Building.{mentioned_by, mentioned_tags}
use Rattle.constraints.specs.Constraints.{sources_of, pairs_among, pairs_of, problem_of_log, longer_sides, impossible, dead, side_edges_of}
use Rattle.constraints.specs.Laws.{IsLine}
use Rattle.constraints.proofs.Members.{of_map, in_map, of_range}
use Rattle.constraints.proofs.Ranked.{All-from}
use Rattle.constraints.proofs.Listing.{event_tagged, in_mentioned}
use Rattle.constraints.proofs.Placing.{events_few}
use Rattle.constraints.proofs.Shapes.{counts-sum}
use Rattle.constraints.proofs.Sorting.{lines_are_orders, rankings_are_orders}
use Rattle.order_solver.specs.Rivals.{AreRivals, pair_in, pairs_where, pairs_from, edges_in, problem_in}
use Rattle.order_solver.specs.Logs.{rivalry_of}
use Rattle.order_solver.specs.Rooms.{side_edges_in}
use Rattle.order_solver.specs.declared.finding.Prepared.{Prepared}
use Rattle.order_solver.specs.Prepared.{HasMemoryFor, most_side_edges}
use Rattle.order_solver.specs.Findings.{IsLineOf}
use Rattle.order_solver.specs.Solving.{IsFound}
use Rattle.order_solver.proofs.OfLogs.{are_rivals}

-- a log names at most so many tags: three an entry, and one a word
named_by : (log : Log) → IsWellFormed log → (t : ℕ) → t < length log.threads → length (flat_map (mentioned_by t) (thread_of log t).entries) ≤ 49152
named_by log formed t l =
    let a = length-flat_map (mentioned_by t) (thread_of log t).entries in
    let b = sum_by-le (λ (e : Entry). length (mentioned_by t e)) 3 (thread_of log t).entries (λ k d m. omega arith) in
    let c = (formed.threads t l).entries in
    let d = formed.range.entries in
    omega (arith, a, b, c, d)

named : (log : Log) → IsWellFormed log → length (mentioned_tags log) ≤ 741376
named log formed =
    let f : ℕ → List Tag = λ t. flat_map (mentioned_by t) (thread_of log t).entries in
    let a = length-append (flat_map (λ t. flat_map (mentioned_by t) (thread_of log t).entries) (thread_numbers log)) log.last_tags in
    let b = length-flat_map (λ t. flat_map (mentioned_by t) (thread_of log t).entries) (thread_numbers log) in
    let c = sum_by-le (λ t. length (flat_map (mentioned_by t) (thread_of log t).entries)) 49152 (thread_numbers log)
    (All-from (λ t. length (flat_map (mentioned_by t) (thread_of log t).entries) ≤ 49152) (thread_numbers log)
    (λ t m. let n = of_range 0 (length log.threads) t m in named_by log formed t (omega (arith, n)))) in
    let d = length-range_with_len 0 (length log.threads) in
    let e = formed.range.threads in
    let w = formed.range.words in
    omega (arith, a, b, c, d, e, w)

abbrev number : Event → ℕ
number e = bits_of (Some e)

-- tagged events with one number are one
one_number : (x y : Event) → HasTag x → HasTag y → number x ≡ number y → x ≡ y
one_number x y h g q =
    let e : Some x ≡ Some y = sym (writer_of-bits_of (Some x) h) ∙ ap writer_of q ∙ writer_of-bits_of (Some y) g in
    cc

pub order_few : (log : Log) (order : List Event) → IsWellFormed log → Respects log order → length order < 2 ^ 28
order_few log order formed r =
    let a = length-le_from_is_member nat_eq_equiv (map number order) (map bits_of (mentioned_tags log)) distinct among in
    let b = length-map order number in
    let c = length-map (mentioned_tags log) bits_of in
    let d = named log formed in
    omega (arith, a, b, c, d)
  where
    tagged : (e : Event) → Contains order e → HasTag e
    tagged e c = event_tagged log formed e (r.only e c)

    distinct : IsDistinct eqb (map number order)
    distinct = IsDistinct-from_apart eqb (map number order) apart
      where
        apart : (i j d : ℕ) → i < j → j < length (map number order) → eqb (get_or (map number order) i d) (get_or (map number order) j d) ≡ false
        apart i j d l m = go (cases_Bool (eqb (get_or (map number order) i d) (get_or (map number order) j d)))
          where
            x : Event
            x = record { thread = 0; step = 0 }

            mj : j < length order
            mj = let n = length-map order number in omega (arith, m, n)

            mi : i < length order
            mi = let n = mj in omega (arith, l, n)

            go : (eqb (get_or (map number order) i d) (get_or (map number order) j d) ≡ true) ⊎ (eqb (get_or (map number order) i d) (get_or (map number order) j d) ≡ false) →
                eqb (get_or (map number order) i d) (get_or (map number order) j d) ≡ false
            go (inl t) =
                let e = eqb-true (get_or (map number order) i d) (get_or (map number order) j d) t in
                let u = get_or-map number order i x d mi in
                let v = get_or-map number order j x d mj in
                absurd (r.once i j x l mj (one_number (get_or order i x) (get_or order j x) (tagged (get_or order i x) (Contains-get_or order i x mi)) (tagged (get_or order j x) (Contains-get_or order j x mj)) (sym u ∙ e ∙ v)))
            go (inr f) = f

    among : (q : ℕ) → list_any (eqb q) (map number order) ≡ true → list_any (eqb q) (map bits_of (mentioned_tags log)) ≡ true
    among q h =
        let c = Contains-from_any eqb-true q (map number order) h in
        let (e, m, p) = of_map number order q c in
        let k : Contains (map bits_of (mentioned_tags log)) (number e) = in_map bits_of (mentioned_tags log) (Some e) (in_mentioned log e (r.only e m)) in
        list_any-from_Contains nat_eq_equiv q (map bits_of (mentioned_tags log)) (subst (λ (n : ℕ). Contains (map bits_of (mentioned_tags log)) n) p k)

-- so an order that respects the log may be written
pub is_found : (log : Log) (order : List Event) → IsWellFormed log → Respects log order → IsFound log order
is_found log order formed r = record {
  respects = r;
  tags = All-from HasTag order (λ e c. event_tagged log formed e (r.only e c));
  few = order_few log order formed r;
}

-- where all are rivals the pairs are each of a list with each later one
all-pass : (xs : List ℕ) → filter (λ x. true) xs ≡ xs
all-pass [] = refl
all-pass (x ∷ xs) = ap (λ (ys : List ℕ). x ∷ ys) (all-pass xs)

all-rivals : (pair : ℕ → ℕ → Pair) (xs : List ℕ) → pairs_where (λ s t. true) pair xs ≡ pairs_among pair xs
all-rivals pair [] = refl
all-rivals pair (x ∷ xs) =
    ap (λ (ys : List ℕ). map (pair x) ys ++ pairs_where (λ s t. true) pair xs) (all-pass xs) ∙ ap (λ (ps : List Pair). map (pair x) xs ++ ps) (all-rivals pair xs)

same_pairs : (log : Log) → pairs_from (rivalry_of log) 0 (rivalry_of log).words ≡ pairs_of log
unfolding pairs_of
same_pairs log = words (range_with_len 0 (length log.last_tags))
  where
    words : (ws : List ℕ) → flat_map (λ w. pairs_where (λ s t. true) (pair_in (rivalry_of log) w) (sources_of log w)) ws ≡ flat_map (λ w. pairs_among (pair_in (rivalry_of log) w) (sources_of log w)) ws
    words [] = refl
    words (w ∷ ws) =
        let rest : List ℕ → List Pair = flat_map (λ v. pairs_where (λ s t. true) (pair_in (rivalry_of log) v) (sources_of log v)) in
        ap (λ (ps : List Pair). ps ++ rest ws) (all-rivals (pair_in (rivalry_of log) w) (sources_of log w)) ∙ ap (λ (ps : List Pair). pairs_among (pair_in (rivalry_of log) w) (sources_of log w) ++ ps) (words ws)

-- the search works on the log's problem
pub same_problem : (log : Log) → problem_in (rivalry_of log) ≡ problem_of_log log
same_problem log = ap (problem_of (edges_in (rivalry_of log))) (same_pairs log)

pub rivals_of : (log : Log) → IsWellFormed log → AreRivals (rivalry_of log)
rivals_of log formed = are_rivals log formed (events_few log formed)

-- a row of positions is within the list of events, and tells an order that respects the log
pub line_within : (log : Log) (line row : List ℕ) (events : List Event) → IsLineOf (rivalry_of log) line → events ≡ event_list log → row ≡ line → All (λ p. p < length events) row
line_within log line row events h e q =
    let within : All (λ p. p < length (event_list log)) line = subst (λ (n : ℕ). All (λ p. p < n) line) (counts-sum log) h.row.within in
    let all : All (λ p. p < length events) line = subst (λ (es : List Event). All (λ p. p < length es) line) (sym e) within in
    subst (λ (xs : List ℕ). All (λ p. p < length events) xs) (sym q) all

pub line_found : (log : Log) (line row : List ℕ) (events order : List Event) → IsWellFormed log → impossible log ≡ false → IsLineOf (rivalry_of log) line → events ≡ event_list log → row ≡ line →
    order ≡ map (λ p. get_or events p no_event) row → IsFound log order
line_found log line row events order formed possible h e q o = subst (IsFound log) (sym same) (is_found log (map (event_at log) line) formed respects)
  where
    same : order ≡ map (event_at log) line
    same = o ∙ ap (λ (es : List Event). map (λ p. get_or es p no_event) row) e ∙ ap (map (event_at log)) q

    respects : Respects log (map (event_at log) line)
    respects = lines_are_orders log h.edges line formed possible (subst (λ (n : ℕ). IsLine h.edges n line) (counts-sum log) h.row)
        (λ rank holds. subst (λ p. Solves p rank) (same_problem log) (h.solve rank holds))

-- where no ranking solves the problem, no order respects the log
pub none_found : (log : Log) → IsWellFormed log → ((rank : ℕ → ℕ) → Solves (problem_in (rivalry_of log)) rank → ⊥) → (order : List Event) → Respects log order → ⊥
none_found log formed h order r =
    let s = (rankings_are_orders log formed).0 (order, r) in
    h s.1.0 (subst (λ p. Solves p s.1.0) (sym (same_problem log)) s.1.1)

pub never_found : (log : Log) → IsWellFormed log → impossible log ≡ true → (order : List Event) → Respects log order → ⊥
never_found log formed i order r = both_ways (impossible log) ((rankings_are_orders log formed).0 (order, r)).0 i

-- the dead ends are those of the problem, where the log is not impossible
pub spent_found : (log : Log) (budget : ℕ) → impossible log ≡ false → budget < (outcome (problem_in (rivalry_of log))).dead → budget < dead log
spent_found log budget possible l = rw possible (subst (λ p. budget < (outcome p).dead) (same_problem log) l)

-- what the pairs may cost is what those of the log may
pub same_costs : (log : Log) → side_edges_in (rivalry_of log) ≡ side_edges_of log
same_costs log = ap longer_sides (same_pairs log)

-- such a row is no longer than the list of events
pub line_short : (log : Log) (line : List ℕ) → IsLineOf (rivalry_of log) line → length line ≤ length (event_list log)
line_short log line h = length-le_from_distinct_below line (length (event_list log)) distinct (λ q m. All-contains (λ p. p < length (event_list log)) line q within (Contains-from_any eqb-true q line m))
  where
    within : All (λ p. p < length (event_list log)) line
    within = subst (λ (n : ℕ). All (λ p. p < n) line) (counts-sum log) h.row.within

    distinct : IsDistinct eqb line
    distinct = IsDistinct-from_apart eqb line (λ i j d l m. false_from_ne_true _ (λ t. h.row.once i j d l m (eqb-true (get_or line i d) (get_or line j d) t)))

-- where memory is wanted that is taken for few side edges, there are many
pub lacks_many : (log : Log) (prepared : Prepared) → (side_edges_of log ≤ most_side_edges → HasMemoryFor (side_edges_of log) prepared) → (HasMemoryFor (side_edges_in (rivalry_of log)) prepared → ⊥) →
    most_side_edges < side_edges_of log
lacks_many log prepared took none = go (cases_lt most_side_edges (side_edges_of log))
  where
    go : (most_side_edges < side_edges_of log) ⊎ (side_edges_of log ≤ most_side_edges) → most_side_edges < side_edges_of log
    go (inl l) = l
    go (inr m) = absurd (none (subst (λ (n : ℕ). HasMemoryFor n prepared) (sym (same_costs log)) (took m)))
