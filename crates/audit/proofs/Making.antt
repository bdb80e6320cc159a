-- The tables of a search for a placing are made of what was gathered.
use Rattle.std.proofs.Common.{◌≡◌, ℕ, ◌-◌, ◌<◌, ◌^◌, List, [], length, get_or, map, eqb, sym, ◌∙◌, ap, subst, arith}
use Rattle.std.specs.Prelude.{Contains, All, Option, option_map}
use Rattle.std.specs.List.{filter_map, range_with_len, count_by}
use Rattle.std.proofs.lemmas.List.{length-map, get_or-map, get_or_default}
use Rattle.std.proofs.lemmas.List.Elements.{Contains-get_or}
use Rattle.light_base.specs.Tags.{HasTag}
use Rattle.light_base.specs.declared.tag.Event.{Event}
use Rattle.plain_search.specs.declared.Edge.{Edge}
use Rattle.replay_model.specs.Steps.{Step}
use Rattle.replay_model.specs.Logs.{Log, ThreadLog}
use Rattle.replay_model.specs.Orders.{place}
use Rattle.replay_model.specs.WellFormed.{IsWellFormed}
use Rattle.replay_model.proofs.Moves.{in_range}
use Rattle.replay_model.proofs.RunLogs.{logged_threads, logged_thread}
use Rattle.machine.specs.Programs.{ProgramValue}
use Rattle.machine.specs.Laws.{taken_in}
use Rattle.machine.specs.Runs.{threads_of, tallies_of}
use Rattle.machine.proofs.Runs.{stays_within}
use Rattle.history.specs.HistoryLogs.{FitsProgram}
use Rattle.replay_laws.proofs.Skip.{Told}
use Rattle.audit_laws.proofs.Placed.{written_word}
use Rattle.constraints.specs.declared.placed.Placed.{Placed}
use Rattle.replayer.specs.declared.notes.Written.{Written}
use Rattle.replayer.specs.Notes.{AreWrites}
use Rattle.audit.specs.declared.rows.Mark.{Mark}
use Rattle.audit.specs.Positions.{placed_list, placed_counts}
use Rattle.audit.specs.Constraints.{writes_to, base_of}
use Rattle.audit.specs.Rows.{AreRows}
use Rattle.audit.specs.Tables.{HasSteps, placed_entries_in, write_mark, read_mark, base_in, Audited, runs_in, AreTheRows}
use Rattle.std.specs.Prelude.{Ok}
use Rattle.std.specs.Global.{Vec}
use Rattle.audit.specs.declared.placing.Case.{Case}
use Rattle.audit.specs.Gathering.{ListsPlaced}
use Rattle.audit.specs.Cases.{IsCase, case_of}
use Rattle.audit.proofs.Keeping.{told, counted}
use Rattle.audit.proofs.Rivaling.{writes-length}
use Rattle.audit.proofs.Writes.{of_writes}
use Rattle.audit.proofs.Tabling.{has-steps, writes-listed, writes-row, marks-inside, reads-row}
use Rattle.audit.proofs.Basing.{counts-are, base-is, words-inside}

-- the writes of runs that fit a log have tags
pub writes-tagged : (p : ProgramValue) (log : Log) (runs : List (List Step)) (writes : List Written) → IsWellFormed log → FitsProgram p log runs → AreWrites runs writes → All (λ (w : Written). HasTag w.event) writes
writes-tagged p log runs writes formed fits are k d l = by (get_or writes k d) (Contains-get_or writes k d l)
  where
    by : (w : Written) → Contains writes w → HasTag w.event
    by w c =
        let (v, hw) = are.only w c in
        let lo = hw.low in
        let hi = hw.high in
        let r = in_range runs w.event.thread (w.event.step - 1) (omega (arith, lo, hi)) in
        let many = logged_threads (threads_of p log.limits (taken_in log)) (tallies_of p log.limits (taken_in log)) log runs fits.logs in
        let s = ap (λ (x : ThreadLog). x.steps) (logged_thread (threads_of p log.limits (taken_in log)) (tallies_of p log.limits (taken_in log)) log runs fits.logs w.event.thread r) in
        let few = (formed.threads w.event.thread (omega (arith, r, many))).steps in
        let t = formed.range.threads in
        let m = formed.range.steps in
        record { thread = omega (arith, r, many, t); first = lo; last = omega (arith, hi, s, few, m) }

module _ (a : Audited) (formed : IsWellFormed a.log) (fits : FitsProgram a.program a.log (runs_in a)) (writes : List Written) (are : AreWrites (runs_in a) writes)
    (steps : List Event) (listed : steps ≡ placed_list a.log (runs_in a)) (small : length steps < 2 ^ 32) where
  told_here : Told a.program.words a.log (runs_in a)
  told_here = told (threads_of a.program a.log.limits (taken_in a.log)) (tallies_of a.program a.log.limits (taken_in a.log)) a.program.words a.log (runs_in a) fits

  as_many : length a.log.threads ≡ length (runs_in a)
  as_many = counted (threads_of a.program a.log.limits (taken_in a.log)) (tallies_of a.program a.log.limits (taken_in a.log)) a.program.words a.log (runs_in a) fits

  few : length (placed_list a.log (runs_in a)) < 2 ^ 32
  few = let e = ap (λ (xs : List Event). length xs) listed in omega (arith, e, small)

  pub steps-hold : (xs : List Event) → xs ≡ steps → HasSteps xs a.log
  steps-hold xs e = subst (λ (es : List Event). HasSteps es a.log) (sym (e ∙ listed)) (has-steps a.program.words a.log (runs_in a) told_here as_many few)

  pub writes-hold : (xs : List Event) → xs ≡ steps → All (λ (w : Written). Contains xs w.event) writes
  writes-hold xs e = subst (λ (es : List Event). All (λ (w : Written). Contains es w.event) writes) (sym (e ∙ listed)) (writes-listed a.program.words a.log (runs_in a) told_here as_many writes are)

  pub marks-within : (xs : List Event) (marks : List Mark) (n : ℕ) → marks ≡ map (write_mark xs) writes → n ≡ length a.log.last_tags → All (λ (m : Mark). m.row < n) marks
  marks-within xs marks n e q = subst (All (λ (m : Mark). m.row < n)) (sym e)
      (λ k d l.
      let m : k < length writes = (let z = length-map writes (write_mark xs) in omega (arith, l, z)) in
      let w = get_or writes k (record { event = record { thread = 0; step = 0 }; word = 0 }) in
      let (v, hw) = are.only w (Contains-get_or writes k (record { event = record { thread = 0; step = 0 }; word = 0 }) m) in
      let b = written_word (threads_of a.program a.log.limits (taken_in a.log)) (tallies_of a.program a.log.limits (taken_in a.log)) a.program.words a.log (runs_in a) (stays_within a.program a.log.limits (taken_in a.log)) fits w.event w.word v hw in
      let words = fits.words in
      let r = ap (λ (x : Mark). x.row) (get_or-map (write_mark xs) writes k (record { event = record { thread = 0; step = 0 }; word = 0 }) d m) in
      omega (arith, b, words, r, q))

  pub reads-within : (xs : List Event) (placed : List Placed) (marks : List Mark) (n : ℕ) → xs ≡ steps → placed ≡ placed_entries_in xs a.log → marks ≡ filter_map read_mark placed → n ≡ length steps → All (λ (m : Mark). m.row < n) marks
  reads-within xs placed marks n e p q c =
      let here = marks-inside a.program.words a.log (runs_in a) told_here as_many marks (q ∙ ap (filter_map read_mark) (p ∙ ap (λ (es : List Event). placed_entries_in es a.log) (e ∙ listed))) in
      subst (λ (k : ℕ). All (λ (m : Mark). m.row < k) marks) (sym (c ∙ ap (λ (es : List Event). length es) listed)) here

  pub words-within : (xs : List Event) (placed : List Placed) (n : ℕ) → xs ≡ steps → placed ≡ placed_entries_in xs a.log → n ≡ length a.log.last_tags → All (λ (p : Placed). p.word < n) placed
  words-within xs placed n e p q = words-inside a.program.words a.log (runs_in a) told_here as_many formed n q placed (p ∙ ap (λ (es : List Event). placed_entries_in es a.log) (e ∙ listed))

  -- the rows
  pub the-rows : (xs ys : List Event) (placed : List Placed) (sources lasts : List (List ℕ)) (marked read : List Mark) (words count : ℕ) → xs ≡ steps → ys ≡ steps → words ≡ length a.log.last_tags → count ≡ length steps →
      marked ≡ map (write_mark xs) writes → placed ≡ placed_entries_in ys a.log → read ≡ filter_map read_mark placed → AreRows words marked sources → AreRows count read lasts → AreTheRows a.log (runs_in a) sources lasts
  the-rows xs ys placed sources lasts marked read words count e f w c m p r are_writes are_reads = record {
    words = are_writes.counted ∙ w;
    written = λ word l. writes-row a.program.words a.log (runs_in a) told_here as_many writes are words sources
        (subst (λ (ms : List Mark). AreRows words ms sources) (m ∙ ap (λ (es : List Event). map (write_mark es) writes) (e ∙ listed)) are_writes) word (omega (arith, l, w));
    positions = are_reads.counted ∙ c ∙ ap (λ (es : List Event). length es) listed;
    read = λ s l. reads-row a.program.words a.log (runs_in a) told_here as_many count lasts (c ∙ ap (λ (es : List Event). length es) listed)
        (subst (λ (ms : List Mark). AreRows count ms lasts) (r ∙ ap (filter_map read_mark) (p ∙ ap (λ (es : List Event). placed_entries_in es a.log) (f ∙ listed))) are_reads) s
        (let z = ap (λ (es : List Event). length es) listed in omega (arith, l, c, z));
  }

  module _ (sources lasts : List (List ℕ)) (rows : AreTheRows a.log (runs_in a) sources lasts) where
    row-at : (k : ℕ) (d : List ℕ) → k < length sources → get_or sources k d ≡ writes_to a.log (runs_in a) k
    row-at k d l = get_or_default sources k d [] l ∙ rows.written k (let w = rows.words in omega (arith, w, l))

    pub rows-inside : (rs : List (List ℕ)) (n : ℕ) → rs ≡ sources → n ≡ length steps → All (λ row. All (λ p. p < n) row) rs
    rows-inside rs n e c = subst (All (λ row. All (λ p. p < n) row)) (sym e)
        (λ k d l. subst (λ (xs : List ℕ). All (λ p. p < n) xs) (sym (row-at k d l))
        (λ i f m.
        let b = (of_writes a.program.words a.log (runs_in a) told_here as_many k (get_or (writes_to a.log (runs_in a) k) i f) (Contains-get_or (writes_to a.log (runs_in a) k) i f m)).0 in
        let z = ap (λ (es : List Event). length es) listed in omega (arith, b, c, z)))

    pub rows-small : (rs : List (List ℕ)) → rs ≡ sources → All (λ row. length row < 2 ^ 32) rs
    rows-small rs e = subst (All (λ row. length row < 2 ^ 32)) (sym e)
        (λ k d l. subst (λ (xs : List ℕ). length xs < 2 ^ 32) (sym (row-at k d l)) (let b = writes-length a.log (runs_in a) k in let f = few in omega (arith, b, f)))

    pub lasts-long : (ls : List (List ℕ)) → ls ≡ lasts → length ls ≡ length steps
    lasts-long ls e = ap (λ (xs : List (List ℕ)). length xs) e ∙ rows.positions ∙ ap (λ (es : List Event). length es) (sym listed)

    pub base-right : (xs ys : List Event) (placed : List Placed) (last_tags : List (Option ℕ)) (base : List Edge) (ss : List (List ℕ)) → xs ≡ steps → ys ≡ steps → placed ≡ placed_entries_in xs a.log → ss ≡ sources →
        last_tags ≡ map (option_map (place ys)) a.log.last_tags → base ≡ base_in ss last_tags placed → base ≡ base_of a.log (runs_in a)
    base-right xs ys placed last_tags base ss e f p s t b =
        b ∙ ap (λ (rs : List (List ℕ)). base_in rs last_tags placed) s ∙ ap (base_in sources last_tags) (p ∙ ap (λ (es : List Event). placed_entries_in es a.log) (e ∙ listed)) ∙
        base-is a.program.words a.log (runs_in a) told_here as_many formed sources rows.words rows.written last_tags (t ∙ ap (λ (es : List Event). map (option_map (place es)) a.log.last_tags) (f ∙ listed))

  pub counts-right : (xs : List Event) (counts : List ℕ) (n : ℕ) → xs ≡ steps → n ≡ length a.log.threads → counts ≡ map (λ t. count_by (λ (e : Event). eqb e.thread t) xs) (range_with_len 0 n) → counts ≡ placed_counts a.log (runs_in a)
  counts-right xs counts n e t c =
      c ∙ ap (λ (es : List Event). map (λ t. count_by (λ (e : Event). eqb e.thread t) es) (range_with_len 0 n)) (e ∙ listed) ∙
      ap (λ (k : ℕ). map (λ t. count_by (λ (e : Event). eqb e.thread t) (placed_list a.log (runs_in a))) (range_with_len 0 k)) t ∙ counts-are a.program.words a.log (runs_in a) told_here as_many

-- what was listed for a case
pub case-listed : (c : Case) (steps : Vec Event) → IsCase c → ListsPlaced c.problem.now c.writes.now (Ok steps) → steps.items ≡ placed_list c.log.now (runs_in (case_of c))
case-listed c steps is lists =
    subst (λ (log : Log). ListsPlaced log c.writes.now (Ok steps)) is.problem lists (threads_of c.program.now c.log.now.limits (taken_in c.log.now)) (tallies_of c.program.now c.log.now.limits (taken_in c.log.now))
    c.program.now.words (runs_in (case_of c)) is.fits is.writes
