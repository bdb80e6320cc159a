-- An order is a placing exactly where it has each step once, and solves the problem; and positions in a row give one.
use Rattle.std.proofs.Common.{◌≡◌, ℕ, ◌<◌, false, List, length, get_or, map, sym, ◌∙◌, ap, subst, arith}
use Rattle.std.specs.Prelude.{◌≢◌, Contains}
use Rattle.std.proofs.lemmas.Bool.{false_from_ne_true}
use Rattle.std.proofs.lemmas.List.{length-map, get_or-map, get_or_default}
use Rattle.std.proofs.lemmas.List.Elements.{All-contains}
use Rattle.light_base.specs.declared.tag.Event.{Event}
use Rattle.std.specs.Prelude.{Some, None}
use Rattle.plain_search.specs.declared.Edge.{Edge}
use Rattle.plain_search.specs.Chains.{arrow}
use Rattle.plain_search.specs.Searches.{Solves}
use Rattle.replay_model.specs.Steps.{Step}
use Rattle.replay_model.specs.Threads.{Threads, StaysWithin}
use Rattle.replay_model.specs.Logs.{Log}
use Rattle.replay_model.specs.RunLogs.{Tallies}
use Rattle.replay_model.specs.Orders.{place}
use Rattle.replay_model.specs.Fitting.{HasWritten, Fits}
use Rattle.replay_laws.proofs.Places.{place-contains, at_place}
use Rattle.audit_laws.specs.Placings.{IsPlaced, Places}
use Rattle.audit_laws.proofs.Placed.{written_word}
use Rattle.constraints.specs.Positions.{no_event}
use Rattle.constraints.proofs.Members.{of_map, in_map}
use Rattle.constraints.proofs.Ranked.{Rises, All-from}
use Rattle.audit.specs.Positions.{placed_list, placed_at, position_of}
use Rattle.audit.specs.Constraints.{placing_problem, impossible}
use Rattle.audit.specs.PlacingLaws.{HasEachOnce, places_in, PlacesIsSolving, LinesArePlacings}
use Rattle.audit.proofs.Listed.{position-at, at-position, position-below, placed_there}
use Rattle.audit.proofs.Keeping.{told, counted, never-last, places-keeps, keeps-places}
use Rattle.audit.proofs.Solving.{rank_at, solves-keeps, keeps-solves}

module _ (threads : Threads) (tallies : Tallies) (initial : List ℕ) (log : Log) (runs : List (List Step))
    (within : StaysWithin threads (length initial)) (fits : Fits threads tallies initial log runs) where
  pub inside : (e : Event) (word v : ℕ) → HasWritten runs e word v → word < length log.last_tags
  inside e word v hw = let l = written_word threads tallies initial log runs within fits e word v hw in let q = fits.words in omega (arith, l, q)

  -- the rank of a step by places is its place
  same : (order : List Event) (e : Event) → IsPlaced log runs e → rank_at log runs (places_in log runs order) e ≡ place order e
  same order e is = ap (place order) (at-position initial log runs (told threads tallies initial log runs fits) (counted threads tallies initial log runs fits) e is)

  possible : (order : List Event) → Places log runs order → impossible log runs ≡ false
  possible order places = false_from_ne_true (impossible log runs) (λ h.
      let (e, word, v, hw, q) = never-last threads tallies initial log runs fits h in
      let (z, p, l) = places.final word v e hw in no z (sym q ∙ p))
    where
      no : (z : Event) → None ≡ Some z → ⊥
      no z e = cc

  solving : (order : List Event) → Places log runs order → HasEachOnce log runs order × (impossible log runs ≡ false) × Solves (placing_problem log runs) (places_in log runs order)
  solving order places = (
    record { all = places.all; only = places.only; once = places.once },
    possible order places,
    keeps-solves initial log runs (told threads tallies initial log runs fits) (counted threads tallies initial log runs fits) inside (places_in log runs order)
        (places-keeps threads tallies initial log runs fits order (rank_at log runs (places_in log runs order)) (same order) places),
  )

  placing : (order : List Event) → HasEachOnce log runs order × (impossible log runs ≡ false) × Solves (placing_problem log runs) (places_in log runs order) → Places log runs order
  placing order (each, can, solves) = keeps-places threads tallies initial log runs fits order (rank_at log runs (places_in log runs order)) (same order) each can
      (solves-keeps initial log runs (told threads tallies initial log runs fits) (counted threads tallies initial log runs fits) inside (places_in log runs order) solves)

  -- what a row of all positions holds
  module _ (line : List ℕ) (row_within : (p : ℕ) → Contains line p → p < length (placed_list log runs)) (row_all : (p : ℕ) → p < length (placed_list log runs) → Contains line p)
      (row_once : (i j : ℕ) → i < j → j < length line → get_or line i 0 ≢ get_or line j 0) where
    abbrev order : List Event
    order = map (placed_at log runs) line

    position : (p : ℕ) → p < length (placed_list log runs) → position_of log runs (placed_at log runs p) ≡ p
    position p l = position-at initial log runs (told threads tallies initial log runs fits) (counted threads tallies initial log runs fits) p l

    -- the step at each place
    at : (i : ℕ) (d : Event) → i < length line → get_or order i d ≡ placed_at log runs (get_or line i 0)
    at i d l = get_or-map (placed_at log runs) line i 0 d l

    number : (i : ℕ) → i < length line → get_or line i 0 < length (placed_list log runs)
    number i l = row_within (get_or line i 0) (i, l, get_or_same i l)
      where
        get_or_same : (i : ℕ) → i < length line → get_or line i (get_or line i 0) ≡ get_or line i 0
        get_or_same i l = get_or_default line i (get_or line i 0) 0 l

    each_once : HasEachOnce log runs order
    each_once = record { all = all; only = only; once = once }
      where
        all : (e : Event) → IsPlaced log runs e → Contains order e
        all e is = subst (λ (x : Event). Contains order x)
            (at-position initial log runs (told threads tallies initial log runs fits) (counted threads tallies initial log runs fits) e is)
            (in_map (placed_at log runs) line (position_of log runs e) (row_all (position_of log runs e)
            (position-below initial log runs (told threads tallies initial log runs fits) (counted threads tallies initial log runs fits) e is)))

        only : (e : Event) → Contains order e → IsPlaced log runs e
        only e c =
            let (p, m, q) = of_map (placed_at log runs) line e c in
            subst (IsPlaced log runs) q (placed_there initial log runs (told threads tallies initial log runs fits) (counted threads tallies initial log runs fits) p (row_within p m))

        once : (i j : ℕ) (d : Event) → i < j → j < length order → get_or order i d ≢ get_or order j d
        once i j d l m e =
            let jl : j < length line = omega (arith, m, length-map line (placed_at log runs)) in
            let il : i < length line = omega (arith, l, jl) in
            let q : placed_at log runs (get_or line i 0) ≡ placed_at log runs (get_or line j 0) = sym (at i d il) ∙ e ∙ at j d jl in
            row_once i j l jl (sym (position (get_or line i 0) (number i il)) ∙ ap (position_of log runs) q ∙ position (get_or line j 0) (number j jl))

    -- the number at the place of a step is its position
    found : (p : ℕ) → p < length (placed_list log runs) → (places_in log runs order p < length line) × (get_or line (places_in log runs order p) 0 ≡ p)
    found p l =
        let c : Contains order (placed_at log runs p) = in_map (placed_at log runs) line p (row_all p l) in
        let k : places_in log runs order p < length order = place-contains order (placed_at log runs p) c in
        let m : places_in log runs order p < length line = omega (arith, k, length-map line (placed_at log runs)) in
        let q : placed_at log runs (get_or line (places_in log runs order p) 0) ≡ placed_at log runs p =
        sym (at (places_in log runs order p) no_event m) ∙ at_place order (placed_at log runs p) no_event k in
        (m, sym (position (get_or line (places_in log runs order p) 0) (number (places_in log runs order p) m)) ∙ ap (position_of log runs) q ∙ position p l)

pub places_is_solving : PlacesIsSolving
places_is_solving threads tallies initial log runs order within fits =
    (solving threads tallies initial log runs within fits order, placing threads tallies initial log runs within fits order)

pub lines_are_placings : LinesArePlacings
lines_are_placings threads tallies initial log runs edges line within fits can row solves =
    placing threads tallies initial log runs within fits (map (placed_at log runs) line) (
      each_once threads tallies initial log runs within fits line below row.all once,
      can,
      solves (places_in log runs (map (placed_at log runs) line)) (All-from (Rises (places_in log runs (map (placed_at log runs) line))) edges rises),
    )
  where
    below : (p : ℕ) → Contains line p → p < length (placed_list log runs)
    below p c = All-contains (λ q. q < length (placed_list log runs)) line p row.within c

    once : (i j : ℕ) → i < j → j < length line → get_or line i 0 ≢ get_or line j 0
    once i j l m = row.once i j 0 l m

    rises : (e : Edge) → Contains edges e → Rises (places_in log runs (map (placed_at log runs) line)) e
    rises e c =
        let (u, v) = All-contains (λ (x : Edge). (x.from < length (placed_list log runs)) × (x.to < length (placed_list log runs))) edges e row.ends c in
        let (i, x) = found threads tallies initial log runs within fits line below row.all once e.from u in
        let (j, y) = found threads tallies initial log runs within fits line below row.all once e.to v in
        row.rising (places_in log runs (map (placed_at log runs) line) e.from) (places_in log runs (map (placed_at log runs) line) e.to) i j
        (let q : arrow e.from e.to ≡ arrow (get_or line (places_in log runs (map (placed_at log runs) line) e.from) 0) (get_or line (places_in log runs (map (placed_at log runs) line) e.to) 0) =
        λ k. record { from = sym x k; to = sym y k } in
        subst (λ (z : Edge). Contains edges z) q c)
