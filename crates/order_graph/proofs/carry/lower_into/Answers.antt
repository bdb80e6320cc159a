use Rattle.std.proofs.Common.{ℕ, ◌-◌, ◌<◌, List, length, sym, ap, subst, arith}
use Rattle.std.specs.Prelude.{slice_index, slice_index_or}
use Rattle.order_graph.specs.Shapes.{shape, arrow, IsNext}
use Rattle.order_graph.specs.Links.{IsLatest}
use Rattle.order_graph.proofs.Sweeping.{opening-step, clock_fits}
use Rattle.order_graph.proofs.Pulling.{chain-step, into-step, none-first, none-other, carried-chain, carried-first, IsInto, into-heads, into-more, older-at, start-fits}
use Rattle.order_graph.proofs.carry.lower_into.Goals as goal
use Rattle.order_graph.proofs.carry.lower_into.Goals.{then-place-gt0+then-lanes-place+else-not-pull, else-place-gt0, else-place-gt0-via-then-place-gt0+else-lanes-place, else-place-gt0-via-else-place-gt0}

pub returns-then-not-pull-clause-opening : goal.returns-then-not-pull-clause-opening
returns-then-not-pull-clause-opening c = λ o. opening-step (shape c.args.lanes.now c.args.edges.now) c.args.threads (c.args.node - 1) c.args.node c.args.clocks.now c.pull.new.clocks
    (chain-step c.args.lanes.now c.args.edges.now c.args.node c.if-place-gt0.true c.requires.node c.if-lanes-place.true) c.requires.node c.pull.ensures.lowering o

pub loop-at-init : goal.loop-at-init
loop-at-init c =
    let g = shape c.args.lanes.now c.args.edges.now in
    let at = slice_index c.args.heads.now c.args.node in
    let latest : IsLatest c.args.edges.now (length c.args.edges.now) c.args.node at = c.requires.linked.heads_latest c.args.node c.requires.node in
    let P = λ (clocks work : List ℕ). IsInto g c.args.threads c.args.node at c.args.clocks.now c.args.work.now.items clocks work in
    let first = λ (none : (x : ℕ) → IsNext c.args.lanes.now x c.args.node → ⊥). into-heads g c.args.threads c.args.node at c.args.clocks.now c.args.work.now.items c.args.clocks.now c.args.work.now.items latest (λ o. o)
    (carried-first g c.args.threads c.args.node c.args.clocks.now c.args.work.now.items none) in
    elim c.if-place-gt0.branch [
      | then-place-gt0+then-lanes-place+else-not-pull w ↦
          (let here = into-heads g c.args.threads c.args.node at c.args.clocks.now c.args.work.now.items w.pull.new.clocks w.pull.new.work.items latest
          (λ o. opening-step g c.args.threads (c.args.node - 1) c.args.node c.args.clocks.now w.pull.new.clocks
          (chain-step c.args.lanes.now c.args.edges.now c.args.node w.if-place-gt0.true c.requires.node w.if-lanes-place.true) c.requires.node w.pull.ensures.lowering o)
          (carried-chain g c.args.threads (c.args.node - 1) c.args.node c.args.clocks.now c.args.work.now.items w.pull.new.clocks w.pull.new.work.items (let a = w.if-place-gt0.true in omega (arith, a)) c.requires.node w.pull.ensures.lowering (w.pull.ensures.pulled w.if-not-pull.false)) in
          subst (λ (z : List ℕ). P z c.if-place-gt0.work.items) (sym w.clocks-is) (subst (λ (z : List ℕ). P w.pull.new.clocks z) (sym (ap (λ v. v.items) w.work-is)) here))
      | else-place-gt0 w ↦
          (let here : P c.args.clocks.now c.args.work.now.items = elim w.else-place-gt0.branch [
            | else-place-gt0-via-then-place-gt0+else-lanes-place w' ↦ first (λ x. none-other c.args.lanes.now c.args.node x w'.if-lanes-place.false)
            | else-place-gt0-via-else-place-gt0 w' ↦ first (λ x. none-first c.args.lanes.now c.args.node x (let a = w'.if-place-gt0.false in omega (arith, a)))
          ] in
          subst (λ (z : List ℕ). P z c.if-place-gt0.work.items) (sym w.clocks-is) (subst (λ (z : List ℕ). P c.args.clocks.now z) (sym (ap (λ v. v.items) w.work-is)) here))
    ]

pub pull-requires-in-loop-at-clause-from : goal.pull-requires-in-loop-at-clause-from
pull-requires-in-loop-at-clause-from c =
    let t = c.loop-at-test.true in
    let w = c.loop-at.invariant.within in
    let l : c.loop-at.at - 1 < length c.args.edges.now = omega (arith, t, w) in
    let m = clock_fits c.args.threads c.args.lanes.now c.args.edges.now (length c.args.clocks.now) _ c.requires.room (start-fits c.args.threads c.args.lanes.now c.args.edges.now (length c.args.clocks.now) (c.loop-at.at - 1) c.requires.room l) in
    let e = c.loop-at.auto.clocks in omega (arith, m, e)

pub returns-then-not-pull-2-clause-opening : goal.returns-then-not-pull-2-clause-opening
returns-then-not-pull-2-clause-opening c = λ o.
    let t = c.loop-at-test.true in
    let w = c.loop-at.invariant.within in
    let l : c.loop-at.at - 1 < length c.args.edges.now = omega (arith, t, w) in
    opening-step (shape c.args.lanes.now c.args.edges.now) c.args.threads (slice_index_or c.args.edges.now (c.loop-at.at - 1) (arrow 0 0)).from c.args.node c.loop-at.clocks c.pull-in-loop-at.new.clocks
    (into-step c.args.lanes.now c.args.edges.now (c.loop-at.at - 1) c.args.node l (c.loop-at.invariant.here (c.loop-at.at - 1) (omega (arith, t)))) c.requires.node c.pull-in-loop-at.ensures.lowering (c.loop-at.invariant.opening o)

pub loop-at-preserved : goal.loop-at-preserved
loop-at-preserved c =
    let t = c.loop-at-test.true in
    let w = c.loop-at.invariant.within in
    let l : c.loop-at.at - 1 < length c.args.edges.now = omega (arith, t, w) in
    into-more (shape c.args.lanes.now c.args.edges.now) c.args.threads c.args.node c.loop-at.at (slice_index c.args.older.now (c.loop-at.at - 1)) c.args.clocks.now c.args.work.now.items c.loop-at.clocks c.loop-at.work.items
    c.pull-in-loop-at.new.clocks c.pull-in-loop-at.new.work.items t c.requires.node (start-fits c.args.threads c.args.lanes.now c.args.edges.now (length c.args.clocks.now) (c.loop-at.at - 1) c.requires.room l)
    c.pull-in-loop-at.ensures.lowering (c.pull-in-loop-at.ensures.pulled c.if-not-pull-2.false)
    (older-at c.args.edges.now (length c.args.lanes.now) c.args.heads.now c.args.older.now (c.loop-at.at - 1) c.args.node c.requires.linked l (c.loop-at.invariant.here (c.loop-at.at - 1) (omega (arith, t)))) c.loop-at.invariant
