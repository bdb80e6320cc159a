use Rattle.std.proofs.Common.{◌+◌, ◌-◌, ◌/◌, sym, arith}
use Rattle.constraints.proofs.Groups.{sources_are_grouped}
use Rattle.races.proofs.Shuts.{front-more, front-less}
use Rattle.races.proofs.shut.shut_end.Goals as goal

pub loop-low-init : goal.loop-low-init
loop-low-init c =
    let b = c.group-low.ensures.begin in
    let e = c.group-low.ensures.end in
    let r = (sources_are_grouped c.args.problem.now c.args.first.word c.events-events.ensures.rules).rising c.args.thread in
    record {
      low = omega (arith, b);
      order = omega (arith, b, e, r);
      high = omega (arith, e);
      before = λ j a l. absurd (omega (arith, b, a, l));
      after = λ j a l. absurd (omega (arith, e, a, l));
    }

pub loop-low-preserved-then-shuts : goal.loop-low-preserved-then-shuts
loop-low-preserved-then-shuts c =
    let i = c.loop-low.invariant in
    let a = i.low in
    let b = i.high in
    record {
      low = omega (arith, a);
      order = omega arith;
      high = b;
      before = front-more c.args.problem.now c.args.first.word c.args.thread c.args.first.place (c.loop-low.low + (c.loop-low.high - c.loop-low.low) / 2) c.events-events.ensures.rules (omega (arith, b)) (sym c.if-shuts.ensures);
      after = i.after;
    }

pub loop-low-preserved : goal.loop-low-preserved
loop-low-preserved c =
    let i = c.loop-low.invariant in
    let a = i.low in
    let b = i.high in
    record {
      low = a;
      order = omega arith;
      high = omega (arith, b);
      before = i.before;
      after = front-less c.args.problem.now c.args.first.word c.args.thread c.args.first.place (c.loop-low.low + (c.loop-low.high - c.loop-low.low) / 2) c.events-events.ensures.rules (omega (arith, a)) (sym c.if-shuts.ensures);
    }
