use Rattle.std.proofs.Common.{arith, ◌∙◌, sym}
use Rattle.assembler.specs.Seen.{scope_seen, parts_seen}
use Rattle.assembler.proofs.Scopes.{text_end, text_more, text_done}
use Rattle.assembler.proofs.scope.Scope.of.Goals as goal

pub loop-rest-preserved : goal.loop-rest-preserved
loop-rest-preserved c = record {
  same = text_more (scope_seen c.loop-rest.scope) (scope_seen c.add_line.new.self) _ c.loop-rest.number (parts_seen c.read_line-parts.result) c.loop-rest.rest.now c.split_line.result.0.now
      c.split_line.result.1.now c.read_line-parts.ensures c.split_line.ensures.lines (sym c.begins_thread.ensures ∙ c.if-begins_thread.false) c.in_ok-add_line.ensures.ok c.loop-rest.invariant.same;
  lines = omega arith;
  instructions = omega (arith, c.add_line.ensures.len);
}

pub returns-then-begins_thread : goal.returns-then-begins_thread
returns-then-begins_thread c =
    text_end (scope_seen c.loop-rest.scope) _ c.loop-rest.number (parts_seen c.read_line-parts.result) c.loop-rest.rest.now c.split_line.result.0.now c.split_line.result.1.now
    c.read_line-parts.ensures c.split_line.ensures.lines (sym c.begins_thread.ensures ∙ c.if-begins_thread.true) c.loop-rest.invariant.same

pub returns : goal.returns
returns c = text_done (scope_seen c.loop-rest.scope) _ c.loop-rest.number c.loop-rest.rest.now (grind (arith, c.is_empty.ensures, c.loop-rest-test.false)) c.loop-rest.invariant.same
