use Rattle.std.proofs.Common.{◌≡◌, ◌+◌, ◌≤◌, length}
use Rattle.assembler.specs.Lines.{lines_of}
use Rattle.assembler.specs.Labels.{scope_from, no_scope}
use Rattle.assembler.specs.Seen.{scope_seen}
use Rattle.assembler.proofs.scope.Scope.of.Given as goal

-- the rest adds to the scope so far what all lines give; each line has a byte
abbrev pub invariant-loop-rest : goal.invariant-loop-rest
invariant-loop-rest l = record {
  same : scope_from (scope_seen l.scope) l.number (lines_of l.rest) ≡ scope_from no_scope l.fn.line (lines_of l.fn.text);
  lines : l.number + length l.rest ≤ l.fn.line + length l.fn.text;
  instructions : l.scope.len + length l.rest ≤ length l.fn.text;
}

abbrev pub decreases-loop-rest : goal.decreases-loop-rest
decreases-loop-rest l = length l.rest
