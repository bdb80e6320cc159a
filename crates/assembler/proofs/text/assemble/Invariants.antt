use Rattle.std.proofs.Common.{◌≡◌, ◌+◌, ◌≤◌, length}
use Rattle.assembler.specs.Lines.{lines_of}
use Rattle.assembler.specs.Assembled.{assembled_from, assembled}
use Rattle.assembler.specs.SeenProgress.{progress_of}
use Rattle.assembler.proofs.text.assemble.Given as goal

-- the lines that are left decide as all lines do; each line has a byte
abbrev pub invariant-loop-rest : goal.invariant-loop-rest
invariant-loop-rest l = record {
  same : assembled_from (progress_of l.assembly) l.line (lines_of l.rest) ≡ assembled l.text;
  lines : l.line + length l.rest ≤ 1 + length l.text;
}

abbrev pub decreases-loop-rest : goal.decreases-loop-rest
decreases-loop-rest l = length l.rest
