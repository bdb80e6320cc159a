use Rattle.std.proofs.Common.{◌≡◌, ◌++◌, drop}
use Rattle.std.specs.List.{flat_map}
use Rattle.transcript.specs.Transcripts.{BeginsWith, out_line}
use Rattle.transcript.proofs.lines.put_outputs.Given as goal

abbrev pub invariant-loop-value : goal.invariant-loop-value
invariant-loop-value l = record {
  line : l.initial.text.items ++ flat_map out_line l.output ≡ l.text.items ++ flat_map out_line (drop l.value-index l.output);
  begins : BeginsWith l.text.items l.initial.text.items;
}
