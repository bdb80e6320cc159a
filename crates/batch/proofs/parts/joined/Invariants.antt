use Rattle.std.proofs.Common.{◌≡◌, ◌<◌, ◌++◌, ℕ, drop, Result}
use Rattle.std.specs.Global.{Vec}
use Rattle.std.specs.Prelude.{IsOk, slice_index_or}
use Rattle.std.specs.List.{flat_map}
use Rattle.light_base.specs.declared.memory.Memory.{Memory}
use Rattle.batch.specs.Parts.{verdicts_in}
use Rattle.batch.specs.declared.verdict.Verdict.{Verdict}
use Rattle.batch.proofs.parts.joined.Given as goal

abbrev pub invariant-loop-part : goal.invariant-loop-part
invariant-loop-part l = record {
  done : (k : ℕ) (d : Result (Vec Verdict) Memory) → k < l.part-index → IsOk (slice_index_or l.parts k d);
  order : flat_map verdicts_in l.parts ≡ l.all.items ++ flat_map verdicts_in (drop l.part-index l.parts);
}
