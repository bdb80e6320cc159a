use Rattle.std.proofs.Common.{refl}
use Rattle.std.specs.Prelude.{slice_index}
use Rattle.dep_log.proofs.Chains.{passed-start}
use Rattle.dep_log.proofs.buckets.find.Goals as goal

pub loop-at-init : goal.loop-at-init
loop-at-init c =
    passed-start c.args.entries.now c.args.heads.now c.args.older.now c.args.word c.args.source c.args.bucket (slice_index c.args.heads.now c.args.bucket) c.requires.buckets c.requires.bucket refl
