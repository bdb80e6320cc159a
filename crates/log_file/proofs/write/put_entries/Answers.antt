use Rattle.std.proofs.Common.{List, ℕ, ◌++◌, ap, ◌∙◌}
use Rattle.log_file.specs.Spelling.{entry_bytes}
use Rattle.log_file.proofs.Pieces.{flat_map-take_more}
use Rattle.log_file.proofs.write.put_entries.Goals as goal

pub loop-entry-preserved : goal.loop-entry-preserved
loop-entry-preserved c =
    c.in_ok-put_entry.ensures ∙ ap (λ (bytes : List ℕ). bytes ++ entry_bytes c.entry-item.result) c.loop-entry.invariant ∙
    flat_map-take_more entry_bytes c.args.out.now.items c.args.entries.now c.loop-entry.entry-index c.entry-item.result c.loop-entry-test.true c.entry-item.is
