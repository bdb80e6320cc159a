use Rattle.std.proofs.lemmas.List.Filters.{dedup_is}
use Rattle.constraints.proofs.Gathering.{same_read, reads_sorted, reads_in_order}
use Rattle.constraints.proofs.reads.sorted_reads.Goals as goal

pub returns-clause-order : goal.returns-clause-order
returns-clause-order c =
    reads_in_order c.sort_unstable.new.self.items c.dedup.new.self.items c.sort_unstable.ensures.sorted (dedup_is same_read c.sort_unstable.new.self.items c.dedup.new.self.items c.dedup.ensures.filtered)

pub returns-clause-reads : goal.returns-clause-reads
returns-clause-reads c = λ log formed p.
    reads_sorted log formed c.args.placed.now c.in_ok-reads.reads.items c.sort_unstable.new.self.items c.dedup.new.self.items p c.in_ok-reads.ensures c.sort_unstable.ensures.permutation
    (dedup_is same_read c.sort_unstable.new.self.items c.dedup.new.self.items c.dedup.ensures.filtered)
