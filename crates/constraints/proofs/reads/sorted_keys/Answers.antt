use Rattle.std.proofs.lemmas.List.Filters.{dedup_is}
use Rattle.constraints.proofs.Gathering.{same_key, keys_sorted, keys_in_order}
use Rattle.constraints.proofs.reads.sorted_keys.Goals as goal

pub returns-clause-order : goal.returns-clause-order
returns-clause-order c =
    keys_in_order c.args.reads.now c.in_ok-keys.keys.items c.dedup.new.self.items c.requires c.in_ok-keys.ensures (dedup_is same_key c.in_ok-keys.keys.items c.dedup.new.self.items c.dedup.ensures.filtered)

pub returns-clause-keys : goal.returns-clause-keys
returns-clause-keys c = λ log formed are.
    keys_sorted log formed c.args.reads.now c.in_ok-keys.keys.items c.dedup.new.self.items are c.in_ok-keys.ensures (dedup_is same_key c.in_ok-keys.keys.items c.dedup.new.self.items c.dedup.ensures.filtered)
