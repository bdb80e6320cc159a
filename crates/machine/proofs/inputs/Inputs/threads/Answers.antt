use Rattle.std.proofs.Common.{ℕ, ◌<◌, length, ap, arith}
use Rattle.std.specs.Global.{Vec}
use Rattle.std.proofs.lemmas.List.{length-map}
use Rattle.machine.specs.Inputs.{input_lists}
use Rattle.machine.proofs.InputLists.{list_at, short_list}
use Rattle.machine.proofs.inputs.Inputs.threads.Goals as goal

pub returns-clause-short : goal.returns-clause-short
returns-clause-short c =
    let lists = c.self.inside.threads.items in
    let same = ap length c.self.view_is in
    let there : c.args.thread < length lists = omega (arith, same, length-map lists (λ (list : Vec ℕ). list.items), c.requires) in
    let at = ap length (list_at lists c.args.thread c.index.result.now there c.index.ensures) in
    let short = short_list (input_lists lists) c.self.invariant.short c.args.thread in
    let found = ap length c.deref.ensures.value in
    omega (arith, at, short, found)
