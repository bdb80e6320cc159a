use Rattle.std.proofs.Common.{subst, inl, inr}
use Rattle.light_base.specs.Stores.{StoreTold}
use Rattle.light_top.specs.Statuses.{status_of}
use Rattle.light_top.specs.Outside.{◌and◌}
use Rattle.light_top.specs.Delivery.{Delivered}
use Rattle.light_top.proofs.Ending.{is_meant}
use Rattle.light_top.proofs.top.carry_out.Goals as goal

pub returns : goal.returns
returns g c =
    let store = g.S.Store.told in
    let before = g.K.Sink.told c.args.out.now in
    let now = store c.deliver.new.store and g.K.Sink.told c.deliver.new.out in
    let given = c.in_ok-task.ensures.ok in
    inr (inl (record {
      output = c.in_ok-output.output;
      meant = is_meant (store c.args.store.now).files c.args.command c.in_ok-task.task c.in_ok-output.output given.0 c.in_ok-output.ensures.ok;
      delivered = subst (λ (told : StoreTold). Delivered c.in_ok-output.output (told and before) now (status_of c.deliver.result)) given.1 c.deliver.ensures;
    }))
