use Rattle.std.proofs.Common.{rules, ap, ◌∙◌}
use Rattle.std.specs.FinMap.{get}
use Rattle.light_base.proofs.KeptFiles.{get-insert_other}
use Rattle.light_base.proofs.mem_store.MemStoreStore.save.Goals as goal

pub returns-then-contains-clause-saved : goal.returns-then-contains-clause-saved
returns-then-contains-clause-saved c = record {
  unsound = search rules;
  counted = search rules;
  others = λ other differs. ap (λ m. get m other) c.in_ok-keep.ensures.ok ∙ get-insert_other _ c.args.name.now _ other differs ∙ ap (λ s. get s.files other) c.self.view_is;
  left = search rules;
}
