use Rattle.std.proofs.Common.{◌≡◌, None, ◌∙◌, arith}
use Rattle.assembler.specs.Labels.{find_label}
use Rattle.assembler.specs.Seen.{labels_seen}
use Rattle.assembler.proofs.Labels.{labels_push, with_new}
use Rattle.assembler.proofs.scope.Scope.add_label.Goals as goal

pub returns-in_ok-insert-clause-ok : goal.returns-in_ok-insert-clause-ok
returns-in_ok-insert-clause-ok c =
    let none : find_label c.args.name.now (labels_seen c.args.self.now.labels) ≡ None = grind (arith, c.find.ensures, c.is_none.ensures, c.if-is_none.true) in
    labels_push c.args.self.now.labels c.insert.new.self c.args.name _ c.in_ok-insert.ensures.entries none ∙ with_new _ _ _ none
