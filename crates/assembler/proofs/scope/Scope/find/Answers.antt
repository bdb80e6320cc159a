use Rattle.std.proofs.Common.{◌∙◌}
use Rattle.assembler.proofs.Labels.{find_seen}
use Rattle.assembler.proofs.scope.Scope.find.Goals as goal

pub returns : goal.returns
returns c = c.copied.ensures ∙ c.get.ensures.value ∙ find_seen c.args.name.now c.args.self.now.labels.entries
