use Rattle.std.proofs.Common.{List, ◌∙◌, ap}
use Rattle.std.specs.List.{list_any}
use Rattle.light_base.specs.declared.tag.Tag.{Tag}
use Rattle.audit.specs.Gathering.{to_initial}
use Rattle.audit.proofs.Gathered.{tells_impossible}
use Rattle.audit.proofs.placed.is_impossible.Goals as goal

pub returns : goal.returns
returns c threads tallies initial runs fits are =
    c.has_to_initial.ensures ∙ ap (λ (tags : List Tag). list_any (to_initial tags) c.args.writes.now) c.finals.ensures.value ∙
    tells_impossible threads tallies initial c.args.log.now runs c.args.writes.now fits are
