use Rattle.constraints.proofs.Placing.{listed-as, few-as, item_listed}
use Rattle.constraints.proofs.placed.place_last_tags.Goals as goal

pub place_tag-requires-clause-order : goal.place_tag-requires-clause-order
place_tag-requires-clause-order c = listed-as c.args.log.now c.args.events.now c.requires

pub place_tag-requires-clause-small : goal.place_tag-requires-clause-small
place_tag-requires-clause-small c = few-as c.args.log.now c.args.events.now c.finals-tags.ensures.rules c.requires

pub place_tag-requires-clause-listed : goal.place_tag-requires-clause-listed
place_tag-requires-clause-listed c =
    item_listed c.args.log.now c.args.events.now c.finals-tags.result.now c.loop-tag.tag-index c.tag-item.result c.finals-tags.ensures.rules c.requires c.finals-tags.ensures.value c.loop-tag-test.true c.tag-item.is
