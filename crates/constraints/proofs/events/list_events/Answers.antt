use Rattle.std.proofs.Common.{◌≡◌, eqb, List, ◌∙◌, ap, subst}
use Rattle.std.specs.List.{filter_map}
use Rattle.std.specs.List.Sorted.{IsPermutation}
use Rattle.std.proofs.lemmas.List.Filters.{dedup_is}
use Rattle.std.proofs.lemmas.Result.{IfOk-weaker}
use Rattle.light_base.specs.Tags.{bits_of}
use Rattle.light_base.specs.declared.tag.Tag.{Tag}
use Rattle.constraints.specs.Positions.{event_list}
use Rattle.constraints.proofs.Listing.{sorted_tags}
use Rattle.constraints.proofs.events.list_events.Goals as goal

pub returns-clause-value : goal.returns-clause-value
returns-clause-value c =
    let d = dedup_is (λ (a b : Tag). eqb (bits_of a) (bits_of b)) c.sort_unstable.new.self.items c.dedup.new.self.items c.dedup.ensures.filtered in
    let P : List Tag → Type 0 = λ xs. IsPermutation xs c.sort_unstable.new.self.items in
    let s = sorted_tags c.args.log.now c.in_ok-tags.ensures.rules c.sort_unstable.new.self.items (subst P c.in_ok-tags.ensures.value c.sort_unstable.ensures.permutation) c.sort_unstable.ensures.sorted in
    let q = ap (filter_map (λ (tag : Tag). tag)) (c.deref.ensures.value ∙ d) ∙ s in
    IfOk-weaker c.writers.result (λ events. events.items ≡ filter_map (λ (tag : Tag). tag) c.deref.result.now) (λ events. events.items ≡ event_list c.args.log.now) (λ events h. h ∙ q) c.writers.ensures
