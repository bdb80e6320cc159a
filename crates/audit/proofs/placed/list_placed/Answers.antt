use Rattle.std.proofs.Common.{◌≡◌, eqb, List, Some, map, ◌++◌, ◌∙◌, ap, subst}
use Rattle.std.specs.List.{filter_map}
use Rattle.std.specs.List.Sorted.{IsPermutation}
use Rattle.std.proofs.lemmas.List.Filters.{dedup_is}
use Rattle.std.proofs.lemmas.Result.{IfOk-weaker}
use Rattle.light_base.specs.Tags.{bits_of}
use Rattle.light_base.specs.declared.tag.Event.{Event}
use Rattle.light_base.specs.declared.tag.Tag.{Tag}
use Rattle.replayer.specs.declared.notes.Written.{Written}
use Rattle.audit.specs.Positions.{placed_list}
use Rattle.audit.proofs.Keeping.{told, counted}
use Rattle.audit.proofs.Gathered.{events_tagged, sorted_placed}
use Rattle.audit.proofs.placed.list_placed.Goals as goal

pub gathered-requires-clause-events : goal.gathered-requires-clause-events
gathered-requires-clause-events c = events_tagged c.args.problem.now c.events-events.result.now c.events-events.ensures.rules c.events-events.ensures.value

pub returns : goal.returns
returns c threads tallies initial runs fits are =
    let d = dedup_is (λ (a b : Tag). eqb (bits_of a) (bits_of b)) c.sort_unstable.new.self.items c.dedup.new.self.items c.dedup.ensures.filtered in
    let P : List Tag → Type 0 = λ xs. IsPermutation xs c.sort_unstable.new.self.items in
    let tags : c.in_ok-tags.tags.items ≡ map (λ (e : Event). Some e) _ ++ map (λ (w : Written). Some w.event) c.args.writes.now =
    c.in_ok-tags.ensures ∙ ap (λ (es : List Event). map (λ (e : Event). Some e) es ++ map (λ (w : Written). Some w.event) c.args.writes.now) c.events-events.ensures.value in
    let s = sorted_placed initial c.args.problem.now runs (told threads tallies initial c.args.problem.now runs fits) (counted threads tallies initial c.args.problem.now runs fits)
    c.events-events.ensures.rules c.args.writes.now c.requires are c.sort_unstable.new.self.items (subst P tags c.sort_unstable.ensures.permutation) c.sort_unstable.ensures.sorted in
    let q = ap (filter_map (λ (tag : Tag). tag)) (c.deref.ensures.value ∙ d) ∙ s in
    IfOk-weaker c.writers.result (λ events. events.items ≡ filter_map (λ (tag : Tag). tag) c.deref.result.now) (λ events. events.items ≡ placed_list c.args.problem.now runs) (λ events h. h ∙ q) c.writers.ensures
