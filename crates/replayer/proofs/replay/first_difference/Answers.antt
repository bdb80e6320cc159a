use Rattle.std.proofs.Common.{◌≡◌, List, length, map, subst, sym}
use Rattle.std.specs.Prelude.{MatchOption}
use Rattle.std.proofs.lemmas.List.{length-map}
use Rattle.replay_model.specs.Steps.{Tag}
use Rattle.replay_model.specs.RunLogs.{last_tags}
use Rattle.replayer.specs.Differences.{Part, part_of, tag_items, DifferFirst}
use Rattle.replayer.specs.Seats.{seat_part}
use Rattle.replayer.proofs.Comparing.{differ-in-threads, tags-found}
use Rattle.replayer.proofs.replay.first_difference.Goals as goal

pub returns-in-Some : goal.returns-in-Some
returns-in-Some c = differ-in-threads (map part_of c.args.log.now.threads) (map seat_part c.args.seats.now) c.args.log.now.last_tags (last_tags c.args.cells.now) c.in-Some.difference c.in-Some.ensures

pub returns : goal.returns
returns c =
    let parts : List Part = map seat_part c.args.seats.now in
    let P : List Tag → Type 0 = λ tags. MatchOption c.tag_difference.result (tags ≡ last_tags c.args.cells.now) (DifferFirst (tag_items (length c.args.seats.now) 0 tags) (tag_items (length c.args.seats.now) 0 (last_tags c.args.cells.now))) in
    tags-found c.tag_difference.result (map part_of c.args.log.now.threads) parts (length c.args.seats.now) c.args.log.now.last_tags (last_tags c.args.cells.now) c.in_default.ensures
    (sym (length-map c.args.seats.now seat_part)) (subst P c.finals-last_tags.ensures.value c.tag_difference.ensures)
