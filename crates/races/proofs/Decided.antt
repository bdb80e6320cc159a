-- The law of pairs that are not open, for logs.
use Rattle.plain_search.specs.Openness as abstract
use Rattle.constraints.specs.Constraints.{problem_of_log}
use Rattle.constraints.specs.Laws.{RespectsIsSolving, places_in}
use Rattle.races.specs.Laws.{NotOpenIsDecided, RespectedIsNotStuck}

pub not_open_is_decided : RespectsIsSolving → abstract.NotOpenIsDecided → NotOpenIsDecided
not_open_is_decided solving decided log pair some formed respects within shut =
    let (side, all) = decided (problem_of_log log) pair (places_in log some) within ((solving log some formed).0 respects).2 shut in
    (side, λ order other. all (places_in log order) ((solving log order formed).0 other).2)

pub respected_is_not_stuck : RespectsIsSolving → abstract.SolvedIsNotStuck → RespectedIsNotStuck
respected_is_not_stuck solving solved log pair order formed respects within =
    solved (problem_of_log log) pair (places_in log order) within ((solving log order formed).0 respects).2
