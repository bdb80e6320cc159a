use Rattle.std.specs.Prelude.{slice_index_or}
use Rattle.replay_laws.proofs.tag_law.Goals as goal
use Rattle.replay_model.specs.Steps.{word_of, no_cell}
use Rattle.replay_model.proofs.WordCells.{known_end, one_cell, tag_of_step}

pub returns-clause-cell : goal.returns-clause-cell
returns-clause-cell c initial list last folds e cell among q same =
    let known = known_end initial list last folds in
    one_cell initial list last known (word_of e.want) (slice_index_or last (word_of e.want) no_cell) cell (known.cells (word_of e.want)) (known.found e cell among q) same

pub returns-clause-step : goal.returns-clause-step
returns-clause-step c initial list last folds word event q = tag_of_step initial list last (known_end initial list last folds) word event q
