use Rattle.cut_laws.proofs.cut_play_law.Goals as goal
use Rattle.cut_laws.proofs.Cuts.{cut_shown, cut_on_track, cut_comes, history_stops}

pub returns-clause-shows : goal.returns-clause-shows
returns-clause-shows c = λ threads tallies initial log runs order thread step cut within stops fits respects inside is.
    cut_shown threads tallies initial log runs fits order thread step cut within stops respects inside is

pub returns-clause-on_track : goal.returns-clause-on_track
returns-clause-on_track c = λ threads tallies initial log runs order thread step cut within stops fits respects inside is.
    cut_on_track threads tallies initial log runs fits order thread step cut within stops respects inside is

pub returns-clause-comes : goal.returns-clause-comes
returns-clause-comes c = λ threads tallies initial log runs order thread step cut within stops fits respects there inside is.
    cut_comes threads tallies initial log runs fits order thread step cut within stops respects inside is there

pub returns-clause-history : goal.returns-clause-history
returns-clause-history c = history_stops
