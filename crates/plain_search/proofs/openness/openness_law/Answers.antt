use Rattle.plain_search.proofs.openness.openness_law.Goals as goal
use Rattle.plain_search.proofs.Decided.{not_open_is_decided, counted, cyclic_is_stuck, solved_is_not_stuck}

pub returns-clause-decided : goal.returns-clause-decided
returns-clause-decided c = not_open_is_decided

pub returns-clause-counted : goal.returns-clause-counted
returns-clause-counted c = λ problem. counted problem.edges problem.pairs

pub returns-clause-cyclic : goal.returns-clause-cyclic
returns-clause-cyclic c = cyclic_is_stuck

pub returns-clause-solved : goal.returns-clause-solved
returns-clause-solved c = solved_is_not_stuck
