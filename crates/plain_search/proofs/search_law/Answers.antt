use Rattle.std.proofs.lemmas.Bool.{both_ways, false_from_ne_true}
use Rattle.plain_search.proofs.search_law.Goals as goal
use Rattle.plain_search.proofs.Choosing.{search-counts, outcome-begun, outcome-solved, solved-outcome, solved-choice, choice-solved}
use Rattle.plain_search.proofs.Bound.{few}

pub returns-clause-choice : goal.returns-clause-choice
returns-clause-choice c = λ problem.
    (λ t. let s = outcome-solved problem t in solved-choice problem s.0 s.1, λ h. let s = choice-solved problem h in solved-outcome problem s.0 s.1)

pub returns-clause-solved : goal.returns-clause-solved
returns-clause-solved c = λ problem. (outcome-solved problem, λ s. solved-outcome problem s.0 s.1)

pub returns-clause-none : goal.returns-clause-none
returns-clause-none c = λ problem.
    (λ n rank s. both_ways _ n (solved-outcome problem rank s), λ none. false_from_ne_true _ (λ t. let s = outcome-solved problem t in none s.0 s.1))

pub returns-clause-few : goal.returns-clause-few
returns-clause-few c = few

pub returns-clause-some : goal.returns-clause-some
returns-clause-some c = λ problem a.
    rw (outcome-begun problem a) (search-counts problem.pairs problem.edges)
