use Rattle.constraints.proofs.laws.order_law.Goals as goal
use Rattle.constraints.proofs.Respecting.{respects_is_solving}
use Rattle.constraints.proofs.Sorting.{rankings_are_orders, search_finds_orders, lines_are_orders}

pub returns-clause-solving : goal.returns-clause-solving
returns-clause-solving c = respects_is_solving

pub returns-clause-rankings : goal.returns-clause-rankings
returns-clause-rankings c = rankings_are_orders

pub returns-clause-search : goal.returns-clause-search
returns-clause-search c = search_finds_orders

pub returns-clause-lines : goal.returns-clause-lines
returns-clause-lines c = lines_are_orders
