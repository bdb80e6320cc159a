-- The worked examples.
use Rattle.std.proofs.Common.{refl}
use Rattle.plain_search.specs.Edges.{is_acyclic, reaches}
use Rattle.plain_search.specs.Searches.{search}
use Rattle.constraints.specs.Positions.{event_list, counts_of}
use Rattle.constraints.specs.Constraints.{sources_of, last_reads_from, base_of, pairs_of, impossible}
use Rattle.constraints.specs.Examples

pub own_write : Examples.OwnWrite
unfolding event_list counts_of sources_of last_reads_from base_of pairs_of search is_acyclic reaches
own_write = (record { listed = refl; counted = refl; edges = refl; rivals = refl }, (refl, refl))

pub initial_value : Examples.InitialValue
unfolding event_list counts_of sources_of last_reads_from base_of pairs_of search is_acyclic reaches
initial_value = (record { listed = refl; counted = refl; edges = refl; rivals = refl }, (refl, refl))

pub lost_update : Examples.LostUpdate
unfolding event_list counts_of sources_of last_reads_from base_of pairs_of search is_acyclic reaches
lost_update = (record { listed = refl; counted = refl; edges = refl; rivals = refl }, (refl, refl))

pub message_passing : Examples.MessagePassing
unfolding event_list counts_of sources_of last_reads_from base_of pairs_of search is_acyclic reaches
message_passing = (record { listed = refl; counted = refl; edges = refl; rivals = refl }, (refl, refl))

pub exchange_chain : Examples.ExchangeChain
unfolding event_list counts_of sources_of last_reads_from base_of pairs_of search is_acyclic reaches
exchange_chain = (record { listed = refl; counted = refl; edges = refl; rivals = refl }, (refl, refl))

pub no_order : Examples.NoOrder
unfolding event_list counts_of sources_of last_reads_from base_of pairs_of search is_acyclic reaches
no_order = (record { listed = refl; counted = refl; edges = refl; rivals = refl }, (refl, refl))

pub stale_read : Examples.StaleRead
unfolding event_list counts_of sources_of last_reads_from base_of pairs_of search is_acyclic reaches
stale_read = (record { listed = refl; counted = refl; edges = refl; rivals = refl }, (refl, refl))

pub own_source : Examples.OwnSource
unfolding event_list counts_of sources_of last_reads_from base_of pairs_of search is_acyclic reaches
own_source = (record { listed = refl; counted = refl; edges = refl; rivals = refl }, (refl, refl))

pub never_over : Examples.NeverOver
unfolding event_list counts_of sources_of last_reads_from base_of pairs_of search is_acyclic reaches impossible
never_over = (refl, refl, refl)

pub two_dead_ends : Examples.TwoDeadEnds
unfolding event_list counts_of sources_of last_reads_from base_of pairs_of search is_acyclic reaches
two_dead_ends = (record { listed = refl; counted = refl; edges = refl; rivals = refl }, (refl, refl), refl, refl, refl, refl)
