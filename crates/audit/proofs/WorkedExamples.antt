-- The worked examples.
use Rattle.std.proofs.Common.{refl}
use Rattle.plain_search.specs.Edges.{is_acyclic, reaches}
use Rattle.plain_search.specs.Searches.{search}
use Rattle.replay_model.specs.Histories.{move, take_step, play}
use Rattle.replay_model.specs.ThreadLogs.{thread_log}
use Rattle.replay_model.specs.SkipPlay.{moves, turn, turns, finish}
use Rattle.constraints.specs.Positions.{event_list, counts_of}
use Rattle.constraints.specs.Constraints.{sources_of, last_reads_from, impossible as never_respected, base_of as log_edges, pairs_of as log_pairs}
use Rattle.audit.specs.Positions.{placed_list, placed_counts}
use Rattle.audit.specs.Constraints.{writes_to, last_reads_of, base_of, pairs_of}
use Rattle.audit.specs.Examples

pub forced_between : Examples.ForcedBetween
unfolding play move take_step thread_log moves turn turns finish event_list counts_of sources_of last_reads_from never_respected log_edges log_pairs placed_list placed_counts writes_to last_reads_of base_of pairs_of search is_acyclic reaches
forced_between = (record { listed = refl; counted = refl; edges = refl; sides = refl }, refl, refl)

pub blind_stores : Examples.BlindStores
unfolding play move take_step thread_log placed_list placed_counts writes_to last_reads_of base_of pairs_of search is_acyclic reaches
blind_stores = (record { listed = refl; counted = refl; edges = refl; sides = refl }, refl)

pub exchange_chain : Examples.ExchangeChain
unfolding play move take_step thread_log placed_list placed_counts writes_to last_reads_of base_of pairs_of
exchange_chain = record { listed = refl; counted = refl; edges = refl; sides = refl }
