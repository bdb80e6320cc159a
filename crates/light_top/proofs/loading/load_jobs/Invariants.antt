use Rattle.std.proofs.Common.{◌≡◌, ◌≤◌, length, IfSome}
use Rattle.std.specs.Prelude.{All, vec_capacity}
use Rattle.batch.specs.Jobs.{IsShort}
use Rattle.light_top.proofs.JobsLoaded.{AreSoFar}
use Rattle.light_top.proofs.loading.load_jobs.Given as goal

abbrev pub invariant-loop-pair : goal.invariant-loop-pair
invariant-loop-pair g l = record {
  same : g.S.Store.told l.store ≡ g.S.Store.told l.fn.store;
  so_far : IfSome (g.S.Store.told l.fn.store).files (AreSoFar l.pairs l.pair-index l.jobs.items);
  short : All IsShort l.jobs.items;
  count : length l.jobs.items ≡ l.pair-index;
  room : length l.pairs ≤ vec_capacity l.jobs;
}
