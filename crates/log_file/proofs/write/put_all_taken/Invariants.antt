use Rattle.std.proofs.Common.{◌≡◌, ◌<◌, ◌^◌, ◌++◌, take}
use Rattle.std.specs.Prelude.{All}
use Rattle.std.specs.List.{flat_map}
use Rattle.replay_model.specs.Logs.{ThreadLog}
use Rattle.log_file.specs.Spelling.{taken_bytes}
use Rattle.log_file.proofs.write.put_all_taken.Given as goal

abbrev pub invariant-loop-thread : goal.invariant-loop-thread
invariant-loop-thread l = record {
  written : l.out.items ≡ l.fn.out.items ++ flat_map taken_bytes (take l.thread-index l.threads);
  numbers : All (λ (t : ThreadLog). All (λ n. n < 2 ^ 32) t.taken) (take l.thread-index l.threads);
}
