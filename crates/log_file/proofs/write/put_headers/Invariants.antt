use Rattle.std.proofs.Common.{◌≡◌, ◌<◌, ◌^◌, ◌++◌, take}
use Rattle.std.specs.Prelude.{All}
use Rattle.std.specs.List.{flat_map}
use Rattle.replay_model.specs.Logs.{ThreadLog}
use Rattle.log_file.specs.declared.version.Version.TheVariants.{Two}
use Rattle.log_file.specs.Spelling.{header_bytes, address_of_end}
use Rattle.log_file.proofs.write.put_headers.Given as goal

abbrev pub invariant-loop-thread : goal.invariant-loop-thread
invariant-loop-thread l = record {
  written : l.out.items ≡ l.fn.out.items ++ flat_map (header_bytes Two) (take l.thread-index l.threads);
  addresses : All (λ (t : ThreadLog). address_of_end t.end < 2 ^ 32) (take l.thread-index l.threads);
}
