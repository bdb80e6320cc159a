use Rattle.std.proofs.Common.{List, ℕ, ◌<◌, ◌^◌, ◌++◌, ap, ◌∙◌}
use Rattle.replay_model.specs.Logs.{ThreadLog}
use Rattle.log_file.specs.declared.version.Version.TheVariants.{Two}
use Rattle.log_file.specs.Spelling.{header_bytes, address_of_end}
use Rattle.log_file.proofs.Pieces.{flat_map-take_more, All-take_more, All-taken_all}
use Rattle.log_file.proofs.write.put_headers.Goals as goal

pub loop-thread-preserved : goal.loop-thread-preserved
loop-thread-preserved c = record {
  written = c.in_ok-put_header.ensures.written ∙ ap (λ (bytes : List ℕ). bytes ++ header_bytes Two c.thread-item.result) c.loop-thread.invariant.written ∙
      flat_map-take_more (header_bytes Two) c.args.out.now.items c.args.threads.now c.loop-thread.thread-index c.thread-item.result c.loop-thread-test.true c.thread-item.is;
  addresses = All-take_more (λ (t : ThreadLog). address_of_end t.end < 2 ^ 32) c.args.threads.now c.loop-thread.thread-index c.thread-item.result c.loop-thread-test.true c.thread-item.is c.loop-thread.invariant.addresses
      c.in_ok-put_header.ensures.address;
}

pub returns-clause-addresses : goal.returns-clause-addresses
returns-clause-addresses c = All-taken_all (λ (t : ThreadLog). address_of_end t.end < 2 ^ 32) c.args.threads.now c.loop-thread.thread-index c.loop-thread-test.false c.loop-thread.invariant.addresses
