use Rattle.std.proofs.Common.{List, ℕ, ◌<◌, ◌^◌, ◌++◌, ap, subst, ◌∙◌}
use Rattle.std.specs.Prelude.{All}
use Rattle.std.specs.List.{flat_map}
use Rattle.std.specs.Int.{w32, to_be_bytes}
use Rattle.replay_model.specs.Logs.{ThreadLog}
use Rattle.log_file.specs.Spelling.{taken_bytes}
use Rattle.log_file.proofs.Pieces.{flat_map-take_more, All-take_more, All-taken_all}
use Rattle.log_file.proofs.write.put_all_taken.Goals as goal

pub loop-thread-preserved : goal.loop-thread-preserved
loop-thread-preserved c = record {
  written = c.in_ok-put_numbers.ensures.written ∙ ap (λ (ns : List ℕ). c.loop-thread.out.items ++ flat_map (to_be_bytes w32) ns) c.taken.ensures ∙
      ap (λ (bytes : List ℕ). bytes ++ taken_bytes c.thread-item.result) c.loop-thread.invariant.written ∙
      flat_map-take_more taken_bytes c.args.out.now.items c.args.threads.now c.loop-thread.thread-index c.thread-item.result c.loop-thread-test.true c.thread-item.is;
  numbers = All-take_more (λ (t : ThreadLog). All (λ n. n < 2 ^ 32) t.taken) c.args.threads.now c.loop-thread.thread-index c.thread-item.result c.loop-thread-test.true c.thread-item.is c.loop-thread.invariant.numbers
      (subst (All (λ n. n < 2 ^ 32)) c.taken.ensures c.in_ok-put_numbers.ensures.numbers);
}

pub returns-clause-numbers : goal.returns-clause-numbers
returns-clause-numbers c = All-taken_all (λ (t : ThreadLog). All (λ n. n < 2 ^ 32) t.taken) c.args.threads.now c.loop-thread.thread-index c.loop-thread-test.false c.loop-thread.invariant.numbers
