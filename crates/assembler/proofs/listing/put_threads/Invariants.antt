use Rattle.std.proofs.Common.{◌≡◌, ◌<◌, ◌^◌, ◌++◌, drop, take, flat_map, All}
use Rattle.machine.specs.declared.program.Instr.{Instr}
use Rattle.assembler.specs.Canonical.{thread_text}
use Rattle.assembler.proofs.listing.put_threads.Given as goal

-- the texts so far, and those of the threads that are left
abbrev pub invariant-loop-thread : goal.invariant-loop-thread
invariant-loop-thread l = record {
  written : l.out.items ++ flat_map thread_text (drop l.thread l.program.threads) ≡ l.fn.out.items ++ flat_map thread_text l.program.threads;
  numbers : All (All (λ (i : Instr). i.imm < 2 ^ 32)) (take l.thread l.program.threads);
}
