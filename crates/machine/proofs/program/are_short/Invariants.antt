use Rattle.std.proofs.Common.{◌≡◌, drop}
use Rattle.std.specs.List.{list_all}
use Rattle.machine.specs.Programs.{code_lists}
use Rattle.machine.specs.Faults.{is_short_code}
use Rattle.machine.proofs.program.are_short.Given as goal

abbrev pub invariant-loop-code : goal.invariant-loop-code
invariant-loop-code l = list_all is_short_code (code_lists (drop l.code-index l.threads)) ≡ list_all is_short_code (code_lists l.threads)
