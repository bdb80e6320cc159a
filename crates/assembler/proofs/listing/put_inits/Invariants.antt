use Rattle.std.proofs.Common.{◌≡◌, ◌++◌, drop}
use Rattle.assembler.specs.Canonical.{init_lines}
use Rattle.assembler.proofs.listing.put_inits.Given as goal

-- the lines so far, and those of the words that are left
abbrev pub invariant-loop-word : goal.invariant-loop-word
invariant-loop-word l = l.out.items ++ init_lines l.word (drop l.word l.words) ≡ l.fn.out.items ++ init_lines 0 l.words
