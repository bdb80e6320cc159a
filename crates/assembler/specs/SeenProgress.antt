-- What the assembly so far stands for.
use Rattle.std.specs.Prelude.{◌≡◌, ◌⊎◌, Result, Ok, Err}
use Rattle.machine.specs.Programs.{code_lists}
use Rattle.assembler.specs.declared.assembly.Assembly.{Assembly}
use Rattle.assembler.specs.declared.asm_fault.AsmKind.{AsmKind}
use Rattle.assembler.specs.declared.asm_fault.AsmKind.TheVariants as kind
use Rattle.assembler.specs.Progress.{Progress}
use Rattle.assembler.specs.Seen.{scope_seen}

abbrev pub progress_of : Assembly → Progress
progress_of a = record {
  words = a.words.items;
  is_fresh = a.is_fresh;
  has_begun = a.has_begun;
  done = code_lists a.done.items;
  code = a.code.items;
  scope = scope_seen a.scope;
}

-- a step did what the definition says, or memory was refused: it came to the new value, or found this fault
abbrev pub Takes : {T : Type 0} → Result Progress AsmKind → Result T AsmKind → Progress → Type 0
Takes said (Ok done) new = said ≡ Ok new
Takes said (Err k) new = (k ≡ kind.Memory) ⊎ (said ≡ Err k)
