use Rattle.std.proofs.Common.{◌≡◌, ℕ, List, ◌∙◌, sym, subst, true, false, Option, None, Some, Ok}
use Rattle.machine.specs.declared.program.Instr.{Instr}
use Rattle.machine.specs.Programs.{ProgramValue, IsProgram, code_lists}
use Rattle.machine.specs.Faults.{ok_unless}
use Rattle.machine.specs.declared.image_fault.ImageFault.{ImageFault}
use Rattle.arena_samples.specs.Arenas.{arena_of}
use Rattle.arena_samples.proofs.Sound.{arena_sound}
use Rattle.arena_samples.proofs.arenas.arena.Goals as goal

-- what is answered where there is no fault
program_if_ok : (fault : Option ImageFault) (p q : ProgramValue) → Ok q ≡ ok_unless fault p → q ≡ p
program_if_ok None p q h = cc
program_if_ok (Some fault) p q h = cc

-- the program of equal words and equal codes
program_of : {words words' : List ℕ} {codes codes' : List (List Instr)} → words ≡ words' → codes ≡ codes' → let P : Type 0 = ProgramValue in ◌≡◌ {A = P} (record { words = words; threads = codes }) (record { words = words'; threads = codes' })
program_of h k = cc

pub unreachable-requires : goal.unreachable-requires
unfolding arena_of
unreachable-requires c =
    let same : record { words = c.in_ok-words.words.items; threads = code_lists c.in_ok-codes.codes.items } ≡ arena_of c.args.number =
    program_of c.in_ok-words.ensures c.in_ok-codes.ensures in
    let ok : false ≡ true = c.in-Err.ensures.exact.1 (subst IsProgram (sym same) (arena_sound c.args.number)) in
    cc

pub returns : goal.returns
unfolding arena_of
returns c =
    program_if_ok _ _ _ c.in-Ok.ensures.value ∙ program_of c.in_ok-words.ensures c.in_ok-codes.ensures
