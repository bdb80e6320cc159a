use Rattle.std.proofs.Common.{Ok, Err, ◌∙◌, arith}
use Rattle.std.proofs.lemmas.Result.{err_from_is_err_and}
use Rattle.machine.specs.Programs.{ProgramValue, code_lists}
use Rattle.machine.proofs.ImageLaws.{only_is, refused_is, image_takes}
use Rattle.machine.proofs.image.read_image.Goals as goal

pub returns-in_err-words-clause-only : goal.returns-in_err-words-clause-only
returns-in_err-words-clause-only c =
    let p = err_from_is_err_and c.from_residual.result c.from_residual.ensures.1 in
    rw (p.1, p.2) (λ q image. only_is c.args.bytes.now (Err c.in_err-words.field-0.0) q c.in_err-words.ensures image)

pub returns-in_err-words-clause-refused : goal.returns-in_err-words-clause-refused
returns-in_err-words-clause-refused c =
    let p = err_from_is_err_and c.from_residual.result c.from_residual.ensures.1 in
    rw (p.1, p.2) (refused_is c.args.bytes.now (Err c.in_err-words.field-0.0) c.in_err-words.ensures)

pub sound-requires : goal.sound-requires
sound-requires c =
    let value : ProgramValue = record { words = c.in_ok-words.words.items; threads = code_lists c.in_ok-words.threads.items } in
    (image_takes c.args.bytes.now value (λ i. omega (arith, c.type_inv.bytes i)) c.in_ok-words.ensures).rules

pub returns-clause-found : goal.returns-clause-found
returns-clause-found c =
    let value : ProgramValue = record { words = c.in_ok-words.words.items; threads = code_lists c.in_ok-words.threads.items } in
    rw c.sound.ensures (image_takes c.args.bytes.now value (λ i. omega (arith, c.type_inv.bytes i)) c.in_ok-words.ensures)

pub returns-clause-only : goal.returns-clause-only
returns-clause-only c =
    let value : ProgramValue = record { words = c.in_ok-words.words.items; threads = code_lists c.in_ok-words.threads.items } in
    λ q image. c.sound.ensures ∙ only_is c.args.bytes.now (Ok value) q c.in_ok-words.ensures image
