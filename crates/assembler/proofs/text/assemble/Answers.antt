use Rattle.std.proofs.Common.{◌≡◌, ◌⊎◌, Ok, Err, IfOk, IfErr, Result, subst, sym, ◌∙◌, arith}
use Rattle.std.proofs.lemmas.Bool.{eqb-true}
use Rattle.machine.specs.Programs.{ProgramValue}
use Rattle.assembler.specs.declared.asm_fault.AsmFault.{AsmFault}
use Rattle.assembler.specs.Assembled.{assembled, out_of_memory}
use Rattle.assembler.specs.SeenProgress.{progress_of}
use Rattle.assembler.proofs.Texts.{text_last, text_next, text_fault, finished_begun}
use Rattle.assembler.proofs.Rules.{assembled_rules}
use Rattle.assembler.proofs.LineFaults.{memory_or_line, result_line}
use Rattle.assembler.proofs.text.assemble.Goals as goal

pub returns-in-Err-clause-err : goal.returns-in-Err-clause-err
returns-in-Err-clause-err c =
    let P : AsmFault → Type 0 = λ f. (f ≡ out_of_memory) ⊎ (assembled c.args.text.now ≡ Err f) in
    subst P (sym c.at.ensures)
    (text_fault (progress_of c.loop-rest.assembly) c.loop-rest.line c.loop-rest.rest.now c.split_line.result.0.now c.split_line.result.1.now (assembled c.args.text.now) c.in-Err.kind
    c.split_line.ensures.lines c.in-Err.ensures c.loop-rest.invariant.same)

pub returns-in-Err-clause-line : goal.returns-in-Err-clause-line
returns-in-Err-clause-line c = memory_or_line c.args.text.now c.at.result (returns-in-Err-clause-err c)

pub loop-rest-preserved : goal.loop-rest-preserved
loop-rest-preserved c = record {
  same = text_next (progress_of c.loop-rest.assembly) c.loop-rest.line c.loop-rest.rest.now c.split_line.result.0.now c.split_line.result.1.now (assembled c.args.text.now) (Ok (progress_of c.take_line.new.self))
      c.split_line.ensures.lines c.in_default.ensures c.loop-rest.invariant.same;
  lines = omega arith;
}

pub finish-requires : goal.finish-requires
finish-requires c = λ b.
    assembled_rules c.args.text.now _ (sym (text_last (progress_of c.loop-rest.assembly) c.loop-rest.line c.loop-rest.rest.now (assembled c.args.text.now) (eqb-true _ _ (sym c.is_empty.ensures ∙ c.loop-rest-test.false)) c.loop-rest.invariant.same) ∙ finished_begun (progress_of c.loop-rest.assembly) c.loop-rest.line b)

pub returns-clause-ok : goal.returns-clause-ok
returns-clause-ok c =
    let P : Result ProgramValue AsmFault → Type 0 = λ t. IfOk c.finish.result (λ program. t ≡ Ok program) in
    subst P (text_last (progress_of c.loop-rest.assembly) c.loop-rest.line c.loop-rest.rest.now (assembled c.args.text.now) (eqb-true _ _ (sym c.is_empty.ensures ∙ c.loop-rest-test.false)) c.loop-rest.invariant.same) c.finish.ensures.ok

pub returns-clause-err : goal.returns-clause-err
returns-clause-err c =
    let P : Result ProgramValue AsmFault → Type 0 = λ t. IfErr c.finish.result (λ fault. (fault ≡ out_of_memory) ⊎ (t ≡ Err fault)) in
    subst P (text_last (progress_of c.loop-rest.assembly) c.loop-rest.line c.loop-rest.rest.now (assembled c.args.text.now) (eqb-true _ _ (sym c.is_empty.ensures ∙ c.loop-rest-test.false)) c.loop-rest.invariant.same) c.finish.ensures.err

pub returns-clause-line : goal.returns-clause-line
returns-clause-line c = result_line c.args.text.now c.finish.result (returns-clause-err c)
