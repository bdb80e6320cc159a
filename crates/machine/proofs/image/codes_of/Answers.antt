use Rattle.std.proofs.Common.{◌≡◌, ◌+◌, ◌++◌, ◌∷◌, [], drop, sum, get_or, refl, ◌∙◌, ap, arith}
use Rattle.std.specs.Global.{Vec}
use Rattle.std.proofs.lemmas.Result.{err_from_is_err_and}
use Rattle.std.proofs.lemmas.List.{map_push, drop_more}
use Rattle.machine.specs.Programs.{Instr, code_lists}
use Rattle.machine.specs.ImageReading.{codes_at}
use Rattle.machine.proofs.ImageSteps.{sum-cons, codes_go_on, codes_stop, codes_end}
use Rattle.machine.proofs.image.codes_of.Goals as goal

pub returns-in_err-code : goal.returns-in_err-code
returns-in_err-code c =
    let p = err_from_is_err_and c.from_residual-in_err-code.result c.from_residual-in_err-code.ensures.1 in
    let lens = c.args.lengths.now in
    let t = c.loop-thread.thread in
    rw (p.1, p.2) (λ h. codes_stop t (get_or lens t 0) lens c.loop-thread.rest.now c.in_err-code.field-0.0 (code_lists c.loop-thread.codes.items) (codes_at 0 lens c.args.bytes.now) c.loop-thread-test.true refl (c.in_err-code.ensures h) c.loop-thread.invariant.read)

pub loop-thread-preserved : goal.loop-thread-preserved
loop-thread-preserved c =
    let lens = c.args.lengths.now in
    let t = c.loop-thread.thread in
    let len = get_or lens t 0 in
    let code = c.in_ok-code.code in
    let front : code_lists c.push.new.self.items ≡ code_lists c.loop-thread.codes.items ++ code.items ∷ [] = rw c.in_ok-push.ensures.items (map_push (λ (v : Vec Instr). v.items) c.loop-thread.codes.items code) in
    let total : sum (drop t lens) ≡ len + sum (drop (t + 1) lens) = ap sum (drop_more lens t 0 c.loop-thread-test.true) ∙ sum-cons len (drop (t + 1) lens) in
    record {
      read = rw (front, c.split_at.ensures.back) (codes_go_on t len lens c.loop-thread.rest.now code.items (code_lists c.loop-thread.codes.items) (codes_at 0 lens c.args.bytes.now) c.loop-thread-test.true refl c.in_ok-code.ensures c.loop-thread.invariant.read);
      there = omega (arith, total, c.split_at.ensures.back_len, c.loop-thread.invariant.there);
    }

pub returns : goal.returns
returns c =
    codes_end c.loop-thread.thread c.args.lengths.now c.loop-thread.rest.now (code_lists c.loop-thread.codes.items) (codes_at 0 c.args.lengths.now c.args.bytes.now) c.loop-thread-test.false c.loop-thread.invariant.read
