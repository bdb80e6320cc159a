use Rattle.std.proofs.Common.{◌≡◌, ◌∙◌, ◌++◌, ap, sym, arith}
use Rattle.order_solver.specs.Readings.{reads_at, reads_up_to, reads_in}
use Rattle.order_solver.proofs.Guessed.{reads-more}
use Rattle.order_solver.proofs.guessing.all_reads.Goals as goal

pub loop-word-preserved : goal.loop-word-preserved
loop-word-preserved g c =
    let r = g.R.Rivals.rivalry c.args.rivals.now in
    c.in_ok-put_word.ensures ∙ ap (λ xs. xs ++ reads_at r c.loop-word.word) c.loop-word.invariant ∙ sym (reads-more r c.loop-word.word)

pub returns : goal.returns
unfolding reads_in
returns g c =
    let r = g.R.Rivals.rivalry c.args.rivals.now in
    let all : c.loop-word.word ≡ r.words = omega (arith, c.words-word-end.ensures) in
    c.loop-word.invariant ∙ ap (reads_up_to r) all
