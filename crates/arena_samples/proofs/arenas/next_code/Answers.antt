use Rattle.std.proofs.Common.{◌≡◌, ◌∙◌, ◌+◌, ◌*◌, ◌∷◌, [], ◌++◌, ℕ, List, ap, sym, refl}
use Rattle.machine.specs.declared.program.Instr.{Instr}
use Rattle.machine.specs.declared.program.Op.TheVariants as op
use Rattle.arena_samples.specs.Draws.{state_after}
use Rattle.arena_samples.specs.Arenas.{instr, move_code, move_from, moves_code}
use Rattle.arena_samples.proofs.Ranges.{flat_map_more}
use Rattle.arena_samples.proofs.Drawing.{state_after-more}
use Rattle.arena_samples.proofs.arenas.next_code.Goals as goal

pub loop-i-init : goal.loop-i-init
unfolding state_after
loop-i-init c = record {
  code = c.in_ok-push.ensures.items ∙ ap (λ is. is ++ c.instr.result ∷ []) c.in_ok-code.ensures.items ∙ ap (λ i. i ∷ []) c.instr.ensures;
  state = refl;
}

pub loop-i-preserved : goal.loop-i-preserved
loop-i-preserved c =
    let x : ℕ = c.args.draws.now.state in
    let i : ℕ = c.loop-i.i in
    let code : ℕ → List Instr = λ n. move_code (1 + 16 * n) (move_from (state_after x (3 * n))) in
    let more : moves_code x (i + 1) ≡ moves_code x i ++ code i = flat_map_more code i in
    let chosen : c.next_move-chosen.result ≡ move_from (state_after x (3 * i)) = c.next_move-chosen.ensures.chosen ∙ ap move_from c.loop-i.invariant.state in
    record {
      code =
          c.in_ok-extend_from_slice.ensures.items ∙
          ap (λ is. is ++ c.instrs_of.result) c.loop-i.invariant.code ∙
          ap (λ is. instr op.Const 2 0 1 ∷ (moves_code x i ++ is)) (c.instrs_of.ensures ∙ ap (move_code (1 + 16 * i)) chosen) ∙
          ap (λ is. instr op.Const 2 0 1 ∷ is) (sym more);
      state = c.next_move-chosen.ensures.state ∙ state_after-more x c.loop-i.draws.state 3 i c.loop-i.invariant.state;
    }
