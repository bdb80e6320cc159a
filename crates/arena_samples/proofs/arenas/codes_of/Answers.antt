use Rattle.std.proofs.Common.{◌≡◌, ◌∙◌, ◌+◌, ◌*◌, ◌∷◌, [], ◌++◌, ℕ, ap, sym, refl, arith}
use Rattle.machine.specs.Programs.{code_lists}
use Rattle.arena_samples.specs.Draws.{state_after}
use Rattle.arena_samples.specs.Arenas.{thread_code, thread_codes}
use Rattle.std.proofs.lemmas.List.{map-append}
use Rattle.std.proofs.lemmas.List.FromFn.{map-range_with_len_more}
use Rattle.arena_samples.proofs.Drawing.{state_after-more}
use Rattle.arena_samples.proofs.arenas.codes_of.Goals as goal

pub loop-init : goal.loop-init
unfolding state_after
loop-init c = record { codes = ap code_lists c.in_ok-codes.ensures.items; state = refl }

pub loop-preserved : goal.loop-preserved
loop-preserved c =
    let i : ℕ = c.loop.counter in
    let more : thread_codes c.args.number (i + 1) ≡ thread_codes c.args.number i ++ thread_code (state_after c.args.number (48 * i)) ∷ [] =
    map-range_with_len_more (λ t. thread_code (state_after c.args.number (48 * t))) 0 i i (omega arith) in
    record {
      codes =
          ap code_lists c.in_ok-push.ensures.items ∙
          map-append (λ code. code.items) c.loop.codes.items (c.in_ok-next_code.field-0 ∷ []) ∙
          ap (λ codes. codes ++ c.in_ok-next_code.field-0.items ∷ []) c.loop.invariant.codes ∙
          ap (λ code. thread_codes c.args.number i ++ code ∷ []) (c.in_ok-next_code.ensures.code ∙ ap thread_code c.loop.invariant.state) ∙
          sym more;
      state = c.in_ok-next_code.ensures.state ∙ state_after-more c.args.number c.loop.draws.state 48 i c.loop.invariant.state;
    }

pub returns : goal.returns
returns c =
    let all : c.loop.counter ≡ 8 = omega arith in
    c.loop.invariant.codes ∙ ap (thread_codes c.args.number) all
