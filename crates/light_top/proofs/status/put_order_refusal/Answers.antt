use Rattle.std.proofs.Common.{ℕ, List, [], ◌∷◌, ◌++◌, ap, ◌∙◌}
use Rattle.std.specs.Prelude.{codes}
use Rattle.std.specs.Fmt.{decimal}
use Rattle.light_top.proofs.Pieces.{pieces}
use Rattle.light_top.proofs.status.put_order_refusal.Goals as goal

pub returns : goal.returns
returns c =
    c.in_ok-put_places.ensures ∙
    ap (λ (xs : List ℕ). xs ++ ((codes " at " ++ decimal c.args.i) ++ (codes " " ++ decimal c.args.j) ++ 10 ∷ []))
    (c.in_ok-put_field.ensures ∙ ap (λ (xs : List ℕ). xs ++ (codes " kind " ++ decimal c.args.kind)) c.in_ok-extend_from_slice.ensures.items) ∙
    pieces c.args.text.now.items (codes "light: order refused") (codes " kind " ++ decimal c.args.kind) (codes " at " ++ decimal c.args.i) (codes " " ++ decimal c.args.j) (10 ∷ [])
