use Rattle.std.proofs.Common.{List, ℕ, sym, ap, ◌∙◌}
use Rattle.light_top.specs.Words.{name_of}
use Rattle.light_top.proofs.Listing.{visible_text, named}
use Rattle.light_top.proofs.list.listed_name.Goals as goal

pub unreachable-requires : goal.unreachable-requires
unreachable-requires c = absurd (c.in-Err.ensures.cases.0 (visible_text c.args.bytes.now (sym c.are_visible.ensures ∙ c.if-not-are_visible.false)))

pub returns : goal.returns
returns c =
    c.of.ensures ∙ (ap name_of c.in-Ok.ensures.cases.0 ∙ named c.args.bytes.now (sym c.are_visible.ensures ∙ c.if-not-are_visible.false))
