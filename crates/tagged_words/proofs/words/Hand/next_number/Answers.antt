use Rattle.std.proofs.Common.{ap, arith, length}
use Rattle.tagged_words.specs.Views.{Progress}
use Rattle.tagged_words.proofs.Seats.{next_tag}
use Rattle.tagged_words.proofs.words.Hand.next_number.Goals as goal

pub tag-tag-requires : goal.tag-tag-requires
tag-tag-requires c = next_tag _ _ _ c.self.invariant (omega (arith, c.self.invariant.counted, ap (λ (h : Progress). length h.steps) c.self.view_is, c.requires))
