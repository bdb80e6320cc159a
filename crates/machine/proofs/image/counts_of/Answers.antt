use Rattle.std.proofs.Common.{◌≡◌, true, false, refl, sym, ◌∙◌}
use Rattle.machine.specs.Faults.{are_counts}
use Rattle.machine.specs.ImageReading.{threads_in, words_in}
use Rattle.machine.proofs.ImageHead.{counts_short, counts_magic, counts_counts, counts_none, words_in_is, words_there}
use Rattle.machine.proofs.image.counts_of.Goals as goal

pub returns-in_default-clause-value : goal.returns-in_default-clause-value
returns-in_default-clause-value c =
    rw (c.whole.ensures, counts_short c.args.bytes.now (words_there c.args.bytes.now (sym c.u16_at.ensures.value ∙ c.in_default.is))) refl

pub returns-then-not-starts_with-clause-value : goal.returns-then-not-starts_with-clause-value
returns-then-not-starts_with-clause-value c =
    let found = words_in_is c.args.bytes.now c.in-Some.words (sym c.u16_at.ensures.value ∙ c.in-Some.is) in
    rw (c.whole-then-not-starts_with.ensures, counts_magic c.args.bytes.now found.0 (sym c.starts_with.ensures.value ∙ c.if-not-starts_with.true)) refl

pub returns-then-not-are_counts-clause-value : goal.returns-then-not-are_counts-clause-value
returns-then-not-are_counts-clause-value c =
    let found = words_in_is c.args.bytes.now c.in-Some.words (sym c.u16_at.ensures.value ∙ c.in-Some.is) in
    let counts : are_counts (threads_in c.args.bytes.now) (words_in c.args.bytes.now) ≡ false = rw found.1 (sym c.are_counts.ensures ∙ c.if-not-are_counts.true) in
    rw (c.whole-then-not-are_counts.ensures, counts_counts c.args.bytes.now found.0 (sym c.starts_with.ensures.value ∙ c.if-not-starts_with.false) counts) refl

pub returns-clause-value : goal.returns-clause-value
returns-clause-value c =
    let found = words_in_is c.args.bytes.now c.in-Some.words (sym c.u16_at.ensures.value ∙ c.in-Some.is) in
    let counts : are_counts (threads_in c.args.bytes.now) (words_in c.args.bytes.now) ≡ true = rw found.1 (sym c.are_counts.ensures ∙ c.if-not-are_counts.false) in
    rw (counts_none c.args.bytes.now found.0 (sym c.starts_with.ensures.value ∙ c.if-not-starts_with.false) counts, found.1) refl
