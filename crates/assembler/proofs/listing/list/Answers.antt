use Rattle.std.proofs.Common.{rules, ◌≡◌, ◌<◌, ◌^◌, All, ap, subst, ◌∙◌}
use Rattle.assembler.specs.Assembled.{assembled}
use Rattle.assembler.specs.Canonical.{canonical}
use Rattle.assembler.proofs.CanonicalRead.{canonical_read}
use Rattle.assembler.proofs.listing.list.Goals as goal

pub returns-clause-back : goal.returns-clause-back
returns-clause-back c =
    let text : c.put_threads.new.out.items ≡ canonical c.args.program.now = search rules in
    ap assembled text
    ∙ canonical_read c.args.program.now c.words.ensures.rules (record {
      words = subst (All (λ word. word < 2 ^ 32)) c.words-2.ensures.value c.put_inits.ensures.numbers;
      imms = c.in_ok-put_threads.ensures.numbers;
    })
