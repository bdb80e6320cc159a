use Rattle.std.proofs.Common.{refl}
use Rattle.std.specs.Fmt.{digits}
use Rattle.assembler.specs.Labels.{scope_from}
use Rattle.assembler.specs.Assembled.{assembled_from}
use Rattle.assembler.specs.Canonical.{init_lines}
use Rattle.assembler.proofs.laws.computed_texts.Goals as goal

pub returns : goal.returns
unfolding digits scope_from assembled_from init_lines
returns c = record {
  message = refl;
  listed = refl;
  operations_read = refl;
  operations_listed = refl;
  values = refl;
  bytes = (refl, refl);
  mnemonics = (refl, refl);
  operands = (refl, refl);
  numbers = (refl, refl);
  labels = (refl, refl);
  labels_once = (refl, refl);
  targets = (refl, refl);
  threads_counted = (refl, refl);
  threads_wanted = (refl, refl);
  order = (refl, refl, refl, refl, refl, refl, refl, refl);
  places = (refl, refl, refl, refl);
  no_thread = (refl, refl);
  apart = refl;
}
