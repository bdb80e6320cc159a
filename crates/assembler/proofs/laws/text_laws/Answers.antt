use Rattle.assembler.proofs.CanonicalRead.{canonical_read}
use Rattle.assembler.proofs.LineFaults.{faults_of_lines}
use Rattle.assembler.proofs.Rules.{assembled_rules}
use Rattle.assembler.proofs.WordValues.{assembled_numbers}
use Rattle.assembler.proofs.laws.text_laws.Goals as goal

pub returns : goal.returns
returns c = record {
  canonical = canonical_read;
  sound = λ text p e. (assembled_rules text p e, assembled_numbers text p e);
  faults = faults_of_lines;
}
