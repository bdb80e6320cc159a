use Rattle.std.proofs.Common.{◌≡◌, ◌++◌, drop}
use Rattle.transcript.specs.Transcripts.{BeginsWith, word_lines}
use Rattle.transcript.proofs.lines.put_words.Given as goal

abbrev pub invariant-loop-word : goal.invariant-loop-word
invariant-loop-word l = record {
  line : l.initial.text.items ++ word_lines 0 l.last_values ≡ l.text.items ++ word_lines l.word (drop l.word l.last_values);
  begins : BeginsWith l.text.items l.initial.text.items;
}
