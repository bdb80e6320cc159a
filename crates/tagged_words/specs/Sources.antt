-- What the rule of the words says of the writes that one thread reads.
use Rattle.std.specs.Prelude.{◌≡◌, ℕ, ◌<◌, true, List, length, slice_index_or}
use Rattle.light_base.specs.declared.tag.Tag.{Tag}
use Rattle.replay_model.specs.Steps.{Step}
use Rattle.replay_model.specs.Threads.{no_step}
use Rattle.replay_model.specs.ThreadLogs.{saw}
use Rattle.tagged_words.specs.Views.{Start}
use Rattle.tagged_words.specs.Rule.{IsPart}

-- where a thread read one source in a word, then another, and then the first again, the two are one
abbrev pub SourcesStayAway : Type 0
SourcesStayAway = (start : Start) (thread : ℕ) (steps : List Step) → IsPart start thread steps → (word : ℕ) (a b : Tag) (i j k : ℕ) → i < j → j < k → k < length steps →
    saw word a (slice_index_or steps i no_step) ≡ true → saw word b (slice_index_or steps j no_step) ≡ true → saw word a (slice_index_or steps k no_step) ≡ true → a ≡ b
