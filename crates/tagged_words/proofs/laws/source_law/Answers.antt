use Rattle.std.proofs.Common.{◌≡◌, ◌<◌, ℕ, true, List, length, subst}
use Rattle.light_base.specs.declared.tag.Tag.{Tag}
use Rattle.replay_model.specs.Steps.{Step}
use Rattle.replay_model.specs.ThreadLogs.{saw}
use Rattle.replay_model.proofs.ThreadLogs.{nth}
use Rattle.tagged_words.proofs.Sources.{stay_away}
use Rattle.tagged_words.proofs.laws.source_law.Goals as goal

pub returns : goal.returns
returns c start thread steps (list, last, folds, is) =
    let P : List Step → Type 0 = λ xs. (word : ℕ) (a b : Tag) (i j k : ℕ) → i < j → j < k → k < length xs →
    saw word a (nth xs i) ≡ true → saw word b (nth xs j) ≡ true → saw word a (nth xs k) ≡ true → a ≡ b in
    subst P is (stay_away start.initial thread list last folds)
