-- Turns, with the threads that have ended passed over, are histories; rounds of turns are whole ones.
use Rattle.std.proofs.Common.{◌≡◌, ℕ, List, [], ◌++◌, length, sym, ◌∙◌, subst}
use Rattle.std.proofs.lemmas.List.{length-replicate}
use Rattle.replay_model.specs.Threads.{Threads, EndsWithin}
use Rattle.replay_model.specs.Histories.{World, opening, play, IsLegal, IsWhole, history_of, round_turns}
use Rattle.replay_model.specs.WholeHistories.{IsWholeHistory}
use Rattle.replay_model.proofs.Plays.{play-append, play_count, play-history_of, history_of-legal}
use Rattle.replay_model.proofs.Rounds.{rounds_whole}

-- turns are a legal history, which plays alike
pub turns_legal : (threads : Threads) (turns : List ℕ) (world : World) →
    IsLegal threads (history_of threads turns world) world × (play threads (history_of threads turns world) world ≡ play threads turns world)
turns_legal threads turns world = (history_of-legal threads turns world, play-history_of threads turns world)

-- any turns and then rounds are a whole history
pub followed : (threads : Threads) (bound : ℕ) (initial : List ℕ) (count : ℕ) (order : List ℕ) → EndsWithin threads bound →
    IsWholeHistory threads initial count (history_of threads (order ++ round_turns count bound) (opening initial count))
followed threads bound initial count order stops =
    let opened : length (opening initial count).threads ≡ count = length-replicate count [] in
    record {
      legal = history_of-legal threads (order ++ round_turns count bound) (opening initial count);
      whole = subst (IsWhole threads) (sym (play-history_of threads (order ++ round_turns count bound) (opening initial count) ∙ play-append threads order (round_turns count bound) (opening initial count)))
          (rounds_whole threads bound count (play threads order (opening initial count)) stops (sym (play_count threads order (opening initial count) ∙ opened)));
    }

-- so are rounds alone
pub rounded : (threads : Threads) (bound : ℕ) (initial : List ℕ) (count : ℕ) → EndsWithin threads bound →
    IsWholeHistory threads initial count (history_of threads (round_turns count bound) (opening initial count))
rounded threads bound initial count stops = followed threads bound initial count [] stops
