-- The ends of arenas.
use Rattle.std.proofs.Common.{◌≡◌, ℕ, ◌*◌, ◌<◌, List, length, [], refl, sym, ◌∙◌, ap, subst}
use Rattle.std.proofs.lemmas.List.FromFn.{length-map-range_with_len}
use Rattle.replay_model.specs.Logs.{Log}
use Rattle.machine.specs.Programs.{ProgramValue}
use Rattle.history.specs.HistoryLogs.{HistoryEventsRespect}
use Rattle.constraints.specs.Constraints.{dead}
use Rattle.recorder.specs.Records.{no_digest}
use Rattle.machine.specs.declared.program.Instr.{Instr}
use Rattle.arena_samples.specs.Draws.{state_after}
use Rattle.arena_samples.specs.Arenas.{arena_of, thread_code}
use Rattle.light_top.specs.Arenas.{arena_limits, arena_inputs, IsArenaLog, IsArenaEnd, Endless}
use Rattle.light_top.specs.Solving.{Unsolved}
use Rattle.light_top.specs.Statuses.{FailsBy}
use Rattle.light_top.specs.declared.status.Status.{Status}
use Rattle.light_top.specs.declared.status.Status.TheVariants as status
use Rattle.light_top.proofs.Sizes.{log_threads, values_count}

-- why no order was found is why an arena has no end
pub not_ended : HistoryEventsRespect → (p : ProgramValue) (log : Log) (s : Status) → IsArenaLog p log → FailsBy (Unsolved log 0) s → FailsBy (Endless p) s
not_ended respect p log status.Memory is not = tt
not_ended respect p log status.Spent is not = (tt, (is.history, is.whole, subst (λ (l : Log). 0 < dead l) is.told not.1))
not_ended respect p log status.NoSchedule is not =
    let none = subst (λ (l : Log). FailsBy (Unsolved l 0) status.NoSchedule) is.told not in
    absurd (none.1 _ (respect p arena_limits arena_inputs no_digest is.history is.whole))
not_ended respect p log s is not = absurd not.1

pub arena_threads : (p : ProgramValue) (log : Log) → IsArenaLog p log → length p.threads ≡ length log.threads
arena_threads p log is = sym (ap (λ (l : Log). length l.threads) is.told ∙ log_threads p arena_limits arena_inputs no_digest is.history)

pub eight_threads : (number : ℕ) → length (arena_of number).threads ≡ 8
unfolding arena_of
eight_threads number = length-map-range_with_len {X = List Instr} (λ t. thread_code (state_after number (48 * t))) 0 8

arena_words_count : (number : ℕ) → length (arena_of number).words ≡ 24
unfolding arena_of
arena_words_count number = refl

pub arena_values : (number : ℕ) (p : ProgramValue) (values : List ℕ) → p ≡ arena_of number → IsArenaEnd p values → length values ≡ 24
arena_values number p values is ended =
    ap length ended.told ∙ values_count p arena_limits arena_inputs [] ended.history ∙ ap (λ (q : ProgramValue). length q.words) is ∙ arena_words_count number

pub of_number : (number : ℕ) (p : ProgramValue) (s : Status) → p ≡ arena_of number → FailsBy (Endless p) s → FailsBy (Endless (arena_of number)) s
of_number number p s is not = subst (λ (q : ProgramValue). FailsBy (Endless q) s) is not
