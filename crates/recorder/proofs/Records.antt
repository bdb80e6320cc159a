-- The parts of a record, as they come from a machine that has played a history.
use Rattle.std.proofs.Common.{◌≡◌, ℕ, List, length, sym, ap, subst, ◌∙◌}
use Rattle.std.specs.List.{range_with_len}
use Rattle.replay_model.specs.declared.Entry.{Entry}
use Rattle.replay_model.specs.Steps.{Tag}
use Rattle.replay_model.specs.Logs.{ThreadLog}
use Rattle.replay_model.specs.RunLogs.{run_logs, last_tags}
use Rattle.machine.specs.Programs.{ProgramValue, LimitsValue, IsProgram, AreLimits}
use Rattle.machine.specs.Cores.{Report}
use Rattle.machine.specs.Inputs.{InputsValue, AreShort}
use Rattle.machine.specs.Runs.{threads_of, tallies_of, reports_of, values_of}
use Rattle.replay_model.specs.WellFormed.{IsWellFormed}
use Rattle.history.specs.Played.{Played, world_of}
use Rattle.history.specs.Histories.{IsHistory}
use Rattle.recorder.specs.Records.{RecordedValue, no_digest, recorded_of}
use Rattle.recorder.specs.ThreadLogs.{entries_by, logs_by}
use Rattle.recorder.proofs.Logs.{played-logged, history-formed}

-- what comes of a machine: the entries of each thread, the reports, the threads' logs, the last tags and the last values
pub record Comes (played : Played) (all : List (List Entry)) (reports : List Report) (threads : List ThreadLog) (last : List Tag) (last_values : List ℕ) : Type 0 where
  pub entries : all ≡ entries_by played (range_with_len 0 (length played.program.threads))
  pub reported : reports ≡ reports_of played.program played.limits played.inputs (world_of played)
  pub logged : threads ≡ logs_by played.inputs 0 all reports
  pub tags : last ≡ last_tags (world_of played).memory
  pub values : last_values ≡ values_of (world_of played)

module _ (played : Played) (p : ProgramValue) (limits : LimitsValue) (inputs : InputsValue) (program : played.program ≡ p) (bounds : played.limits ≡ limits) (lists : played.inputs ≡ inputs) where
  -- the machine played this program under these limits with these inputs
  same : played ≡ record { program = p; limits = limits; inputs = inputs; taken = played.taken }
  same =
      ap (λ (q : ProgramValue). record { program = q; limits = played.limits; inputs = played.inputs; taken = played.taken }) program ∙
      ap (λ (l : LimitsValue). record { program = p; limits = l; inputs = played.inputs; taken = played.taken }) bounds ∙
      ap (λ (i : InputsValue). record { program = p; limits = limits; inputs = i; taken = played.taken }) lists

  module _ (all : List (List Entry)) (reports : List Report) (threads : List ThreadLog) (last : List Tag) (last_values : List ℕ) (c : Comes played all reports threads last last_values) where
    logged : threads ≡ run_logs (threads_of played.program played.limits played.inputs) (tallies_of played.program played.limits played.inputs) (world_of played).threads
    logged = c.logged ∙ ap (λ (all : List (List Entry)). logs_by played.inputs 0 all reports) c.entries ∙ ap (logs_by played.inputs 0 (entries_by played (range_with_len 0 (length played.program.threads)))) c.reported ∙ played-logged played

    -- these parts are the record of the history
    pub recorded-parts : record { log = record { digest = no_digest; limits = limits; threads = threads; last_tags = last }; reports = reports; last_values = last_values } ≡ recorded_of p limits inputs played.taken
    recorded-parts =
        let made : LimitsValue → List ThreadLog → List Tag → List Report → List ℕ → RecordedValue = λ l ts tags rs vs. record { log = record { digest = no_digest; limits = l; threads = ts; last_tags = tags }; reports = rs; last_values = vs } in
        ap (λ (l : LimitsValue). made l threads last reports last_values) (sym bounds) ∙
        ap (λ (ts : List ThreadLog). made played.limits ts last reports last_values) logged ∙
        ap (λ (tags : List Tag). made played.limits (run_logs (threads_of played.program played.limits played.inputs) (tallies_of played.program played.limits played.inputs) (world_of played).threads) tags reports last_values) c.tags ∙
        ap (λ (rs : List Report). made played.limits (run_logs (threads_of played.program played.limits played.inputs) (tallies_of played.program played.limits played.inputs) (world_of played).threads) (last_tags (world_of played).memory) rs last_values) c.reported ∙
        ap (made played.limits (run_logs (threads_of played.program played.limits played.inputs) (tallies_of played.program played.limits played.inputs) (world_of played).threads) (last_tags (world_of played).memory) (reports_of played.program played.limits played.inputs (world_of played))) c.values ∙
        ap (λ (q : Played). recorded_of q.program q.limits q.inputs q.taken) same

    -- and the log is well formed
    pub recorded-formed : IsProgram p → AreLimits limits → AreShort inputs → IsHistory p limits inputs played.taken → IsWellFormed (record { digest = no_digest; limits = limits; threads = threads; last_tags = last })
    recorded-formed rules kept short whole = subst IsWellFormed (sym (ap (λ (r : RecordedValue). r.log) recorded-parts)) (history-formed p limits inputs no_digest played.taken rules kept short whole)
