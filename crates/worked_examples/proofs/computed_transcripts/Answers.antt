use Rattle.std.proofs.Common.{refl}
use Rattle.replay_model.specs.Histories.{take_step, move, play, history_of, round_turns}
use Rattle.replay_model.specs.ThreadLogs.{thread_log}
use Rattle.machine.specs.Cores.{run_local, run_on, settled}
use Rattle.std.specs.Fmt.{digits}
use Rattle.transcript.specs.Transcripts.{transcript}
use Rattle.worked_examples.proofs.computed_transcripts.Goals as goal

pub returns : goal.returns
unfolding take_step move play history_of round_turns thread_log run_local run_on settled transcript digits
returns c = record {
  smallest = refl;
  own_write = refl;
  initial_value = refl;
  lost_update = refl;
  no_steps = refl;
  message = refl;
  reads = refl;
  one_entry = refl;
  addresses = refl;
  exchanges = refl;
  blind_stores = refl;
  other_writer = refl;
  other_value = refl;
  arithmetic = refl;
  jumps = refl;
  inputs = (refl, refl, refl);
}
