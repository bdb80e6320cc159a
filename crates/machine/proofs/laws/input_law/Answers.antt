use Rattle.machine.proofs.Taking.{runs_on_taken, tallies_on_taken, run_on_taken, fits_on_taken}
use Rattle.machine.proofs.laws.input_law.Goals as goal

pub returns : goal.returns
returns c = record {
  states = runs_on_taken;
  tallies = tallies_on_taken;
  runs = run_on_taken;
  fits = fits_on_taken;
}
