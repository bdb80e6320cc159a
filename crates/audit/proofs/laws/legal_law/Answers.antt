use Rattle.audit.proofs.laws.legal_law.Goals as goal
use Rattle.audit.proofs.Legal.{order_law, runs_law, placing_law, history_law}

pub returns : goal.returns
returns c =
    let within = c.machine_law.ensures.within in
    let only = c.machine_law.ensures.only in
    let ends = c.machine_law.ensures.ends in
    let taken = c.input_law.ensures.fits in
    record { order = order_law within only ends taken; runs = runs_law within only ends taken; placing = placing_law within only ends taken; history = history_law within only ends taken }
