use Rattle.light_top.proofs.Ending.{gives_matched}
use Rattle.light_top.proofs.loading.load_inputs.Goals as goal

pub returns-in_ok-inputs-in-Some-clause-ok : goal.returns-in_ok-inputs-in-Some-clause-ok
returns-in_ok-inputs-in-Some-clause-ok g c =
    gives_matched _ _ c.args.name.now c.in-Some.name c.args.threads c.in_ok-inputs-in-Some.inputs c.matched.result c.in-Some.is
    c.in_ok-inputs-in-Some.ensures.ok c.matched.ensures.ok
