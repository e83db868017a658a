use Rattle.std.proofs.Common.{◌≡◌, [], sym, subst}
use Rattle.std.specs.Prelude.{None}
use Rattle.plant_model.specs.Chosen.{firing_of}
use Rattle.plant_model.specs.Rules.{fault_of}
use Rattle.plant_model.specs.System.{plant_of}
use Rattle.plant_model.specs.declared.system.System.{System}
use Rattle.step_core.specs.Jobs.{jobs_of}
use Rattle.durable_bench.specs.Away.{AreAmong}
use Rattle.durable_bench.proofs.Back.{begun-among}
use Rattle.durable_bench.proofs.stepping.begin.Goals as goal

pub returns-clause-away : goal.returns-clause-away
returns-clause-away c =
    let made = jobs_of c.begin.new.jobs in
    let valid = subst (λ (s : System). fault_of (plant_of s) ≡ None) c.system.ensures.system c.keeps_its_rules.ensures.plant in
    subst (λ ks. AreAmong ks made) (sym c.begin.ensures.kept)
    (begun-among c.args.run.now (firing_of c.args.choice.now []) c.requires.sure valid c.args.room.now.counts made c.begin.ensures.jobs c.requires.all_there)
