use Rattle.std.proofs.lemmas.Result.{IfOk-weaker}
use Rattle.plant_model.specs.System.{plant_of}
use Rattle.recovery.specs.Loading.{WasLoaded}
use Rattle.recovery.proofs.PartlyLoaded.{loaded_then, synced_err, synced_ok}
use Rattle.recovery.proofs.loading.load_synced.Goals as goal

pub returns-clause-synced : goal.returns-clause-synced
returns-clause-synced g c = synced_ok c.args.cells.now c.sync.new.self c.load_all.new.cells c.in_ok-sync.ensures.counts c.sync.ensures.leaves c.in_ok-sync.ensures.settles c.load_all.result c.load_all.ensures.reads

pub returns-clause-failed : goal.returns-clause-failed
returns-clause-failed g c = synced_err c.args.cells.now c.sync.new.self c.load_all.new.cells c.in_ok-sync.ensures.counts c.sync.ensures.leaves c.in_ok-sync.ensures.settles c.load_all.result c.load_all.ensures.reads

pub returns-clause-loaded : goal.returns-clause-loaded
returns-clause-loaded g c =
    IfOk-weaker c.load_all.result (WasLoaded (plant_of c.args.system.now) c.sync.new.self) (WasLoaded (plant_of c.args.system.now) c.load_all.new.cells)
    (λ loaded was. loaded_then (plant_of c.args.system.now) loaded c.sync.new.self c.load_all.new.cells c.load_all.ensures.reads was)
    c.load_all.ensures.loaded
