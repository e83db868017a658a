use Rattle.std.proofs.lemmas.Result.{err_from_is_err_and}
use Rattle.plant_model.specs.System.{plant_of, digest_of}
use Rattle.recovery.proofs.PartlyLoaded.{judged_items}
use Rattle.recovery.proofs.booting.boot.Goals as goal

pub returns-in_err-cells-clause-refused : goal.returns-in_err-cells-clause-refused
returns-in_err-cells-clause-refused g c keeps =
    let p = err_from_is_err_and c.from_residual.result c.from_residual.ensures.1 in
    rw (p.1, p.2) (c.in_err-cells.ensures.silent _)

pub finish-requires-clause-judged : goal.finish-requires-clause-judged
finish-requires-clause-judged g c = judged_items (plant_of c.args.system.now) (digest_of c.args.system.now) c.in_ok-cells.loaded _ c.read_image-judged.result c.deref.ensures.value c.read_image-judged.ensures
