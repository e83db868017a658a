use Rattle.std.proofs.Common.{ap, arith}
use Rattle.std.proofs.lemmas.Option.{slice_get_within}
use Rattle.record_codec.specs.Saved.{SavedFields}
use Rattle.plant_core.specs.Plants.{definition_of, view_of}
use Rattle.plant_core.proofs.Copies.{copy-parts}
use Rattle.plant_core.proofs.JobsHeld.{present-long}
use Rattle.plant_core.proofs.driving.ask.Goals as goal

pub hold-requires : goal.hold-requires
hold-requires g c =
    let p = c.args.plant.now in
    let v = view_of p in
    let parts = copy-parts v c.args.atom c.in-Ok.parcel c.in-Ok.ensures.event.3 in
    omega (arith, slice_get_within v.present c.args.atom parts.0 parts.1, present-long (definition_of p) v p.bodies.items p.fits_together, c.requires.saved, ap (λ (s : SavedFields). s.atom) parts.2, ap (λ (s : SavedFields). s.atom) c.encode.ensures)
