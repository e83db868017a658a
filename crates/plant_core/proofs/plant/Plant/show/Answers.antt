use Rattle.std.proofs.Common.{◌≡◌, ◌+◌, ◌<◌, ◌≤◌, sym, ◌∙◌, [], ap, length, take, arith}
use Rattle.std.proofs.lemmas.List.{length-set, take_all}
use Rattle.std.proofs.lemmas.Option.{slice_get-get_or}
use Rattle.step_executor.proofs.Copied.{one-more-copied}
use Rattle.plant_core.specs.Plants.{definition_of, view_of}
use Rattle.plant_core.proofs.JobsHeld.{present-long}
use Rattle.plant_core.proofs.plant.Plant.show.Goals.{in-Some, in_default}
use Rattle.plant_core.proofs.plant.Plant.show.Goals as goal

pub loop-atom-preserved : goal.loop-atom-preserved
loop-atom-preserved g c =
    let p = c.args.self.now in
    let present = (view_of p).present in
    let i = c.loop-atom.atom in
    let long : length present ≡ length (definition_of p).atoms = present-long (definition_of p) (view_of p) p.bodies.items p.fits_together in
    let within : i < length present = omega (arith, long, c.requires) in
    let inside : i < length c.loop-atom.states = omega (arith, c.loop-atom.invariant.as_many, c.requires) in
    elim c.match-look.branch [
      | in-Some w ↦ record {
        as_many = ap length (w.states-is ∙ w.set.ensures) ∙ length-set c.loop-atom.states i w.in-Some.state ∙ c.loop-atom.invariant.as_many;
        same = ap (take (i + 1)) (w.states-is ∙ w.set.ensures) ∙ one-more-copied c.loop-atom.states present i w.in-Some.state inside within (sym c.look.ensures ∙ w.in-Some.is) c.loop-atom.invariant.same;
      }
      | in_default w ↦ absurd (w.in_default.not-Some _ (c.look.ensures ∙ slice_get-get_or present i (record { marking = 0; values = [] }) within))
    ]

pub returns-clause-present : goal.returns-clause-present
returns-clause-present g c =
    let p = c.args.self.now in
    let present = (view_of p).present in
    let i = c.loop-atom.atom in
    let long : length present ≡ length (definition_of p).atoms = present-long (definition_of p) (view_of p) p.bodies.items p.fits_together in
    let passed : length present ≤ i = omega (arith, long, c.requires) in
    let all : length c.loop-atom.states ≤ i = omega (arith, c.loop-atom.invariant.as_many, c.requires) in
    sym (take_all i c.loop-atom.states all) ∙ c.loop-atom.invariant.same ∙ take_all i present passed
