use Rattle.std.proofs.Common.{◌≡◌, ◌≤◌, ℕ, length, subst, sym, true, arith}
use Rattle.std.specs.Prelude.{slice_index_or}
use Rattle.std.specs.List.{list_all}
use Rattle.petri_atom.specs.Definition.{is_well_formed}
use Rattle.plant_model.specs.Plant.{PlantDefinition}
use Rattle.step_executor.proofs.Standing.{states-many}
use Rattle.step_executor.specs.Executing.{plant_in}
use Rattle.plant_model.specs.declared.limits.TheConstants.{MAX_ATOMS}
use Rattle.plant_model.proofs.Membership.{all-in, entry-in}
use Rattle.plant_image.proofs.ByAtoms.{element_at}
use Rattle.plant_core.specs.Plants.{view_of}
use Rattle.plant_core.proofs.Firing.{count-so-far}
use Rattle.plant_core.proofs.Noted.{few_variables}
use Rattle.plant_core.proofs.plant.Plant.copy_of.Goals as goal

pub new-requires : goal.new-requires
new-requires g c =
    let self = c.args.self.now in
    let plant = plant_in self.executor in
    let few : length plant.atoms ≤ MAX_ATOMS = subst (λ (p : PlantDefinition). length p.atoms ≤ MAX_ATOMS) c.system.ensures.plant c.keeps_its_rules.ensures.few in
    let formed : list_all is_well_formed plant.atoms ≡ true = subst (λ (p : PlantDefinition). list_all is_well_formed p.atoms ≡ true) c.system.ensures.plant c.keeps_its_rules.ensures.atoms in
    let there = element_at plant.atoms c.args.atom (omega (arith, c.requires, states-many self.executor)) in
    record {
      atom_within = omega (arith, c.requires, states-many self.executor, few);
      count_within = subst (λ (n : ℕ). slice_index_or self.counts n 0 ≤ c.fired.result) (sym c.from.ensures) (omega (arith, count-so-far plant (view_of self) self.bodies.items self.fits_together c.args.atom, c.fired.ensures));
      at_within = omega (arith, self.fits_together.last_to, c.fired.ensures);
      values_within = omega (arith, (c.state.ensures.fits there.0 there.1).variables, few_variables there.0 (all-in is_well_formed plant.atoms formed there.0 (entry-in plant.atoms c.args.atom there.0 there.1)));
    }
