use Rattle.std.proofs.Common.{◌≡◌, ◌+◌, ◌*◌, ◌%◌, ◌^◌, ◌<◌, ◌≤◌, ℕ, Bool, sym, ◌∙◌, ap, subst, arith, length, is_some, false}
use Rattle.std.specs.Prelude.{bit_or}
use Rattle.std.specs.Int.{w64}
use Rattle.petri_atom.specs.Local.{has, set_below}
use Rattle.petri_atom.proofs.Sets.{has-passing, set_below-next, set_below-zero}
use Rattle.plant_model.specs.Plant.{PlantDefinition}
use Rattle.plant_model.specs.declared.limits.TheConstants.{MAX_ATOMS}
use Rattle.step_executor.proofs.Standing.{states-many}
use Rattle.step_executor.specs.Executing.{plant_in}
use Rattle.plant_core.specs.Plants.{view_of}
use Rattle.plant_core.specs.View.{behind_state}
use Rattle.plant_core.proofs.Behind.{empty-none, none-behind, none-empty, told-behind}
use Rattle.plant_core.proofs.plant.Plant.behind.Goals as goal

pub loop-atom-init : goal.loop-atom-init
loop-atom-init g c =
    let v = view_of c.args.self.now in
    set_below-zero (λ k. is_some (behind_state v k))

pub loop-atom-preserved : goal.loop-atom-preserved
loop-atom-preserved g c =
    let self = c.args.self.now in
    let v = view_of self in
    let n : ℕ = c.loop-atom.atom in
    let told : ℕ → Bool = λ k. is_some (behind_state v k) in
    let within : n < length v.acked = omega (arith, self.fits_together.of_plant, states-many self.executor, c.len-atom-end.ensures, c.loop-atom-test.true) in
    let few : length (plant_in self.executor).atoms ≤ MAX_ATOMS = subst (λ (p : PlantDefinition). length p.atoms ≤ MAX_ATOMS) c.system.ensures.plant c.keeps_its_rules.ensures.few in
    ap (λ (b : ℕ). bit_or c.loop-atom.atoms (b * 2 ^ n % 2 ^ 64)) c.from.ensures ∙
    set_below-next w64 n c.loop-atom.atoms told c.is_behind.result (omega (arith, within, few, self.fits_together.of_plant)) c.loop-atom.invariant (told-behind v n within ∙ sym c.is_behind.ensures)

pub returns-clause-atoms : goal.returns-clause-atoms
returns-clause-atoms g c = λ atom.
    let self = c.args.self.now in
    let v = view_of self in
    ap (λ (s : ℕ). has s atom) c.loop-atom.invariant ∙
    has-passing c.loop-atom.atom (λ k. is_some (behind_state v k)) atom (λ past. none-behind v atom (omega (arith, past, self.fits_together.of_plant, states-many self.executor, c.len-atom-end.ensures, c.loop-atom-test.false)))

pub returns-clause-none : goal.returns-clause-none
returns-clause-none g c = empty-none (view_of c.args.self.now) c.loop-atom.atoms (returns-clause-atoms g c)

pub returns-clause-some : goal.returns-clause-some
returns-clause-some g c = none-empty (view_of c.args.self.now) c.loop-atom.atoms (returns-clause-atoms g c)
