use Rattle.std.proofs.Common.{◌≡◌, ◌≤◌, sym, ◌∙◌, ap, subst, length, arith, true}
use Rattle.std.specs.Prelude.{Some, slice_get}
use Rattle.std.specs.List.{list_all}
use Rattle.petri_atom.specs.Definition.{is_well_formed}
use Rattle.plant_model.specs.Chosen.{firing_of}
use Rattle.plant_model.specs.Fitting.{AllFit}
use Rattle.plant_model.specs.System.{plant_of}
use Rattle.plant_model.specs.declared.limits.TheConstants.{MAX_ATOMS}
use Rattle.plant_model.specs.declared.system.System.{System}
use Rattle.plant_model.proofs.Membership.{entry-in}
use Rattle.step_core.specs.Dispatcher.{parts_in}
use Rattle.step_executor.specs.Executing.{jobs_in, plant_in}
use Rattle.step_executor.specs.Outstanding.{AreCommitted, AreKept, whole_of}
use Rattle.step_executor.proofs.Going.{fired-kept}
use Rattle.step_executor.proofs.Standing.{committed-stays, delivers-whole, marked-fired, mover-there, next-fired, next-fits, sure-here}
use Rattle.step_executor.proofs.executor.Executor.fire_telling.Goals as goal

pub fire_telling-requires : goal.fire_telling-requires
fire_telling-requires c = sure-here c.args.self.now (firing_of c.args.choice.now c.args.inputs.now) c.requires

pub mark_moved-self-requires : goal.mark_moved-self-requires
mark_moved-self-requires c = λ place m there.
    let run = c.args.self.now in
    let choice = firing_of c.args.choice.now c.args.inputs.now in
    let its_move : slice_get choice.moves place ≡ Some m = ap (λ ms. slice_get ms place) (sym c.as_slice.ensures.moves) ∙ there in
    let few = subst (λ (s : System). length (plant_of s).atoms ≤ MAX_ATOMS) c.system.ensures c.keeps_its_rules.ensures.few in
    omega (arith, mover-there run choice c.requires m (entry-in choice.moves place m its_move), few)

pub invariant_of-self : goal.invariant_of-self
invariant_of-self c =
    let run = c.args.self.now in
    let choice = firing_of c.args.choice.now c.args.inputs.now in
    let after = parts_in c.fire_telling.new.self in
    let went = c.fire_telling.ensures.parts in
    let same = sym c.fire_telling.ensures.system in
    let formed = subst (λ (s : System). list_all is_well_formed (plant_of s).atoms ≡ true) c.system.ensures c.keeps_its_rules.ensures.atoms in
    record {
      outstanding = subst (λ (s : System). AreKept (plant_of s) after (jobs_in run)) same
          (subst (λ ps. AreKept (plant_in run) ps (jobs_in run)) (sym went) (fired-kept (plant_in run) (jobs_in run) (parts_in run.dispatcher) run.outstanding choice (sure-here run choice c.requires) run.dispatcher.of_plant));
      fits = subst (λ (s : System). AllFit (plant_of s) (whole_of (jobs_in run) after)) same
          (subst (AllFit (plant_in run)) (sym (next-fired run choice c.requires after went)) (next-fits run choice c.requires formed));
      behind = subst (λ (s : System). AreCommitted (plant_of s) run.committed (jobs_in run)) same run.behind;
      marked = marked-fired run choice c.requires c.mark_moved-self.result c.as_slice.result.now after c.as_slice.ensures.moves went c.mark_moved-self.ensures;
    }

pub returns-clause-next : goal.returns-clause-next
returns-clause-next c = next-fired c.args.self.now (firing_of c.args.choice.now c.args.inputs.now) c.requires (parts_in c.fire_telling.new.self) c.fire_telling.ensures.parts

pub returns-clause-committed : goal.returns-clause-committed
returns-clause-committed c = committed-stays c.args.self.now (firing_of c.args.choice.now c.args.inputs.now) c.requires _ (returns-clause-next c)

pub returns-clause-delivered : goal.returns-clause-delivered
returns-clause-delivered c place m there =
    c.fire_telling.ensures.delivered place m there ∙ ap Some (delivers-whole c.args.self.now (firing_of c.args.choice.now c.args.inputs.now) c.requires m.atom)
