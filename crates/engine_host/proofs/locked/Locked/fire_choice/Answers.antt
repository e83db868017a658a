use Rattle.std.proofs.Common.{◌≡◌, ℤ, ◌+◌, ◌++◌, List, ◌∷◌, [], false, length, ap, sym, ◌∙◌, arith}
use Rattle.disk_model.specs.DiskState.{DiskState}
use Rattle.plant_core.specs.Plants.{definition_of, view_of}
use Rattle.plant_core.specs.Events.{fired_by}
use Rattle.plant_core.specs.declared.events.Happened.TheVariants.{FireChoice}
use Rattle.plant_model.specs.declared.choice.Choice.{Choice}
use Rattle.engine_host.specs.Held.{Held, held_by}
use Rattle.engine_host.specs.History.{entry}
use Rattle.engine_host.specs.Views.{front_in, is_used_up}
use Rattle.engine_host.proofs.Events.{fires_that_one}
use Rattle.engine_host.proofs.Kept.{kept_goes_on, kept_rises, kept_room, kept_to}
use Rattle.engine_host.proofs.locked.Locked.fire_choice.Goals as goal

pub publish-happened-requires-clause-to : goal.publish-happened-requires-clause-to
publish-happened-requires-clause-to g c =
    let l = c.self.inside in
    let held : Held = held_by l.plant l.publisher l.book.total in
    let free : is_used_up g.N.Naming.view held.view ≡ false = ap (λ (h : Held). is_used_up g.N.Naming.view h.view) c.self.view_is ∙ (sym c.is_used_up.ensures ∙ c.if-is_used_up.false) in
    let room = kept_room g.N.Naming.plant g.N.Naming.view g.N.Naming.digest g.N.Naming.keeps g.N.WordNaming.opening (definition_of l.plant) held _ c.self.invariant free (fires_that_one c.args.choice.now c.args.inputs.now c.fire_choice-answer.result).1 in
    kept_to g.N.Naming.plant g.N.Naming.view g.N.Naming.digest g.N.Naming.keeps g.N.WordNaming.opening (definition_of l.plant) held (FireChoice c.args.choice.now c.args.inputs.now c.fire_choice-answer.result) (view_of c.fire_choice-answer.new.self) c.self.invariant c.fire_choice-answer.ensures.event room

pub publish-happened-requires-clause-rises : goal.publish-happened-requires-clause-rises
publish-happened-requires-clause-rises g c =
    let l = c.self.inside in
    kept_rises g.N.Naming.plant g.N.Naming.view g.N.Naming.digest g.N.Naming.keeps g.N.WordNaming.opening (definition_of l.plant) (held_by l.plant l.publisher l.book.total) (FireChoice c.args.choice.now c.args.inputs.now c.fire_choice-answer.result) (view_of c.fire_choice-answer.new.self) c.self.invariant c.fire_choice-answer.ensures.event

pub invariant_of-self : goal.invariant_of-self
invariant_of-self g c =
    let l = c.self.inside in
    let held : Held = held_by l.plant l.publisher l.book.total in
    let free : is_used_up g.N.Naming.view held.view ≡ false = ap (λ (h : Held). is_used_up g.N.Naming.view h.view) c.self.view_is ∙ (sym c.is_used_up.ensures ∙ c.if-is_used_up.false) in
    let one = fires_that_one c.args.choice.now c.args.inputs.now c.fire_choice-answer.result in
    let room = kept_room g.N.Naming.plant g.N.Naming.view g.N.Naming.digest g.N.Naming.keeps g.N.WordNaming.opening (definition_of l.plant) held _ c.self.invariant free one.1 in
    let more : c.add.new.self.total ≡ l.book.total + length (fired_by (FireChoice c.args.choice.now c.args.inputs.now c.fire_choice-answer.result)) = c.add.ensures.total ∙ omega (arith, one.0, c.fired_in.ensures) in
    let told : l.publisher ++ entry (FireChoice c.copy.result c.copy-2.result c.fire_choice-answer.result) (front_in (view_of c.fire_choice-answer.new.self)) ∷ [] ≡ l.publisher ++ entry (FireChoice c.args.choice.now c.args.inputs.now c.fire_choice-answer.result) (front_in (view_of c.fire_choice-answer.new.self)) ∷ [] =
    ap (λ (x : Choice). l.publisher ++ entry (FireChoice x c.copy-2.result c.fire_choice-answer.result) (front_in (view_of c.fire_choice-answer.new.self)) ∷ []) c.copy.ensures ∙
    ap (λ (values : List ℤ). l.publisher ++ entry (FireChoice c.args.choice.now values c.fire_choice-answer.result) (front_in (view_of c.fire_choice-answer.new.self)) ∷ []) c.copy-2.ensures in
    kept_goes_on g.N.Naming.plant g.N.Naming.view g.N.Naming.digest g.N.Naming.keeps g.N.WordNaming.opening (definition_of l.plant) _ held _ (FireChoice c.args.choice.now c.args.inputs.now c.fire_choice-answer.result) c.self.invariant c.fire_choice-answer.ensures.event c.fire_choice-answer.ensures.plant c.fire_choice-answer.ensures.digest (ap (λ (s : DiskState). s.keeps) c.fire_choice-answer.ensures.device) more room (c.publish-happened.ensures.history ∙ told)
