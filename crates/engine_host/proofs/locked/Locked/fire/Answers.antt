use Rattle.std.proofs.Common.{◌≡◌, ℤ, ◌+◌, ◌++◌, List, ◌∷◌, [], false, length, ap, sym, ◌∙◌, arith}
use Rattle.disk_model.specs.DiskState.{DiskState}
use Rattle.plant_core.specs.Plants.{definition_of, view_of}
use Rattle.plant_core.specs.Events.{fired_by}
use Rattle.plant_core.specs.declared.events.Happened.TheVariants.{Fire}
use Rattle.engine_host.specs.Held.{Held, held_by}
use Rattle.engine_host.specs.History.{entry}
use Rattle.engine_host.specs.Views.{front_in, is_used_up}
use Rattle.engine_host.proofs.Events.{fires_one}
use Rattle.engine_host.proofs.Kept.{kept_goes_on, kept_rises, kept_room, kept_to}
use Rattle.engine_host.proofs.locked.Locked.fire.Goals as goal

pub publish-happened-requires-clause-to : goal.publish-happened-requires-clause-to
publish-happened-requires-clause-to g c =
    let l = c.self.inside in
    let held : Held = held_by l.plant l.publisher l.book.total in
    let free : is_used_up g.N.Naming.view held.view ≡ false = ap (λ (h : Held). is_used_up g.N.Naming.view h.view) c.self.view_is ∙ (sym c.is_used_up.ensures ∙ c.if-is_used_up.false) in
    let room = kept_room g.N.Naming.plant g.N.Naming.view g.N.Naming.digest g.N.Naming.keeps g.N.WordNaming.opening (definition_of l.plant) held _ c.self.invariant free (fires_one c.args.pick c.args.inputs.now c.fire-answer.result).1 in
    kept_to g.N.Naming.plant g.N.Naming.view g.N.Naming.digest g.N.Naming.keeps g.N.WordNaming.opening (definition_of l.plant) held (Fire c.args.pick c.args.inputs.now c.fire-answer.result) (view_of c.fire-answer.new.self) c.self.invariant c.fire-answer.ensures.event room

pub publish-happened-requires-clause-rises : goal.publish-happened-requires-clause-rises
publish-happened-requires-clause-rises g c =
    let l = c.self.inside in
    kept_rises g.N.Naming.plant g.N.Naming.view g.N.Naming.digest g.N.Naming.keeps g.N.WordNaming.opening (definition_of l.plant) (held_by l.plant l.publisher l.book.total) (Fire c.args.pick c.args.inputs.now c.fire-answer.result) (view_of c.fire-answer.new.self) c.self.invariant c.fire-answer.ensures.event

pub invariant_of-self : goal.invariant_of-self
invariant_of-self g c =
    let l = c.self.inside in
    let held : Held = held_by l.plant l.publisher l.book.total in
    let free : is_used_up g.N.Naming.view held.view ≡ false = ap (λ (h : Held). is_used_up g.N.Naming.view h.view) c.self.view_is ∙ (sym c.is_used_up.ensures ∙ c.if-is_used_up.false) in
    let one = fires_one c.args.pick c.args.inputs.now c.fire-answer.result in
    let room = kept_room g.N.Naming.plant g.N.Naming.view g.N.Naming.digest g.N.Naming.keeps g.N.WordNaming.opening (definition_of l.plant) held _ c.self.invariant free one.1 in
    let more : c.add.new.self.total ≡ l.book.total + length (fired_by (Fire c.args.pick c.args.inputs.now c.fire-answer.result)) = c.add.ensures.total ∙ omega (arith, one.0, c.count_fired.ensures) in
    let told : l.publisher ++ entry (Fire c.args.pick c.copy.result c.fire-answer.result) (front_in (view_of c.fire-answer.new.self)) ∷ [] ≡ l.publisher ++ entry (Fire c.args.pick c.args.inputs.now c.fire-answer.result) (front_in (view_of c.fire-answer.new.self)) ∷ [] =
    ap (λ (values : List ℤ). l.publisher ++ entry (Fire c.args.pick values c.fire-answer.result) (front_in (view_of c.fire-answer.new.self)) ∷ []) c.copy.ensures in
    kept_goes_on g.N.Naming.plant g.N.Naming.view g.N.Naming.digest g.N.Naming.keeps g.N.WordNaming.opening (definition_of l.plant) _ held _ (Fire c.args.pick c.args.inputs.now c.fire-answer.result) c.self.invariant c.fire-answer.ensures.event c.fire-answer.ensures.plant c.fire-answer.ensures.digest (ap (λ (s : DiskState). s.keeps) c.fire-answer.ensures.device) more room (c.publish-happened.ensures.history ∙ told)
