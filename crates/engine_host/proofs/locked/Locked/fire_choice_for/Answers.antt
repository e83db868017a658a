use Rattle.std.proofs.Common.{ap, sym, ◌∙◌, refl}
use Rattle.engine_host.specs.Held.{Held}
use Rattle.engine_host.specs.Views.{is_used_up}
use Rattle.plant_core.specs.declared.events.Happened.TheVariants.{FireChoice}
use Rattle.engine_host.proofs.Telling.{made_that_or_used_up}
use Rattle.engine_host.proofs.locked.Locked.fire_choice_for.Goals as goal

pub returns-clause-watch : goal.returns-clause-watch
returns-clause-watch g c =
    let f = c.fire_choice-answer.ensures in
    let told = c.tell.ensures in
    let again = c.tell-2.ensures in
    made_that_or_used_up g.N.Naming.plant g.N.Naming.view c.args.seat.now.watch c.tell.new.watch c.tell-2.new.watch c.tell.new.self c.fire_choice-answer.new.self (FireChoice c.args.choice.now c.args.inputs.now c.fire_choice-answer.result) c.fire_choice-answer.result (is_used_up g.N.Naming.view c.tell.new.self.view) refl
    told.grows (told.told ∙ ap (λ (h : Held). h.history) (sym told.same)) f.made f.spent f.untouched again.told again.legal
