use Rattle.std.proofs.Common.{ap, sym, ◌∙◌, refl, subst}
use Rattle.engine_host.specs.Held.{Held}
use Rattle.engine_host.specs.History.{IsHistory}
use Rattle.engine_host.specs.Views.{is_used_up}
use Rattle.engine_host.proofs.Working.{begun}
use Rattle.engine_host.proofs.locked.Locked.begin_for.Goals as goal

pub returns-clause-watch : goal.returns-clause-watch
returns-clause-watch g c =
    let b = c.begin-answer.ensures in
    let told = c.tell.ensures in
    let again = c.tell-2.ensures in
    begun g.N.Naming.plant g.N.Naming.view c.args.seat.now.watch c.tell.new.watch c.tell-2.new.watch c.tell.new.self c.begin-answer.new.self c.args.pick c.args.inputs.now c.begin-answer.result _ (is_used_up g.N.Naming.view c.tell.new.self.view) refl
    told.grows (told.told ∙ ap (λ (h : Held). h.history) (sym told.same)) (subst (λ (h : Held). IsHistory g.N.Naming.plant g.N.Naming.view c.tell.new.watch h.view) (sym told.same) told.legal)
    b.made b.spent b.untouched b.jobs b.none again.told again.legal
