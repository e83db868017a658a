use Rattle.std.proofs.Common.{ap, sym, ◌∙◌}
use Rattle.step_core.specs.Job.{job_done}
use Rattle.plant_core.specs.Backs.{refusal_in}
use Rattle.engine_host.specs.Held.{Held}
use Rattle.engine_host.proofs.Working.{handed_back}
use Rattle.engine_host.proofs.locked.Locked.back_for.Goals as goal

pub returns-clause-watch : goal.returns-clause-watch
returns-clause-watch g c =
    let told = c.tell.ensures in
    let again = c.tell-2.ensures in
    let it = c.back.ensures.made in
    handed_back g.N.Naming.plant g.N.Naming.view c.args.seat.now.watch c.tell.new.watch c.tell-2.new.watch c.tell.new.self c.back.new.self (job_done c.args.done)
    told.grows (told.told ∙ ap (λ (h : Held). h.history) (sym told.same)) (it.0, (refusal_in c.back.result, it.1, it.2)) again.told again.legal
