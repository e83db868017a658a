use Rattle.std.proofs.Common.{ap, ◌∙◌}
use Rattle.plant_core.specs.Plants.{definition_of}
use Rattle.front_word.specs.Fronts.{last_of}
use Rattle.engine_host.specs.Held.{Held, held_by}
use Rattle.engine_host.specs.History.{fronts}
use Rattle.engine_host.specs.Views.{front_in}
use Rattle.engine_host.proofs.Kept.{kept_last}
use Rattle.engine_host.proofs.locked.Locked.tell.Goals as goal

pub returns-clause-front : goal.returns-clause-front
returns-clause-front g c =
    let l = c.self.inside in
    c.tell.ensures.front ∙ (ap (λ es. last_of g.N.WordNaming.opening (fronts es)) c.tell.ensures.whole
    ∙ (kept_last g.N.Naming.plant g.N.Naming.view g.N.Naming.digest g.N.Naming.keeps g.N.WordNaming.opening (definition_of l.plant) (held_by l.plant l.publisher l.book.total) c.self.invariant ∙ ap (λ (h : Held). front_in h.view) c.self.view_is))
