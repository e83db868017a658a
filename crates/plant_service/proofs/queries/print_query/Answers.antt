use Rattle.std.proofs.Common.{sym, subst, List, ℕ}
use Rattle.std.specs.Io.KnownBytes.{Appends}
use Rattle.std.proofs.KnownBytes.{Appends-trans}
use Rattle.std.proofs.lemmas.Result.{on_ok_weaker}
use Rattle.plant_core.specs.Plants.{definition_of, view_of}
use Rattle.plant_service.specs.Queries.{query_text}
use Rattle.plant_service.specs.declared.command.Command.{Command}
use Rattle.plant_service.proofs.Fronts.{front-same}
use Rattle.plant_service.proofs.queries.print_query.Goals as goal

pub returns-in-Why-clause-states : goal.returns-in-Why-clause-states
returns-in-Why-clause-states g c = c.show.ensures.as_many

pub returns-in-WhyOf-clause-states : goal.returns-in-WhyOf-clause-states
returns-in-WhyOf-clause-states g c = c.show-in-WhyOf.ensures.as_many

pub returns-in_ok-print_front-in-Front-clause-printed : goal.returns-in_ok-print_front-in-Front-clause-printed
returns-in_ok-print_front-in-Front-clause-printed g c =
    let p = c.args.plant.now in
    let old = g.W.Write.contents c.args.output.now in
    let mid = g.W.Write.contents c.print_front.new.output in
    let new = g.W.Write.contents c.end_line.new.writer in
    let known = c.front.ensures in
    on_ok_weaker c.end_line.result
    (λ ended. subst (λ (k : Command). Appends old new (query_text (definition_of p) c.args.rule_lines.now (view_of p) c.args.line.now k)) (sym c.in-Front.is)
    (Appends-trans old mid new _ _ (subst (λ (text : List ℕ). Appends old mid text) (front-same (view_of p) c.front.result known.fired known.acked known.base) c.in_ok-print_front-in-Front.ensures) ended))
    c.end_line.ensures
