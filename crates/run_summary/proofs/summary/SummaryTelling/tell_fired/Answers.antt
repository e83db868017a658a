use Rattle.std.proofs.Common.{◌≡◌, ◌∙◌, ◌∷◌, ap, arith, length, map, subst}
use Rattle.plant_model.specs.Chosen.{choice_of}
use Rattle.step_core.specs.Running.{plant_in}
use Rattle.run_text.specs.History.{FiredStep}
use Rattle.run_summary.specs.Counts.{counts_of, kept}
use Rattle.run_summary.specs.Moves.{all_moved_to, moves_of}
use Rattle.run_summary.specs.Totals.{Totals, totals_from}
use Rattle.run_summary.proofs.Moving.{all-totals, totals-long}
use Rattle.run_summary.proofs.summary.SummaryTelling.tell_fired.Goals as goal

pub add_moves-requires : goal.add_moves-requires
add_moves-requires g c =
    let plant = plant_in c.args.run.now in
    let known = c.self.view_is ∙ c.requires.2 in
    omega (arith, ap length (ap (λ (t : Totals). t.atoms) known), totals-long 0 plant.atoms (moves_of plant c.requires.0), c.states.ensures.of_plant)

pub returns-clause-ready : goal.returns-clause-ready
returns-clause-ready g c = λ told before ready fired.
    let plant = plant_in c.args.run.now in
    let choice = choice_of c.args.firing.now.choice.now in
    let step : FiredStep = record { before = before; choice = choice } in
    let was = c.self.view_is ∙ ready in
    let connectors = map (λ (s : FiredStep). s.choice.connector) told in
    let more : c.saturating_add-self-inside.result ≡ kept (length (step ∷ told)) =
    omega (arith, c.saturating_add-self-inside.ensures, ap (λ (t : Totals). t.fired) was) in
    let counted : c.count.new.self ≡ counts_of (length plant.wires) (choice.connector ∷ connectors) =
    subst (λ n. c.count.new.self ≡ counts_of (length plant.wires) (n ∷ connectors)) c.from.ensures
    (c.count.ensures (length plant.wires) connectors (ap (λ (t : Totals). t.connectors) was)) in
    let moved : c.add_moves.new.summaries.items ≡ totals_from 0 plant.atoms (moves_of plant (step ∷ told)) =
    c.add_moves.ensures plant.atoms (moves_of plant told) (ap (λ (t : Totals). t.atoms) was)
    ∙ ap (λ moves. totals_from 0 plant.atoms (all_moved_to c.states.result.now moves (moves_of plant told))) c.as_slice.ensures.moves
    ∙ ap (λ states. totals_from 0 plant.atoms (all_moved_to states choice.moves (moves_of plant told))) (c.states.ensures.states ∙ fired.after) in
    all-totals plant (step ∷ told) c.saturating_add-self-inside.result c.count.new.self c.add_moves.new.summaries.items more counted moved
