use Rattle.std.proofs.Common.{◌≡◌, ◌∙◌, sym, ap, subst, codes, None, OnOk}
use Rattle.std.specs.Option.{option_map_or}
use Rattle.std.specs.Io.KnownBytes.{Appends}
use Rattle.plant_model.specs.Choice.{is_marked_at, named}
use Rattle.plant_model.specs.Interaction.{interaction_of}
use Rattle.plant_model.specs.System.{plant_of}
use Rattle.blocked_text.specs.Way.{first_rule, rule_with_line}
use Rattle.blocked_text.proofs.way.print_by.Goals as goal

pub returns-in-None : goal.returns-in-None
returns-in-None g c =
    let plant = plant_of c.args.report.now.system.now in
    let marked = is_marked_at c.args.report.now.states.now in
    let lower = named (interaction_of c.args.lower.now) in
    let higher = named (interaction_of c.args.higher.now) in
    let none : first_rule marked plant.rules lower higher ≡ None = ap (λ rules. first_rule marked rules lower higher) (sym c.rules.ensures) ∙ sym c.first_rule-rule.ensures ∙ c.in-None.is in
    subst (λ o. OnOk c.print_text.result (Appends (g.W.Write.contents c.args.output.now) (g.W.Write.contents c.print_text.new.writer) (option_map_or (rule_with_line plant c.args.report.now.lines.now) o (codes " (by a chain of rules)")))) (sym none) c.print_text.ensures
