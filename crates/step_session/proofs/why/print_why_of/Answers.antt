use Rattle.std.proofs.Common.{◌≡◌, ◌∙◌, ap, sym, subst}
use Rattle.std.specs.Prelude.{None, OnOk}
use Rattle.std.specs.Option.{option_map_or}
use Rattle.std.specs.Io.KnownBytes.{Appends}
use Rattle.blocked_text.specs.Blocked.{connector_text}
use Rattle.plant_model.specs.Lookup.{connector_named}
use Rattle.step_core.specs.Running.{plant_in, states_in}
use Rattle.step_session.specs.Mistakes.{no_connector_text}
use Rattle.step_session.proofs.why.print_why_of.Goals as goal

pub returns-in-None : goal.returns-in-None
returns-in-None g c =
    let plant = plant_in c.args.run.now in
    let name = c.args.name.now in
    let none : connector_named plant name ≡ None = ap (λ p. connector_named p name) (sym c.system.ensures.plant) ∙ sym c.connector_named.ensures ∙ c.in-None.is in
    subst (λ text. OnOk c.print_no_connector.result (Appends (g.W.Write.contents c.args.output.now) (g.W.Write.contents c.print_no_connector.new.output) text))
    (sym (ap (λ o. option_map_or (connector_text plant (states_in c.args.run.now) c.args.rule_lines.now) o (no_connector_text name)) none))
    c.print_no_connector.ensures
