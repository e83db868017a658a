use Rattle.std.proofs.Common.{◌≡◌, ◌∙◌, ap, sym, subst}
use Rattle.std.specs.Prelude.{None, Some, OnOk}
use Rattle.std.specs.Option.{option_map_or}
use Rattle.std.specs.Io.KnownBytes.{Appends}
use Rattle.plant_model.specs.Lookup.{connector_named}
use Rattle.step_session.specs.Answers.{fire_only_text, own_numbers}
use Rattle.step_session.specs.Mistakes.{no_connector_text}
use Rattle.step_session.specs.SessionOf.{plant_stepped, session_of}
use Rattle.step_session.proofs.session.Session.fire_named.Goals as goal

pub returns-in-Some-clause-printed : goal.returns-in-Some-clause-printed
returns-in-Some-clause-printed g c =
    let plant = plant_stepped c.args.self.now in
    let session = session_of c.args.self.now in
    let name = c.args.name.now in
    let found : connector_named plant name ≡ Some c.in-Some.connector = ap (λ p. connector_named p name) (sym c.system.ensures.plant) ∙ sym c.connector_named.ensures ∙ c.in-Some.is in
    subst (λ text. OnOk c.fire_only.result (Appends (g.W.Write.contents c.args.output.now) (g.W.Write.contents c.fire_only.new.output) text))
    (sym (ap (λ o. option_map_or (λ k. fire_only_text plant c.args.rule_lines.now session k (own_numbers plant session k)) o (no_connector_text name)) found))
    c.fire_only.ensures.printed

pub returns-in-None-clause-printed : goal.returns-in-None-clause-printed
returns-in-None-clause-printed g c =
    let plant = plant_stepped c.args.self.now in
    let session = session_of c.args.self.now in
    let name = c.args.name.now in
    let none : connector_named plant name ≡ None = ap (λ p. connector_named p name) (sym c.system.ensures.plant) ∙ sym c.connector_named.ensures ∙ c.in-None.is in
    subst (λ text. OnOk c.print_no_connector.result (Appends (g.W.Write.contents c.args.output.now) (g.W.Write.contents c.print_no_connector.new.output) text))
    (sym (ap (λ o. option_map_or (λ k. fire_only_text plant c.args.rule_lines.now session k (own_numbers plant session k)) o (no_connector_text name)) none))
    c.print_no_connector.ensures
