use Rattle.std.proofs.Common.{◌∙◌, ap}
use Rattle.std.specs.Prelude.{None, position}
use Rattle.std.specs.Option.{option_map_or}
use Rattle.petri_atom.specs.Definition.{AtomDefinition}
use Rattle.petri_atom.specs.Name.{is_same_text}
use Rattle.plant_for_c.proofs.naming.variable_named.Goals as goal

pub returns-in-Some : goal.returns-in-Some
returns-in-Some c =
    c.find_variable.ensures ∙ ap (position (λ p. is_same_text p.name c.args.name.now)) c.variables.ensures
    ∙ ap (λ o. option_map_or (λ (a : AtomDefinition). position (λ p. is_same_text p.name c.args.name.now) a.variables) o None) c.in-Some.ensures
