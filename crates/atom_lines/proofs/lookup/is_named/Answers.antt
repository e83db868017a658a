use Rattle.std.proofs.Common.{◌∙◌, ap}
use Rattle.petri_atom.specs.Name.{is_same_text}
use Rattle.atom_lines.proofs.Taken.{named_by, named_past}
use Rattle.atom_lines.proofs.lookup.is_named.Goals as goal

pub returns-in-Some : goal.returns-in-Some
returns-in-Some c =
    c.eq.ensures
    ∙ ap (λ text. is_same_text text c.args.name.now) c.as_bytes.ensures
    ∙ named_by c.args.variables.now c.args.name.now c.args.number c.from.result c.in-Some.variable.now c.from.ensures c.in-Some.ensures.lookup.3.0 c.in-Some.ensures.lookup.1

pub returns-in-None : goal.returns-in-None
returns-in-None c = named_past c.args.variables.now c.args.name.now c.args.number c.from.result c.from.ensures c.in-None.ensures.lookup.3
