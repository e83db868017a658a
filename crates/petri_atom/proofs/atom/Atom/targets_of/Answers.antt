use Rattle.std.proofs.Common.{sym, ◌∙◌, ap, arith, length}
use Rattle.std.specs.Prelude.{Option, slice_get}
use Rattle.std.specs.Option.{option_map_or}
use Rattle.std.proofs.lemmas.Option.{slice_get_past}
use Rattle.petri_atom.specs.Atom.{definition_of}
use Rattle.petri_atom.specs.Definition.{TransitionDefinition}
use Rattle.petri_atom.specs.Local.{is_in, set_below}
use Rattle.petri_atom.proofs.Drawn.{arcs-at}
use Rattle.petri_atom.proofs.atom.Atom.targets_of.Goals as goal

pub returns-in-Some : goal.returns-in-Some
returns-in-Some c =
    let atom = c.args.self.now in
    let ts = (definition_of atom).transitions in
    let found = c.in-Some.ensures.lookup in
    let at = arcs-at atom.arcs.items c.deref.result.now ts c.from.result c.in-Some.arcs.now c.deref.ensures.value atom.drawn found.3.0 found.1 in
    at.2.targets ∙
    sym (ap (λ (o : Option TransitionDefinition). option_map_or (λ t. set_below 64 (is_in t.targets)) o 0) (ap (slice_get ts) (sym c.from.ensures) ∙ at.1))

pub returns-in-None : goal.returns-in-None
returns-in-None c =
    let atom = c.args.self.now in
    let ts = (definition_of atom).transitions in
    sym (ap (λ (o : Option TransitionDefinition). option_map_or (λ t. set_below 64 (is_in t.targets)) o 0) (slice_get_past ts c.args.transition (omega (arith, c.in-None.ensures.lookup.3, c.from.ensures, atom.drawn.0, ap length c.deref.ensures.value))))
