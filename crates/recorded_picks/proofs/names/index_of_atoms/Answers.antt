use Rattle.std.proofs.Common.{◌∙◌, ap}
use Rattle.petri_atom.specs.Atom.{definition_of}
use Rattle.recorded_picks.specs.Names.{place_of}
use Rattle.recorded_picks.proofs.Apart.{new-name}
use Rattle.recorded_picks.proofs.names.index_of_atoms.Goals as goal

pub add-requires : goal.add-requires
add-requires c =
    ap (place_of c.loop-atom.names) (c.as_bytes.ensures ∙ c.name.ensures)
    ∙ new-name (λ a. (definition_of a).name) c.args.atoms.now c.loop-atom.atom-index c.atom-item.result c.loop-atom-test.true c.atom-item.is c.loop-atom.names c.loop-atom.invariant c.requires
