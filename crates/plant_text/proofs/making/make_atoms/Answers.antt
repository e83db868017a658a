use Rattle.petri_atom.specs.Atom.{definition_of}
use Rattle.atom_lines.specs.Draft.{drafted}
use Rattle.plant_text.proofs.Listing.{one_more}
use Rattle.plant_text.proofs.making.make_atoms.Goals as goal

pub loop-draft-preserved : goal.loop-draft-preserved
loop-draft-preserved c =
    one_more definition_of drafted c.loop-draft.atoms.items c.push.new.self.items c.in_ok-into_atom.field-0 c.loop-draft.yielded c.in-Some.draft c.in_ok-push.ensures.items c.loop-draft.invariant c.in_ok-into_atom.ensures.made
