use Rattle.std.proofs.Common.{◌&&◌, sym, ◌∙◌, ap, subst}
use Rattle.petri_atom.specs.Arcs.{AreArcsOf}
use Rattle.petri_atom.specs.Atom.{definition_of}
use Rattle.petri_atom.specs.Groups.{can_move_number}
use Rattle.petri_atom.specs.Local.{has, set_below}
use Rattle.petri_atom.proofs.atom.Atom.moving.Goals as goal

pub returns : goal.returns
returns c =
    let atom = c.args.self.now in
    let ts = (definition_of atom).transitions in
    c.moving.ensures ts (subst (λ arcs. AreArcsOf arcs ts) (sym c.deref.ensures.value) atom.drawn) ∙
    ap (λ m. set_below 128 (λ n. has c.args.set n && can_move_number ts m n)) c.places.ensures
