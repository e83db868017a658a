use Rattle.std.proofs.Common.{◌+◌, refl, ◌&&◌, sym, ◌∙◌, ap, subst}
use Rattle.petri_atom.specs.Arcs.{AreArcsOf}
use Rattle.petri_atom.specs.Atom.{definition_of}
use Rattle.petri_atom.specs.Groups.{can_move_number}
use Rattle.petri_atom.specs.Local.{has, set_below}
use Rattle.petri_atom.proofs.Few.{from-zero}
use Rattle.petri_atom.proofs.atom.Atom.moving_few.Goals as goal

pub returns : goal.returns
returns c =
    let atom = c.args.self.now in
    let ts = (definition_of atom).transitions in
    c.moving_from.ensures ts (subst (λ arcs. AreArcsOf arcs ts) (sym c.deref.ensures.value) atom.drawn) ∙
    ap (λ m. set_below 64 (λ n. has c.args.set n && can_move_number ts m (0 + n))) c.places.ensures ∙
    from-zero 64 c.args.set c.args.set (can_move_number ts c.args.state.now.marking) refl
