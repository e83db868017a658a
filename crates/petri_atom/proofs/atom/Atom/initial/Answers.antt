use Rattle.std.proofs.Common.{◌∙◌, ap, length}
use Rattle.std.proofs.lemmas.List.{length-map}
use Rattle.petri_atom.specs.Local.{has, set_below}
use Rattle.petri_atom.specs.Definition.{is_marked_first}
use Rattle.petri_atom.proofs.Sets.{has-above, set_below-lt}
use Rattle.petri_atom.proofs.atom.Atom.initial.Goals as goal

pub returns-clause-fits : goal.returns-clause-fits
returns-clause-fits c =
    let places = c.args.self.now.places.items in
    let marking = c.first.ensures.marking ∙ ap (λ ps. set_below (length ps) (is_marked_first ps)) c.deref.ensures.value in
    record {
      variables = ap length c.first.ensures.values ∙ length-map _ _ ∙ ap length c.deref-2.ensures.value;
      places = λ k past. ap (λ m. has m k) marking ∙ has-above (set_below (length places) (is_marked_first places)) (length places) k (set_below-lt (length places) (is_marked_first places)) past;
    }
