use Rattle.std.proofs.Common.{length}
use Rattle.petri_atom.proofs.Sets.{has-above}
use Rattle.petri_atom.proofs.laws.a_marking_within_the_places_fits.Goals as goal

pub returns : goal.returns
returns c a state within values =
    record {
      variables = values;
      places = λ k past. has-above state.marking (length a.places) k within past;
    }
