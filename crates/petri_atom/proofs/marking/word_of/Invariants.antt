use Rattle.std.proofs.Common.{◌≡◌, take}
use Rattle.petri_atom.specs.Local.{is_in, set_below}
use Rattle.petri_atom.specs.declared.state.TheConstants.{MAX_PLACES}
use Rattle.petri_atom.proofs.marking.word_of.Given as goal

abbrev pub invariant-loop-place : goal.invariant-loop-place
invariant-loop-place l = l.word ≡ set_below MAX_PLACES (is_in (take l.place-index l.places))
