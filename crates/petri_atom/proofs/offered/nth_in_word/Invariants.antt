use Rattle.std.proofs.Common.{◌≡◌, ◌-◌}
use Rattle.std.specs.Prelude.{slice_get}
use Rattle.petri_atom.specs.Local.{numbers_below}
use Rattle.petri_atom.proofs.offered.nth_in_word.Given as goal

abbrev pub invariant-loop : goal.invariant-loop
invariant-loop l =
    slice_get (numbers_below 64 l.left) (l.place - l.counter) ≡ slice_get (numbers_below 64 l.word) l.place
