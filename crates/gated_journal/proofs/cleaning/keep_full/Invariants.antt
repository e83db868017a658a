use Rattle.std.proofs.lemmas.List.Filters.{FiltersInPlace}
use Rattle.gated_journal.specs.Rings.{is_full_in}
use Rattle.gated_journal.proofs.cleaning.keep_full.Given as goal

abbrev pub invariant-loop-i : goal.invariant-loop-i
invariant-loop-i l = FiltersInPlace (is_full_in l.found) l.initial.places l.places l.count l.i
