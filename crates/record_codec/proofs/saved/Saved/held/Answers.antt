use Rattle.std.proofs.Common.{arith, rules}
use Rattle.std.proofs.lemmas.Bool.Decides.{nat_tests}
use Rattle.record_codec.specs.Saved.{saved_in}
use Rattle.record_codec.proofs.Numbers.{length-signed_numbers}
use Rattle.record_codec.proofs.saved.Saved.held.Goals as goal

pub returns-then-variables-gt-MOST_VARIABLES-clause-exact : goal.returns-then-variables-gt-MOST_VARIABLES-clause-exact
unfolding saved_in
returns-then-variables-gt-MOST_VARIABLES-clause-exact g c = grind (arith, nat_tests, length-signed_numbers)

pub new-saved-requires : goal.new-saved-requires
new-saved-requires g c = record { atom_within = omega arith; count_within = omega arith; at_within = omega arith; values_within = search rules }
