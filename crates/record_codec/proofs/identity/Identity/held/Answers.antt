use Rattle.std.proofs.Common.{arith, rules}
use Rattle.record_codec.proofs.identity.Identity.held.Goals as goal

pub new-identity-requires : goal.new-identity-requires
new-identity-requires g c = record { some_atom = omega arith; atoms_within = omega arith; ring_from = omega arith; ring_within = omega arith; digest_len = search rules }
