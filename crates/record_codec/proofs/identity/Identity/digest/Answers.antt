use Rattle.std.proofs.Common.{rules}
use Rattle.record_codec.proofs.identity.Identity.digest.Goals as goal

pub returns : goal.returns
returns c = search rules
