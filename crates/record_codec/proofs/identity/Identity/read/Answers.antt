use Rattle.record_codec.specs.Identity.{IsIdentityBodyOf, identity_of}
use Rattle.record_codec.proofs.Spelled.{answered}
use Rattle.record_codec.proofs.Identities.{held_identity_is_spelled, spelled_identity_is_held}
use Rattle.record_codec.proofs.identity.Identity.read.Goals as goal

pub returns : goal.returns
returns g c =
    let version = c.args.version in
    let body = c.args.body.now in
    answered (IsIdentityBodyOf version body) c.held.result (identity_of version body) c.held.ensures (held_identity_is_spelled version body) (spelled_identity_is_held version body)
