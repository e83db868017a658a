use Rattle.std.proofs.Common.{◌≡◌, subst, ap, ◌∙◌, rules}
use Rattle.record_codec.specs.Bytes.{padded}
use Rattle.record_codec.specs.Identity.{IsIdentity, identity_bytes_of, identity_of}
use Rattle.record_codec.proofs.Identities.{identity_of_reads_back}
use Rattle.record_codec.proofs.identity.Identity.spelled.Goals as goal

pub returns-clause-spelled : goal.returns-clause-spelled
returns-clause-spelled g c = search rules

pub returns-clause-reads_back : goal.returns-clause-reads_back
returns-clause-reads_back g c =
    let version = c.args.version in
    let spelled : c.body.result ≡ padded g.row.LENGTH (identity_bytes_of version c.args.self.now) = returns-clause-spelled g c in
    ap (identity_of version) spelled ∙ identity_of_reads_back version c.args.self.now g.row.LENGTH c.requires.room (subst IsIdentity c.self.view_is c.self.invariant)
