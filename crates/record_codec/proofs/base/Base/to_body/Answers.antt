use Rattle.std.proofs.Common.{◌≡◌, subst, ap, ◌∙◌, rules}
use Rattle.record_codec.specs.Bytes.{padded}
use Rattle.record_codec.specs.Base.{IsBase, base_bytes, base_in}
use Rattle.record_codec.proofs.Bases.{base_reads_back}
use Rattle.record_codec.proofs.base.Base.to_body.Goals as goal

pub returns-clause-spelled : goal.returns-clause-spelled
returns-clause-spelled g c = search rules

pub returns-clause-reads_back : goal.returns-clause-reads_back
returns-clause-reads_back g c =
    let spelled : c.body.result ≡ padded g.row.LENGTH (base_bytes c.args.self.now) = returns-clause-spelled g c in
    ap base_in spelled ∙ base_reads_back c.args.self.now g.row.LENGTH c.requires.room (subst IsBase c.self.view_is c.self.invariant)
