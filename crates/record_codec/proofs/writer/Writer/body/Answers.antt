use Rattle.std.proofs.Common.{ap, ◌∙◌}
use Rattle.record_codec.specs.Bytes.{padded}
use Rattle.record_codec.proofs.Written.{padded-take}
use Rattle.record_codec.proofs.writer.Writer.body.Goals as goal

pub returns : goal.returns
returns g c =
    let s = c.self.inside in
    padded-take s.body s.position g.row.LENGTH c.self.told c.self.invariant.0 c.self.invariant.1 ∙ ap (padded g.row.LENGTH) c.self.view_is
