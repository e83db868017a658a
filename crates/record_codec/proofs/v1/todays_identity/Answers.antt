use Rattle.std.proofs.Common.{refl}
use Rattle.record_codec.specs.FirstLayout.{todays_body, todays_identity}
use Rattle.record_codec.proofs.v1.todays_identity.Goals as goal

pub returns : goal.returns
unfolding todays_body todays_identity
returns c = rw (← c.in-Some.ensures, c.body.ensures, c.bytes-2.ensures.written, c.two.ensures.written, c.bytes.ensures.written, c.new-writer.ensures, c.todays_version.ensures, c.split_at.ensures.back) refl
