use Rattle.record_codec.proofs.FirstLayout.{base_in-todays_body}
use Rattle.record_codec.proofs.laws.first_layout_bases.Goals as goal

pub returns : goal.returns
returns c = base_in-todays_body
