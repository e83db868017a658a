use Rattle.record_codec.proofs.FirstLayout.{saved_in-todays_body}
use Rattle.record_codec.proofs.laws.first_layout_saved_states.Goals as goal

pub returns : goal.returns
returns c = saved_in-todays_body
