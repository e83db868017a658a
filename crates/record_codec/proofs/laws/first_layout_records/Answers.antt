use Rattle.record_codec.proofs.FirstLayout.{fired_in-todays_record}
use Rattle.record_codec.proofs.laws.first_layout_records.Goals as goal

pub returns : goal.returns
returns c = fired_in-todays_record
