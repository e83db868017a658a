use Rattle.record_codec.specs.declared.layout.TheConstants.{MOST_ENTRIES}
use Rattle.record_codec.specs.Fired.{fired_in}
use Rattle.record_codec.proofs.Records.{held_fired_is_spelled, spelled_fired_is_held}
use Rattle.record_codec.proofs.laws.fired_grammar.Goals as goal

pub returns-clause-this_layout : goal.returns-clause-this_layout
unfolding fired_in
returns-clause-this_layout c = λ body fired bytes. (held_fired_is_spelled MOST_ENTRIES body fired bytes, spelled_fired_is_held MOST_ENTRIES body fired)

pub returns-clause-any_layout : goal.returns-clause-any_layout
returns-clause-any_layout c = λ most body fired bytes. (held_fired_is_spelled most body fired bytes, spelled_fired_is_held most body fired)
