use Rattle.record_codec.proofs.SavedStates.{held_saved_is_spelled, spelled_saved_is_held}
use Rattle.record_codec.proofs.laws.saved_grammar.Goals as goal

pub returns : goal.returns
returns c = λ body saved bytes. (held_saved_is_spelled body saved bytes, spelled_saved_is_held body saved)
