use Rattle.record_codec.proofs.Bases.{held_base_is_spelled, spelled_base_is_held}
use Rattle.record_codec.proofs.laws.base_grammar.Goals as goal

pub returns : goal.returns
returns c = λ body number. (held_base_is_spelled body number, spelled_base_is_held body number)
