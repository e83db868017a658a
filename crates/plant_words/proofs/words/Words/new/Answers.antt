use Rattle.std.proofs.Common.{refl}
use Rattle.plant_words.proofs.words.Words.new.Goals as goal

pub returns-clause-words : goal.returns-clause-words
returns-clause-words c = refl
