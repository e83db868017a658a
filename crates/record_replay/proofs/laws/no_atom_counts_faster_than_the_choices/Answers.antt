use Rattle.record_replay.proofs.Counting.{behind-within, length-behind}
use Rattle.record_replay.proofs.laws.no_atom_counts_faster_than_the_choices.Goals as goal

pub returns-clause-counts : goal.returns-clause-counts
returns-clause-counts c = λ counts n cs all. behind-within cs counts n all

pub returns-clause-as_many : goal.returns-clause-as_many
returns-clause-as_many c = λ counts cs. length-behind cs counts
