use Rattle.read_back.proofs.Variables.{found, read_alone, read_before}
use Rattle.read_back.proofs.laws.an_expression_of_an_atom_is_read_back.Goals as goal

pub returns : goal.returns
returns c = record {
  variable = λ a v named known. found a named v known;
  alone = λ a e named held. read_alone a named e held;
  before = λ a e behind named held. read_before a named e behind held;
}
