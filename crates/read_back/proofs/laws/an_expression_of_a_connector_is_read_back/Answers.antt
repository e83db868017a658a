use Rattle.read_back.proofs.Exports.{found, read_alone, read_before}
use Rattle.read_back.proofs.laws.an_expression_of_a_connector_is_read_back.Goals as goal

pub returns : goal.returns
returns c = record {
  variable = λ atoms ports e named formed unique known. found atoms ports named formed unique e known;
  alone = λ atoms ports e named formed unique held. read_alone atoms ports named formed unique e held;
  before = λ atoms ports e behind named formed unique held. read_before atoms ports named formed unique e behind held;
}
