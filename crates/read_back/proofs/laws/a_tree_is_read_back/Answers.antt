use Rattle.read_back.proofs.Trees.{tree_is_read, one_is_read, fault_is_found}
use Rattle.read_back.proofs.laws.a_tree_is_read_back.Goals as goal

pub returns : goal.returns
returns c = record {
  read = λ atoms t named known none. tree_is_read atoms named t known none;
  one = λ atoms t other named known told. one_is_read atoms named t known other told;
  told = λ atoms t fault named known some is. fault_is_found atoms named t known some fault is;
}
