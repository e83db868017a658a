use Rattle.std.proofs.Common.{◌∙◌, w64, SFits, rules}
use Rattle.std.proofs.lemmas.Int.{to_z-of_z}
use Rattle.petri_atom.specs.Local.{value_in}
use Rattle.petri_atom.proofs.Straight.{value-same}
use Rattle.petri_atom.proofs.code.Code.value.Goals as goal

pub returns : goal.returns
returns c tree code =
    let fits : SFits w64 c.value_in_row.result = search rules in
    to_z-of_z w64 c.value_in_row.result fits ∙ c.value_in_row.ensures tree code ∙
    value-same (value_in c.variables.result.now) (value_in c.args.state.now.values) c.variables.ensures.values tree
