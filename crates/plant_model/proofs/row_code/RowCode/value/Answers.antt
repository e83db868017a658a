use Rattle.std.proofs.Common.{◌∙◌, ap, w64, SFits, rules}
use Rattle.std.specs.Prelude.{slice_get}
use Rattle.std.proofs.lemmas.Int.{to_z-of_z}
use Rattle.petri_atom.specs.Local.{value_in}
use Rattle.plant_model.specs.Numbering.{numbered}
use Rattle.plant_model.specs.Values.{value_there}
use Rattle.plant_model.proofs.Numbered.{numbered-value}
use Rattle.plant_model.proofs.row_code.RowCode.value.Goals as goal

pub returns : goal.returns
returns c = λ tree (listed, coded).
    let list = c.args.self.now.variables.items in
    let fits : SFits w64 c.value_in_row.result = search rules in
    to_z-of_z w64 c.value_in_row.result fits ∙ c.value_in_row.ensures (numbered list tree) coded ∙
    numbered-value list (value_there c.args.states.now) (value_in c.load.new.row)
    (λ k v at. c.load.ensures k v (ap (λ vs. slice_get vs k) c.deref.ensures.value ∙ at))
    tree listed
