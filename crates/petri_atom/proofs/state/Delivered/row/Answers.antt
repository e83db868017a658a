use Rattle.std.proofs.Common.{◌∙◌, ℕ, ap, sym}
use Rattle.petri_atom.specs.Local.{delivered_value}
use Rattle.petri_atom.proofs.Giving.{four_same}
use Rattle.petri_atom.proofs.state.Delivered.row.Goals as goal

pub returns : goal.returns
returns c =
    let at = λ (k : ℕ). ap (λ row. delivered_value row k) (sym c.self.view_is) in
    four_same (c.value.ensures ∙ at 0) (c.value-2.ensures ∙ at 1) (c.value-3.ensures ∙ at 2) (c.value-4.ensures ∙ at 3) ∙ c.self.view_is
