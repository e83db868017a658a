use Rattle.std.proofs.Common.{◌∙◌, ap, take}
use Rattle.petri_atom.proofs.name.Name.as_bytes.Goals as goal

pub returns : goal.returns
returns c = ap (λ n. take n c.self.inside.bytes) c.from.ensures ∙ c.self.view_is
