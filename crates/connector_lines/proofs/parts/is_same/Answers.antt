-- The test computes to the definition, field by field.
use Rattle.std.proofs.Common.{refl}
use Rattle.connector_lines.proofs.parts.is_same.Goals as goal

pub returns : goal.returns
returns c = refl
