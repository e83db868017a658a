use Rattle.std.proofs.Common.{ap, w64}
use Rattle.std.proofs.Math.Seq.{take-set-lt}
use Rattle.std.proofs.lemmas.Int.{to_z-of_z}
use Rattle.petri_atom.proofs.state.AtomState.assign.Goals as goal

pub returns-then-variable-self-clause-values : goal.returns-then-variable-self-clause-values
returns-then-variable-self-clause-values c =
    let values = ap (λ s. s.values) c.self.view_is in
    rw (c.from.ensures, to_z-of_z w64 c.args.value c.ranges.value, ← values)
    (take-set-lt _ _ _ _ c.if-variable-self.true)
