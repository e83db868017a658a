use Rattle.std.proofs.Common.{◌<◌, ◌^◌, ◌∙◌, sym, arith}
use Rattle.std.proofs.lemmas.Bool.{le-ltb}
use Rattle.petri_atom.proofs.Sets.{has-above}
use Rattle.plant_core.proofs.events.SavedTo.has.Goals as goal

pub returns-else-atom-lt64 : goal.returns-else-atom-lt64
returns-else-atom-lt64 c =
    let atoms = c.args.self.now.atoms in
    let small : atoms < 2 ^ 64 = omega arith in
    le-ltb c.args.atom 64 c.if-atom-lt64.false ∙ sym (has-above atoms 64 c.args.atom small c.if-atom-lt64.false)
