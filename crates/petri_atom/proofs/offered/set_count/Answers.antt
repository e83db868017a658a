use Rattle.std.proofs.Common.{◌*◌, ◌%◌, ◌^◌, ◌∙◌, ◌&&◌, ap, arith, eqb, not, get_or}
use Rattle.std.specs.Int.{w32}
use Rattle.petri_atom.specs.Local.{has}
use Rattle.petri_atom.proofs.Sets.{has-bit}
use Rattle.petri_atom.proofs.offered.set_count.Goals as goal

pub returns-clause-exact : goal.returns-clause-exact
returns-clause-exact c k =
    let number = c.from-place.ensures in
    ap (λ x. has (x * 2 ^ c.args.port % 2 ^ 32) k) c.from.ensures ∙
    has-bit w32 c.args.port k (not (eqb c.args.count (get_or c.args.counts.now c.from-place.result 0))) (omega (arith, c.requires)) ∙
    ap (λ p. eqb k c.args.port && not (eqb c.args.count (get_or c.args.counts.now p 0))) number
