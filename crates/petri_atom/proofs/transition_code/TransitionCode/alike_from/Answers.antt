use Rattle.std.proofs.Common.{◌/◌, ◌^◌, ◌∙◌, ap}
use Rattle.std.specs.Prelude.{bit_and}
use Rattle.petri_atom.specs.Local.{has}
use Rattle.petri_atom.proofs.Halves.{has-from}
use Rattle.petri_atom.proofs.transition_code.TransitionCode.alike_from.Goals as goal

pub returns : goal.returns
returns c n below =
    let word = c.args.self.now.alike in
    ap (λ x. has (bit_and (word / 2 ^ c.args.first) x) n) c.from.ensures ∙ has-from word c.args.first n below
