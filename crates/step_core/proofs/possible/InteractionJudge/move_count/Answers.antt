use Rattle.std.proofs.Common.{◌∙◌, sym, map, arith}
use Rattle.std.proofs.lemmas.List.{length-map}
use Rattle.petri_atom.specs.Atom.{definition_of}
use Rattle.step_core.proofs.Judging.{counted-moves}
use Rattle.step_core.proofs.possible.InteractionJudge.move_count.Goals as goal

pub returns-clause-few : goal.returns-clause-few
returns-clause-few c =
    omega (arith, c.from.ensures, c.count_at.ensures, c.args.self.now.counted.few c.args.port.now.atom c.args.port.now.port)

pub returns-clause-count : goal.returns-clause-count
returns-clause-count c =
    let judged = c.args.self.now in
    let atoms = map definition_of judged.atoms.now in
    c.from.ensures ∙ c.count_at.ensures ∙
    counted-moves atoms judged.states.now judged.offers.now.sets judged.offers.now.counts (judged.as_many ∙ sym (length-map judged.atoms.now definition_of)) judged.exact judged.counted c.args.port.now
