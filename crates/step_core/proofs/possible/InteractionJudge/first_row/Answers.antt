use Rattle.std.proofs.Common.{[], ◌∷◌, ◌++◌, map, sym, ◌∙◌, ap, arith}
use Rattle.std.proofs.lemmas.List.{take_all}
use Rattle.plant_model.specs.Choice.{moves_of}
use Rattle.plant_model.specs.declared.choice.Move.{Move}
use Rattle.step_core.specs.Judges.{judged_atoms}
use Rattle.step_core.proofs.FirstRow.{first, first-more, first-row, some-each}
use Rattle.step_core.proofs.possible.InteractionJudge.first_row.Goals as goal

pub first_move-requires : goal.first_move-requires
first_move-requires c =
    let judged = c.args.self.now in
    some-each (moves_of (judged_atoms judged) judged.states.now) (record { atom = 0; transition = 0 }) c.args.ports.now c.loop-port.port-index _ c.loop-port-test.true c.requires.some

pub loop-port-preserved : goal.loop-port-preserved
loop-port-preserved c =
    let judged = c.args.self.now in
    let moves = moves_of (judged_atoms judged) judged.states.now in
    let none : Move = record { atom = 0; transition = 0 } in
    c.push.ensures ∙ ap (λ ms. ms ++ c.first_move.result ∷ []) c.loop-port.invariant ∙
    sym (first-more moves none c.args.ports.now c.loop-port.port-index _ c.first_move.result c.loop-port-test.true c.first_move.ensures)

pub returns : goal.returns
returns c =
    let judged = c.args.self.now in
    let moves = moves_of (judged_atoms judged) judged.states.now in
    let none : Move = record { atom = 0; transition = 0 } in
    c.loop-port.invariant ∙
    ap (map (first moves none)) (take_all c.loop-port.port-index c.args.ports.now (omega (arith, c.loop-port-test.false))) ∙
    sym (first-row moves none c.args.ports.now c.requires.some)
