use Rattle.std.proofs.Common.{◌<◌, ap, arith, codes, length, map}
use Rattle.std.proofs.KnownBytes.{Appends-trans}
use Rattle.std.proofs.lemmas.List.{drop_more}
use Rattle.petri_atom.specs.Atom.{definition_of}
use Rattle.plant_model.specs.declared.choice.Move.{Move}
use Rattle.text_io.proofs.Leading.{leads-more, leads-same}
use Rattle.run_text.specs.Line.{participant}
use Rattle.run_text.specs.Word.{separated_after}
use Rattle.run_text.proofs.fired.print_moves.Goals as goal

-- atom 0 and its transition 0
abbrev none : Move
none = record { atom = 0; transition = 0 }

pub loop-step-preserved : goal.loop-step-preserved
loop-step-preserved g c =
    let moves = c.args.moves.now in
    let i = c.loop-step.step-index in
    let within : i < length moves = omega arith in
    let left = ap (λ rest. separated_after c.loop-step.between.now (codes " ") (map (participant (map definition_of c.args.atoms.now)) rest)) (drop_more moves i none within) in
    leads-more _ _ _ _ _ _ (leads-same c.loop-step.invariant left) (Appends-trans _ _ _ _ _ c.in_ok-print_text.ensures c.in_ok-print_move.ensures)
