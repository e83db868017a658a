use Rattle.std.proofs.Common.{sym}
use Rattle.plant_model.specs.System.{plant_of}
use Rattle.recorded_picks.proofs.Reading.{read-more}
use Rattle.recorded_picks.proofs.choice.read_moves.Goals as goal

pub loop-word-preserved : goal.loop-word-preserved
loop-word-preserved c =
    read-more (plant_of c.args.names.now.system.now) c.args.words.now c.loop-word.words c.next_word.new.self c.in-Some.word.now c.loop-word.moves c.in-Some.ensures.word c.loop-word.invariant
    c.in_ok-step.step c.with_move-moves.result (sym c.in_ok-step.ensures) c.with_move-moves.ensures
