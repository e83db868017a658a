use Rattle.std.proofs.Common.{subst, sym}
use Rattle.plant_model.specs.System.{plant_of}
use Rattle.text_io.specs.Printing.{Prints}
use Rattle.plant_tasks.specs.Reached.{reached_text}
use Rattle.plant_tasks.proofs.Printing.{appended_then, prints_then}
use Rattle.plant_tasks.proofs.reaching.print_reached.Goals as goal

pub returns-in_ok-print_words-in-Waves : goal.returns-in_ok-print_words-in-Waves
returns-in_ok-print_words-in-Waves g c =
    subst (λ shape. Prints c.print_text-in-Waves.result (g.W.Write.contents c.args.output.now) (g.W.Write.contents c.print_text-in-Waves.new.writer)
    (reached_text shape (plant_of c.args.plant.now.system.now) c.args.plant.now.states.now c.args.number c.args.named))
    (sym c.in-Waves.is)
    (prints_then _ _ _ _ _ _ (appended_then _ _ _ _ _ c.in_ok-print_text-in-Waves.ensures c.in_ok-print_words-in-Waves.ensures) c.print_text-in-Waves.ensures)
