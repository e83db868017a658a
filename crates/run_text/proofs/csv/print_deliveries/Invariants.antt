-- What the participants from this place on got is left.
use Rattle.std.proofs.Common.{[], drop, get_or}
use Rattle.plant_model.specs.System.{plant_of}
use Rattle.text_io.specs.Numbered.{numbered}
use Rattle.text_io.specs.declared.format.Format.TheVariants.{Csv}
use Rattle.text_io.proofs.Leading.{Leads}
use Rattle.run_text.specs.Csv.{participant_words}
use Rattle.run_text.specs.ByRows.{words_by_rows}
use Rattle.run_text.specs.Word.{between_text, separated_after, separated_by}
use Rattle.run_text.proofs.csv.print_deliveries.Given as goal

abbrev pub invariant-loop-place : goal.invariant-loop-place
invariant-loop-place g l =
    Leads (g.W.Write.contents l.initial.output) (g.W.Write.contents l.output)
    (separated_after l.before (between_text Csv) (numbered (λ place m. participant_words (plant_of l.system) m (get_or l.delivered place [])) l.place (drop l.place l.moves)))
    (separated_by (between_text Csv) (words_by_rows (plant_of l.system) l.delivered l.moves))
