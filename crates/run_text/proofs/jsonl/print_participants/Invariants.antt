-- The participants from this place on are left.
use Rattle.std.proofs.Common.{[], ◌∷◌, codes, drop, get_or}
use Rattle.plant_model.specs.System.{plant_of}
use Rattle.text_io.specs.Numbered.{numbered}
use Rattle.text_io.proofs.Leading.{Leads}
use Rattle.run_text.specs.Jsonl.{move_object}
use Rattle.run_text.specs.ByRows.{objects_by_rows}
use Rattle.run_text.specs.Word.{separated_after, separated_by}
use Rattle.run_text.proofs.jsonl.print_participants.Given as goal

abbrev pub invariant-loop-place : goal.invariant-loop-place
invariant-loop-place g l =
    Leads (g.W.Write.contents l.initial.output) (g.W.Write.contents l.output)
    (separated_after l.between (codes ",") (numbered (λ place m. move_object (plant_of l.system) m (get_or l.delivered place []) ∷ []) l.place (drop l.place l.moves)))
    (separated_by (codes ",") (objects_by_rows (plant_of l.system) l.delivered l.moves))
