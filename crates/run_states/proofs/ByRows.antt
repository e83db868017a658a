-- What stands before the state after a firing, by the rows that it delivered, is what is said of the choice that was fired.
use Rattle.std.proofs.Common.{◌≡◌, ap, List, ◌++◌, codes}
use Rattle.petri_atom.specs.Local.{Local}
use Rattle.plant_model.specs.Plant.{PlantDefinition}
use Rattle.plant_model.specs.Chosen.{choice_of}
use Rattle.plant_model.specs.Delivery.{IsDelivered}
use Rattle.plant_model.specs.Step.{transfer}
use Rattle.text_io.specs.declared.format.Format.{Format}
use Rattle.text_io.specs.declared.format.Format.TheVariants.{Lines, Csv, Jsonl}
use Rattle.run_text.specs.Alone.{alone}
use Rattle.run_text.specs.Jsonl.{fired_members}
use Rattle.run_text.specs.declared.fired.Firing.{Firing}
use Rattle.run_text.proofs.ByRows.{step-by-rows, objects-by-rows}
use Rattle.run_states.specs.States.{fired_begin}
use Rattle.run_states.specs.ByRows.{begin_by_rows}

-- in each format
pub begin-by-rows : (format : Format) (plant : PlantDefinition) (states : List Local) (f : Firing)
    → IsDelivered f.choice.now.moves (transfer plant states (alone (choice_of f.choice.now))) f.delivered.now
    → begin_by_rows format plant f ≡ fired_begin format plant states f.number (choice_of f.choice.now)
begin-by-rows Lines plant states f rows_are = ap (λ line. line ++ codes "\n") (step-by-rows Lines plant states f rows_are)
begin-by-rows Csv plant states f rows_are = step-by-rows Csv plant states f rows_are
begin-by-rows Jsonl plant states f rows_are =
    let c = choice_of f.choice.now in
    ap (fired_members plant f.number c) (objects-by-rows plant states c f.delivered.now rows_are)
