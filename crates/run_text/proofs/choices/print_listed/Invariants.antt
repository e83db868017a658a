-- The choices from this place on are left.
use Rattle.std.proofs.Common.{◌-◌, ◌≤◌, drop}
use Rattle.std.specs.Prelude.{take}
use Rattle.plant_model.specs.System.{plant_of}
use Rattle.run_text.specs.Choices.{choice_text}
use Rattle.text_io.specs.Numbered.{numbered}
use Rattle.text_io.proofs.Leading.{Leads}
use Rattle.run_text.proofs.choices.print_listed.Given as goal

abbrev pub invariant-loop-place : goal.invariant-loop-place
invariant-loop-place g l = record {
  within : l.place ≤ l.listed;
  left : Leads (g.W.Write.contents l.initial.output) (g.W.Write.contents l.output)
      (numbered (choice_text (plant_of l.system)) l.place (drop l.place (take l.listed (g.L.Listed.listed l.run))))
      (numbered (choice_text (plant_of l.system)) 0 (take l.listed (g.L.Listed.listed l.run)));
}

abbrev pub decreases-loop-place : goal.decreases-loop-place
decreases-loop-place g l = l.listed - l.place
