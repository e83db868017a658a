-- The atoms before this one that keep the first record are printed.
use Rattle.std.proofs.Common.{◌≡◌}
use Rattle.std.specs.Io.KnownBytes.{Appends}
use Rattle.plant_core.specs.Plants.{definition_of, view_of}
use Rattle.plant_service.specs.Queries.{holders_text, is_any_held}
use Rattle.plant_service.proofs.room.print_held.Given as goal

abbrev pub invariant-loop-atom : goal.invariant-loop-atom
invariant-loop-atom g l = record {
  printed : Appends (g.W.Write.contents l.initial.output) (g.W.Write.contents l.output) (holders_text (definition_of l.plant) (view_of l.plant) l.atom);
  any : l.is_any ≡ is_any_held (view_of l.plant) l.atom;
}
