-- The guard clauses from this number on are left.
use Rattle.std.proofs.Common.{drop, map}
use Rattle.std.specs.Prelude.{flat_map}
use Rattle.petri_atom.specs.Expression.{tree_of}
use Rattle.text_io.specs.Numbered.{numbered}
use Rattle.text_io.proofs.Leading.{Leads}
use Rattle.plant_warnings.specs.Connectors.{guard_warnings}
use Rattle.plant_warnings.specs.Report.{line_in}
use Rattle.plant_warnings.proofs.connectors.print_of_guards.Given as goal

abbrev pub invariant-loop-guard : goal.invariant-loop-guard
invariant-loop-guard g l =
    Leads (g.W.Write.contents l.initial.output) (g.W.Write.contents l.output)
    (flat_map (line_in l.report) (numbered (guard_warnings l.number) l.guard (drop l.guard (map tree_of l.guards))))
    (flat_map (line_in l.report) (numbered (guard_warnings l.number) 0 (map tree_of l.guards)))
