use Rattle.std.proofs.Common.{codes}
use Rattle.plant_tasks.proofs.Printing.{appended_then, counted_as}
use Rattle.plant_tasks.proofs.counts.print_counts.Goals as goal

pub returns : goal.returns
returns g c =
    let atoms = counted_as _ _ (codes "atoms ") _ _ c.atom_count.ensures c.in_ok-print_count.ensures in
    let connectors = counted_as _ _ (codes " connectors ") _ _ c.connector_count.ensures c.in_ok-print_count-2.ensures in
    let interactions = counted_as _ _ (codes " interactions ") _ _ c.interaction_count.ensures c.in_ok-print_count-3.ensures in
    let rules = counted_as _ _ (codes " rules ") _ _ c.rule_count.ensures c.in_ok-print_count-4.ensures in
    appended_then _ _ _ _ _ (appended_then _ _ _ _ _ (appended_then _ _ _ _ _ (appended_then _ _ _ _ _ atoms connectors) interactions) rules)
    c.in_ok-end_line.ensures
