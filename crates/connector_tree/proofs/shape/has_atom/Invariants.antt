use Rattle.std.proofs.Common.{◌≡◌, drop, eqb}
use Rattle.std.specs.List.{list_any}
use Rattle.connector_tree.specs.Faults.{atoms}
use Rattle.connector_tree.proofs.shape.has_atom.Given as goal

abbrev pub invariant-loop-port : goal.invariant-loop-port
invariant-loop-port l =
    list_any (λ other. eqb l.atom other) (atoms (drop l.port-index l.ports)) ≡ list_any (λ other. eqb l.atom other) (atoms l.ports)
