use Rattle.std.proofs.Common.{◌≡◌, ◌++◌, drop, filter, eqb}
use Rattle.plant_model.proofs.interactions.push_of_atom.Given as goal

abbrev pub invariant-loop-port : goal.invariant-loop-port
invariant-loop-port l =
    l.into.items ++ filter (λ p. eqb p.atom l.atom) (drop l.port-index l.ports) ≡ l.fn.into.items ++ filter (λ p. eqb p.atom l.atom) l.ports
