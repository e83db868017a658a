use Rattle.std.proofs.Common.{◌≡◌, map, take}
use Rattle.petri_atom.specs.Atom.{definition_of}
use Rattle.petri_atom.specs.Expression.{tree_of}
use Rattle.plant_model.specs.BoundExpressions.{clause_of, clause_by}
use Rattle.plant_model.proofs.bound_expressions.clauses_of.Given as goal

abbrev pub invariant-loop-clause : goal.invariant-loop-clause
invariant-loop-clause l =
    map clause_of l.all.items ≡ map (clause_by (map definition_of l.atoms) l.ports) (map tree_of (take l.clause-index l.written))
