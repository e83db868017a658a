use Rattle.std.specs.Prelude.{ℕ, List, map}
use Rattle.petri_atom.specs.Expression.{tree_of}
use Rattle.petri_atom.specs.Definition.{TransitionDefinition}
use Rattle.petri_atom.specs.Update.{update_of}
use Rattle.petri_atom.specs.declared.expression.Expression.{Expression}
use Rattle.petri_atom.specs.declared.transition.Update.{Update}
use Rattle.petri_atom.specs.declared.transition.Transition.{Transition}

-- the transition that is made of these parts
abbrev pub transition_by : ℕ → List ℕ → List ℕ → Expression ℕ → List Update → TransitionDefinition
transition_by port sources targets guard updates = record {
  port = port;
  sources = sources;
  targets = targets;
  guard = tree_of guard;
  updates = map update_of updates;
}

-- a transition as it was written
abbrev pub transition_of : Transition → TransitionDefinition
transition_of t = transition_by t.port t.sources.items t.targets.items t.guard t.updates.items
