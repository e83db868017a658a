use Rattle.std.specs.Prelude.{◌≡◌, IsTrue, List, take}
use Rattle.petri_atom.specs.Local.{are_places, is_in, set_below}
use Rattle.petri_atom.specs.Definition.{PortDefinition, TransitionDefinition}
use Rattle.petri_atom.specs.Behind.{exports_in}
use Rattle.petri_atom.specs.StraightCode.{EachOf}
use Rattle.petri_atom.specs.declared.arcs.Arcs.{Arcs}
use Rattle.petri_atom.specs.declared.state.TheConstants.{MAX_PLACES}

-- arcs are those of a transition: they have its port, and its sources and targets as sets
pub record IsArcsOf (a : Arcs) (t : TransitionDefinition) : Type 0 where
  pub port : a.port ≡ t.port
  pub sources : a.sources ≡ set_below MAX_PLACES (is_in t.sources)
  pub targets : a.targets ≡ set_below MAX_PLACES (is_in t.targets)
  pub sources_are_places : IsTrue (are_places t.sources)
  pub targets_are_places : IsTrue (are_places t.targets)

-- arcs are those of transitions, one by one
abbrev pub AreArcsOf : List Arcs → List TransitionDefinition → Type 0
AreArcsOf arcs ts = EachOf IsArcsOf arcs ts

-- arcs have the variables that the port of a transition exports
abbrev pub IsExported : List PortDefinition → Arcs → TransitionDefinition → Type 0
IsExported ports a t = take a.exports.used a.exports.variables ≡ exports_in ports t.port

-- so those of transitions, one by one
abbrev pub AreExported : List PortDefinition → List Arcs → List TransitionDefinition → Type 0
AreExported ports arcs ts = EachOf (IsExported ports) arcs ts
