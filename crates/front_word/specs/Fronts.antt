-- Fronts, and how they follow one another.
use Rattle.std.specs.Prelude.{ℕ, ◌+◌, ◌-◌, ◌*◌, ◌<◌, ◌≤◌, List, [], ◌∷◌}
use Rattle.atomic_table.specs.Seated.{TableId}
use Rattle.plant_core.specs.declared.front.Front.{Front}
use Rattle.front_word.specs.declared.front.TheConstants.{MOST_FIRED, RECORD_SPAN, UNACKED_SPAN}
use Rattle.record_codec.specs.declared.layout.TheConstants.{LAST_NUMBER}

abbrev pub no_front : Front
no_front = record { fired = 0; acked = 0; base = 0 }

abbrev pub no_table : TableId
no_table = record { words = 0; slots = 0; views_name = 0; atom = 0; block = 0; offset = 0; slot_names = [] }

-- a front that the word can hold, behind the one where the history opens
pub record IsWithin (opening f : Front) : Type 0 where
  pub behind : f.acked ≤ f.fired
  pub base_to : f.base ≤ f.acked + 1
  pub from : opening.fired ≤ f.fired
  pub to : f.fired ≤ opening.fired + MOST_FIRED
  pub tail : f.fired < f.acked + UNACKED_SPAN
  pub ring : f.fired + 1 < f.base + RECORD_SPAN
  pub last : f.fired ≤ LAST_NUMBER

-- no part of the front falls
pub record IsNotBelow (f g : Front) : Type 0 where
  pub fired : f.fired ≤ g.fired
  pub acked : f.acked ≤ g.acked
  pub base : f.base ≤ g.base

-- fronts one after another, from the first on: no part falls, and the word can hold each
abbrev pub IsRising : Front → Front → List Front → Type 0
IsRising opening f [] = Unit {0}
IsRising opening f (g ∷ gs) = IsWithin opening g × IsNotBelow f g × IsRising opening g gs

-- the last of some fronts, the first of which came before them
abbrev pub last_of : Front → List Front → Front
last_of f [] = f
last_of f (g ∷ gs) = last_of g gs

-- the word that holds a front
abbrev pub packed : Front → Front → ℕ
packed opening f = (f.fired - opening.fired) * (UNACKED_SPAN * RECORD_SPAN) + ((f.fired - f.acked) * RECORD_SPAN + (f.fired + 1 - f.base))
