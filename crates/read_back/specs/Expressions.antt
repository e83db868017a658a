-- Expressions that a plant can hold.
use Rattle.std.specs.Prelude.{ℕ, ◌^◌, ℤ, pos, negsuc, Bool, true, ◌&&◌, List, length, nat_le, nat_lt}
use Rattle.petri_atom.specs.Definition.{AtomDefinition}
use Rattle.petri_atom.specs.Expression.{Tree, number, variable, negation, operation, word_count, all_variables, has_variables_below}
use Rattle.petri_atom.specs.declared.parts.TheConstants.{MAX_WORDS}
use Rattle.connector_tree.specs.declared.tree.Port.{Port}
use Rattle.plant_model.specs.Rules.{is_known_export}
use Rattle.plant_model.specs.declared.wire.Export.{Export}

-- a number within signed 64 bits
abbrev pub is_in_range : ℤ → Bool
is_in_range (pos n) = nat_lt n (2 ^ 63)
is_in_range (negsuc n) = nat_lt n (2 ^ 63)

-- each number in the expression is one
abbrev pub has_numbers_in_range : {V : Type 0} → Tree V → Bool
has_numbers_in_range (number n) = is_in_range n
has_numbers_in_range (variable v) = true
has_numbers_in_range (negation e) = has_numbers_in_range e
has_numbers_in_range (operation op e f) = has_numbers_in_range e && has_numbers_in_range f

-- the expression has no more words than one may have, and numbers in range alone
abbrev pub is_within_limits : {V : Type 0} → Tree V → Bool
is_within_limits e = nat_le (word_count e) MAX_WORDS && has_numbers_in_range e

-- an expression that the atom can hold: its variables are the atom's
abbrev pub is_over_atom : AtomDefinition → Tree ℕ → Bool
is_over_atom a e = has_variables_below (length a.variables) e && is_within_limits e

-- an expression that a connector can hold: its variables are exported by these ports, which are the connector's leaves
abbrev pub is_over_ports : List AtomDefinition → List Port → Tree Export → Bool
is_over_ports atoms ports e = all_variables (is_known_export atoms ports) e && is_within_limits e
