-- Worked firings into which values come, as computed facts of the definitions.
use Rattle.std.proofs.Common.{◌≡◌, ℕ, ℤ, pos, negsuc, refl, true, false, Bool, List, [], ◌∷◌, map, codes}
use Rattle.std.specs.Prelude.{None, Some}
use Rattle.std.specs.Int.{int_wrap}
use Rattle.petri_atom.specs.Expression.{number, operation, variable}
use Rattle.petri_atom.specs.Local.{Local, moved, set_below}
use Rattle.petri_atom.specs.Definition.{AtomDefinition}
use Rattle.petri_atom.specs.declared.expression.Operator.TheVariants.{Add}
use Rattle.connector_tree.specs.Tree.{child, leaf, no_child}
use Rattle.priority_filter.specs.Decided.{is_below, is_overruled, order_fault}
use Rattle.plant_model.specs.Choice.{ChoiceDefinition, choices}
use Rattle.plant_model.specs.Firing.{FiringDefinition, firing_by, has_its_inputs}
use Rattle.plant_model.specs.Plant.{PlantDefinition, WireDefinition}
use Rattle.plant_model.specs.Rules.{fault_of}
use Rattle.plant_model.specs.Runs.{fold}
use Rattle.plant_model.specs.declared.fault.SystemFault.TheVariants.{BadWire}
use Rattle.plant_model.specs.declared.fault.WireFault.TheVariants.{EmptyRange, TargetTwice}
use Rattle.plant_model.specs.declared.wire.Input.{Input}
use Rattle.plant_model.specs.declared.wire.Transfer.{Transfer}
use Rattle.plant_model.proofs.RunRows.{atom_of, choice, counts, first_export, holds, stays_with}

-- an input of the first variable of a leaf, in a range
abbrev input : ℕ → ℤ → ℤ → Input
input place low high = record { target = first_export place; low = low; high = high }

-- `note A.t' B.u`: A alone, or with B, into whose m a value from 0 to 100 comes; A counts in n
abbrev note : List Input → WireDefinition
note inputs = record { name = codes "note"; connector = child true (leaf 0 0) (child false (leaf 1 0) no_child); guards = []; transfers = []; inputs = inputs }

abbrev plant_with : List Input → PlantDefinition
plant_with inputs = record { atoms = counts ∷ holds ∷ []; wires = note inputs ∷ []; rules = [] }

abbrev plant : PlantDefinition
plant = plant_with (input 1 (pos 0) (pos 100) ∷ [])

abbrev at : ℤ → ℤ → List Local
at n m = record { marking = 1; values = n ∷ [] } ∷ record { marking = 1; values = m ∷ [] } ∷ []

abbrev alone : ChoiceDefinition
alone = choice 0 1 (0 ∷ [])

abbrev both : ChoiceDefinition
both = choice 0 3 (0 ∷ 1 ∷ [])

it_is_a_plant : fault_of plant ≡ None
unfolding order_fault is_below
it_is_a_plant = refl

-- the choices are those without the line
they_say_nothing_of_values : choices plant (at (pos 0) (pos 0)) ≡ alone ∷ both ∷ []
unfolding is_overruled is_below
they_say_nothing_of_values = refl

-- 57 comes into m, and n counts on
fifty_seven_comes_in : fold plant (at (pos 0) (pos 0)) (firing_by both (pos 57 ∷ []) ∷ []) ≡ at (pos 1) (pos 57)
unfolding moved set_below int_wrap
fifty_seven_comes_in = refl

-- without B nothing comes in: m stays
nothing_without_its_leaf : fold plant (at (pos 0) (pos 7)) (firing_by alone (pos 0 ∷ []) ∷ []) ≡ at (pos 1) (pos 7)
unfolding moved set_below int_wrap
nothing_without_its_leaf = refl

-- both ends of the range may come in, and nothing past them; there is one value; and that of an input that does not apply is 0
what_may_come : map (λ vs. has_its_inputs plant (firing_by both vs)) ((pos 0 ∷ []) ∷ (pos 100 ∷ []) ∷ (pos 101 ∷ []) ∷ (negsuc 0 ∷ []) ∷ [] ∷ (pos 1 ∷ pos 1 ∷ []) ∷ []) ≡ true ∷ true ∷ false ∷ false ∷ false ∷ false ∷ []
what_may_come = refl

what_may_come_without : map (λ vs. has_its_inputs plant (firing_by alone vs)) ((pos 0 ∷ []) ∷ (pos 57 ∷ []) ∷ [] ∷ []) ≡ true ∷ false ∷ false ∷ []
what_may_come_without = refl

-- no value lies from 5 to 4, and a variable is an input once
from_five_to_four : fault_of (plant_with (input 1 (pos 5) (pos 4) ∷ [])) ≡ Some (BadWire 0 EmptyRange)
unfolding order_fault is_below
from_five_to_four = refl

twice : fault_of (plant_with (input 1 (pos 0) (pos 1) ∷ input 1 (pos 0) (pos 9) ∷ [])) ≡ Some (BadWire 0 TargetTwice)
unfolding order_fault is_below
twice = refl
