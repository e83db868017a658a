-- What an expression over the states of a plant may name, by which words, and the values in a state.
use Rattle.std.specs.Prelude.{ℕ, ℤ, pos, Bool, if◌then◌else◌, List, codes, Option, None, option_map, option_and_then, slice_get, position, take, drop, length}
use Rattle.std.specs.Option.{option_map_or}
use Rattle.petri_atom.specs.Definition.{AtomDefinition}
use Rattle.petri_atom.specs.Expression.{truth}
use Rattle.petri_atom.specs.Local.{Local, has, value_in}
use Rattle.petri_atom.specs.Name.{is_same_text}
use Rattle.plant_model.specs.Lookup.{atom_named}
use Rattle.plant_model.specs.Plant.{PlantDefinition}
use Rattle.plant_words.specs.Splits.{export_parts}
use Rattle.run_watches.specs.declared.operand.Operand.{Operand}
use Rattle.run_watches.specs.declared.operand.Operand.TheVariants.{Variable, Place}

-- the number of the first variable of an atom with the name, and of the first place
abbrev pub variable_of : AtomDefinition → List ℕ → Option ℕ
variable_of a name = position (λ v. is_same_text v.name name) a.variables

abbrev pub place_of : AtomDefinition → List ℕ → Option ℕ
place_of a name = position (λ p. is_same_text p.name name) a.places

-- the operand that the variable of an atom with the name is, and the place; the number is that of the atom
abbrev pub variable_in : ℕ → List ℕ → AtomDefinition → Option Operand
variable_in atom name a = option_map (λ variable. Variable atom variable) (variable_of a name)

abbrev pub place_in : ℕ → List ℕ → AtomDefinition → Option Operand
place_in atom name a = option_map (λ place. Place atom place) (place_of a name)

-- the same of the atom with the number
abbrev pub variable_at : List AtomDefinition → List ℕ → ℕ → Option Operand
variable_at atoms name atom = option_map_or (variable_in atom name) (slice_get atoms atom) None

abbrev pub place_at : List AtomDefinition → List ℕ → ℕ → Option Operand
place_at atoms name atom = option_map_or (place_in atom name) (slice_get atoms atom) None

-- the variable that a word `ATOM.VAR` names, and the place that `ATOM.PLACE` does
abbrev pub variable_named : PlantDefinition → List ℕ → Option Operand
variable_named plant word =
    option_and_then (λ parts. option_and_then (variable_at plant.atoms parts.1) (atom_named plant parts.0)) (export_parts word)

abbrev pub place_named : PlantDefinition → List ℕ → Option Operand
place_named plant word =
    option_and_then (λ parts. option_and_then (place_at plant.atoms parts.1) (atom_named plant parts.0)) (export_parts word)

-- the word begins with these bytes
abbrev pub begins_with : List ℕ → List ℕ → Bool
begins_with front word = is_same_text (take (length front) word) front

-- The operand that a word names: `ATOM.VAR` a variable, and `at.ATOM.PLACE` a place. An atom can't have the name `at`.
abbrev pub operand_named : PlantDefinition → List ℕ → Option Operand
operand_named plant word =
    if begins_with (codes "at.") word then place_named plant (drop 3 word) else variable_named plant word

-- the value of an operand of an atom in a state of the atom
abbrev pub value_in_state : Local → Operand → ℤ
value_in_state state (Variable atom variable) = value_in state.values variable
value_in_state state (Place atom place) = truth (has state.marking place)

-- the number of the atom that an operand is of
abbrev pub atom_of : Operand → ℕ
atom_of (Variable atom variable) = atom
atom_of (Place atom place) = atom

-- the value of an operand in a state of a plant: 0 of what is not there
abbrev pub operand_value : List Local → Operand → ℤ
operand_value states operand = option_map_or (λ state. value_in_state state operand) (slice_get states (atom_of operand)) (pos 0)
