-- What is drawn of a plant.
use Rattle.std.specs.Prelude.{◌≡◌, ℕ, Bool, false, not, List, [], length, slice_get, option_map, Option, None, Some}
use Rattle.std.specs.List.{list_any, position}
use Rattle.std.specs.Option.{option_map_or}
use Rattle.std.specs.Borrow.{Bor}
use Rattle.petri_atom.specs.Atom.{definition_of}
use Rattle.petri_atom.specs.Definition.{AtomDefinition}
use Rattle.petri_atom.specs.Local.{Local, set_below}
use Rattle.petri_atom.specs.Name.{is_same_text}
use Rattle.petri_atom.specs.declared.atom.Atom.{Atom}
use Rattle.plant_model.specs.Plant.{PlantDefinition}
use Rattle.plant_model.specs.Step.{initial_states}
use Rattle.run_text.specs.Picks.{PickDefinition}
use Rattle.run_text.specs.Runs.{state_after}
use Rattle.run_text.specs.declared.fault.Refusal.{Refusal}
use Rattle.plant_drawing.specs.Drawing.{drawing_of, machines_of}
use Rattle.plant_drawing.specs.Outline.{outline_of}
use Rattle.plant_drawing.specs.declared.drawn.TheConstants.{ALL_ATOMS}
use Rattle.plant_drawing.specs.declared.filling.Filling.{Filling}
use Rattle.plant_drawing.specs.declared.filling.Filling.TheVariants.{Alike, ByChoice}
use Rattle.command_line.specs.Asked.{names_in}
use Rattle.command_line.specs.declared.request.Picking.{Picking}
use Rattle.command_line.specs.declared.request.Drawing.{Drawing}
use Rattle.command_line.specs.declared.request.View.{View}
use Rattle.command_line.specs.declared.request.View.TheVariants.{Whole, Machines, Outline}
use Rattle.plant_tasks.specs.Picked.{after_picks, picks_said, refusal_said}
use Rattle.plant_tasks.specs.declared.drawing.Shown.{Shown}
use Rattle.plant_tasks.specs.declared.drawing.Shown.TheVariants.{All, Atoms}
use Rattle.plant_tasks.specs.declared.ending.PlantEnding.{PlantEnding}
use Rattle.plant_tasks.specs.declared.ending.PlantEnding.TheVariants.{NoAtom}

-- an atom has one of the names
abbrev pub is_named : List (List ℕ) → AtomDefinition → Bool
is_named names a = list_any (λ name. is_same_text name a.name) names

-- the atom with a number is there, and has one of the names
abbrev pub is_named_at : List AtomDefinition → List (List ℕ) → ℕ → Bool
is_named_at atoms names k = option_map_or (is_named names) (slice_get atoms k) false

-- the same of an atom as it is kept, and of names that are lent
abbrev pub is_named_in : List (Bor (List ℕ)) → List Atom → ℕ → Bool
is_named_in names atoms k =
    option_map_or (λ a. list_any (λ name. is_same_text name.now (definition_of a).name) names) (slice_get atoms k) false

-- the set of the atoms that have one of the names
abbrev pub drawn_atoms : PlantDefinition → List (List ℕ) → ℕ
drawn_atoms plant names = set_below (length plant.atoms) (is_named_at plant.atoms names)

-- the set of the atoms that are drawn: those that are named, or all where none are
abbrev pub set_drawn : PlantDefinition → Option (List (List ℕ)) → ℕ
set_drawn plant None = ALL_ATOMS
set_drawn plant (Some names) = drawn_atoms plant names

-- one of the atoms has the name
abbrev pub has_atom : List AtomDefinition → List ℕ → Bool
has_atom atoms name = list_any (λ a. is_same_text a.name name) atoms

-- the ending tells the first of the names that no atom has, by its place
abbrev pub IsNoAtom : PlantDefinition → List (List ℕ) → PlantEnding → Type 0
IsNoAtom plant names (NoAtom place) = position (λ name. not (has_atom plant.atoms name)) names ≡ Some place
IsNoAtom plant names ending = ⊥

-- a set of atoms in a state: with all that stands on these, or as machines
abbrev pub shown_in : Shown → PlantDefinition → List Local → ℕ → List ℕ
shown_in (All filling) plant states drawn = drawing_of plant states drawn filling
shown_in Atoms plant states drawn = machines_of plant states drawn

-- the same in the state after some picks
abbrev pub drawn_in : Shown → PlantDefinition → ℕ → List PickDefinition → List ℕ
drawn_in shown plant drawn picks = shown_in shown plant (state_after plant (initial_states plant) picks) drawn

-- the same, and nothing where one of the picks is refused
abbrev pub drawn_after : Shown → PlantDefinition → ℕ → List PickDefinition → List ℕ
drawn_after shown plant drawn = after_picks plant (drawn_in shown plant drawn)

-- the same in the first state, or in the state after the picks that the words of the command line ask for
abbrev pub drawn_part : Shown → PlantDefinition → ℕ → Option Picking → Option (List ℕ) → Option (List ℕ)
drawn_part shown plant drawn None input = Some (drawn_after shown plant drawn [])
drawn_part shown plant drawn (Some picking) input = option_map (drawn_after shown plant drawn) (picks_said picking plant input)

-- connectors are filled by their choices after picks, and alike in the first state
abbrev pub filling_after : Option Picking → Filling
filling_after None = Alike
filling_after (Some picking) = ByChoice

-- what is drawn of a set of atoms and what stands on these
abbrev pub drawn_by : View → PlantDefinition → ℕ → Option (List ℕ) → Option (List ℕ)
drawn_by (Whole picking) plant drawn input = drawn_part (All (filling_after picking)) plant drawn picking input
drawn_by (Machines picking) plant drawn input = drawn_part Atoms plant drawn picking input
drawn_by Outline plant drawn input = Some (outline_of plant drawn)

-- what is drawn
abbrev pub drawn_of : Drawing → PlantDefinition → Option (List ℕ) → Option (List ℕ)
drawn_of drawing plant input = drawn_by drawing.view plant (set_drawn plant (names_in drawing.only)) input

-- the first refused one of the picks after which a plant is drawn, if there are some
abbrev pub part_refusal : PlantDefinition → Option Picking → Option (List ℕ) → Option (Option Refusal)
part_refusal plant None input = Some None
part_refusal plant (Some picking) input = refusal_said picking plant input

-- the same by how it is drawn
abbrev pub view_refusal : View → PlantDefinition → Option (List ℕ) → Option (Option Refusal)
view_refusal (Whole picking) plant input = part_refusal plant picking input
view_refusal (Machines picking) plant input = part_refusal plant picking input
view_refusal Outline plant input = Some None
