-- What a pick takes in a state.
use Rattle.std.specs.Prelude.{ℕ, ◌%◌, ◌^◌, ◌==◌, ◌&&◌, nat_lt, Bool, List, length, slice_get, Option, if◌then◌else◌}
use Rattle.std.specs.Cmp.Lexicographic.{pointwise}
use Rattle.std.specs.List.{list_any}
use Rattle.std.specs.Option.{option_map_or}
use Rattle.petri_atom.specs.Local.{Local}
use Rattle.plant_model.specs.Plant.{PlantDefinition}
use Rattle.plant_model.specs.Choice.{ChoiceDefinition, choices}
use Rattle.plant_model.specs.declared.choice.Move.{Move}
use Rattle.run_text.specs.Picks.{TakeDefinition, counted, weighted, numbered, named, misread}
use Rattle.run_text.specs.Weights.{by_weight}
use Rattle.run_text.specs.declared.fault.RefusedPick.{RefusedPick}
use Rattle.run_text.specs.declared.fault.RefusedPick.TheVariants.{PastList, NotPossible, Misread, TooMany}

-- what comes of a pick: a choice is fired, it takes none, or it is refused
pub data Taken : Type 0 where
  fires : ChoiceDefinition → Taken
  stuck : Taken
  refused : RefusedPick → Taken

-- one of three values, by what comes of a pick
abbrev pub by_taken : {X : Type 0} → Taken → (ChoiceDefinition → X) → X → (RefusedPick → X) → X
by_taken (fires c) fired none past = fired c
by_taken stuck fired none past = none
by_taken (refused why) fired none past = past why

-- the choice that a number takes: the entry of the state's choices at the number modulo how many there are; none if there is no choice
abbrev pub picked : PlantDefinition → List Local → ℕ → Option ChoiceDefinition
picked plant states pick = slice_get (choices plant states) (pick % length (choices plant states))

-- two moves are of one atom by one transition
abbrev pub is_same_move : Move → Move → Bool
is_same_move m n = m.atom == n.atom && m.transition == n.transition

-- two choices are of one interaction, with the same moves
abbrev pub is_same_choice : ChoiceDefinition → ChoiceDefinition → Bool
is_same_choice c d = c.connector == d.connector && c.mask == d.mask && pointwise is_same_move c.moves d.moves

-- one of the choices is this one
abbrev pub is_among : List ChoiceDefinition → ChoiceDefinition → Bool
is_among cs c = list_any (is_same_choice c) cs

-- what a pick takes in a state
abbrev pub taken : PlantDefinition → List Local → TakeDefinition → Taken
taken plant states (counted n) = option_map_or (λ c. fires c) (picked plant states n) stuck
taken plant states (weighted n weights) = option_map_or (λ c. fires c) (by_weight plant states weights n) stuck
taken plant states (numbered n) = option_map_or (λ c. fires c) (slice_get (choices plant states) n) (refused (PastList n (length (choices plant states))))
taken plant states (named c) = if is_among (choices plant states) c then fires c else refused NotPossible
taken plant states (misread why) = refused (Misread why)

-- the same of the pick that is to fire the interaction with this number; it is refused if the number has more than 64 bits
abbrev pub taken_as : PlantDefinition → List Local → ℕ → TakeDefinition → Taken
taken_as plant states number take = if nat_lt number (2 ^ 64) then taken plant states take else refused TooMany
