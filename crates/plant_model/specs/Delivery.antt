-- What is delivered to the atoms of some moves.
use Rattle.std.specs.Prelude.{◌≡◌, ℕ, ℤ, Bool, ◌==◌, List, Some, None, slice_get, find, take, if◌then◌else◌}
use Rattle.petri_atom.specs.Local.{Row, given}
use Rattle.plant_model.specs.declared.choice.Move.{Move}

-- the move at a place is the first of its atom
abbrev pub IsFirstOfAtom : List Move → ℕ → Move → Type 0
IsFirstOfAtom moves place m = find (λ k. k.atom == m.atom) (take place moves) ≡ None

-- no two moves are of one atom
abbrev pub AreApart : List Move → Type 0
AreApart moves = (place : ℕ) (m : Move) → slice_get moves place ≡ Some m → IsFirstOfAtom moves place m

-- a place is that of the first move of an atom
pub record IsPlaceOf (moves : List Move) (atom place : ℕ) : Type 0 where
  pub its : Move
  pub here : slice_get moves place ≡ Some its
  pub same : its.atom ≡ atom
  pub first : find (λ m. m.atom == atom) (take place moves) ≡ None

-- the row has for each move, by its place, what its atom gets
abbrev pub IsDelivered : List Move → (ℕ → Row) → List Row → Type 0
IsDelivered moves delivered row = (place : ℕ) (m : Move) → slice_get moves place ≡ Some m → slice_get row place ≡ Some (delivered m.atom)

-- the row has for each move that is the first of its atom, by its place, what that atom gets
abbrev pub AreDelivered : List Move → (ℕ → Row) → List Row → Type 0
AreDelivered moves delivered row =
    (place : ℕ) (m : Move) → slice_get moves place ≡ Some m → IsFirstOfAtom moves place m → slice_get row place ≡ Some (delivered m.atom)

-- behind a change of what the atoms that pass a test get: the first move of such an atom has what the change makes of what it had, and all other first moves have what they had
abbrev pub IsChanged : List Move → (ℕ → Bool) → (Row → Row) → List Row → List Row → Type 0
IsChanged moves test change old new =
    (place : ℕ) (m : Move) (row : Row) → slice_get moves place ≡ Some m → IsFirstOfAtom moves place m → slice_get old place ≡ Some row →
    slice_get new place ≡ Some (if test m.atom then change row else row)

-- so behind a value for an exported variable: it is given that value, unless it had one before
abbrev pub IsGiven : List Move → (ℕ → Bool) → ℕ → ℤ → List Row → List Row → Type 0
IsGiven moves test export value old new = IsChanged moves test (given export value) old new
