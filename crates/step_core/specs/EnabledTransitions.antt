-- The offered transitions of all atoms of a plant, each judged once.
use Rattle.std.specs.Prelude.{◌≡◌, ◌≤◌, ℕ, false, IsTrue, List, [], Some, length, map, slice_get, slice_index_or}
use Rattle.petri_atom.specs.Behind.{movable_set}
use Rattle.petri_atom.specs.Local.{Local, Row, is_in}
use Rattle.petri_atom.specs.Definition.{AtomDefinition, enabled, fired, offered_set, offers_number}
use Rattle.petri_atom.specs.declared.parts.TheConstants.{MAX_TRANSITIONS}
use Rattle.plant_model.specs.declared.choice.Move.{Move}

-- the sets hold the offered transitions of each atom, by the atoms' numbers
abbrev pub AreOffered : List AtomDefinition → List Local → List ℕ → Type 0
AreOffered atoms states sets =
    (n : ℕ) (a : AtomDefinition) (s : Local) → slice_get atoms n ≡ Some a → slice_get states n ≡ Some s → slice_index_or sets n 0 ≡ offered_set a s

-- the sets hold the offered transitions of each atom that is not one of some
abbrev pub AreOfferedBut : List ℕ → List AtomDefinition → List Local → List ℕ → Type 0
AreOfferedBut changed atoms states sets =
    (n : ℕ) (a : AtomDefinition) (s : Local) → is_in changed n ≡ false → slice_get atoms n ≡ Some a → slice_get states n ≡ Some s → slice_index_or sets n 0 ≡ offered_set a s

-- what stands in rows by atom for a port, 0 where nothing does
abbrev pub count_at : List (List ℕ) → ℕ → ℕ → ℕ
count_at counts atom port = slice_index_or (slice_index_or counts atom []) port 0

-- the rows hold how many transitions of each port are in the sets of offered ones, and 0 past the last port and past the last atom
pub record AreCounted (atoms : List AtomDefinition) (sets : List ℕ) (counts : List (List ℕ)) : Type 0 where
  pub at_ports : (n : ℕ) (a : AtomDefinition) (s : Local) (port : ℕ) → slice_get atoms n ≡ Some a → slice_index_or sets n 0 ≡ offered_set a s → count_at counts n port ≡ length (enabled a s port)
  pub past_ports : (n : ℕ) (a : AtomDefinition) (port : ℕ) → slice_get atoms n ≡ Some a → length a.ports ≤ port → count_at counts n port ≡ 0
  pub past_atoms : (n port : ℕ) → length atoms ≤ n → count_at counts n port ≡ 0
  pub few : (n port : ℕ) → count_at counts n port ≤ MAX_TRANSITIONS

-- the sets hold the transitions that the marking of each atom lets move
abbrev pub AreMovable : List AtomDefinition → List Local → List ℕ → Type 0
AreMovable atoms states sets =
    (n : ℕ) (a : AtomDefinition) (s : Local) → slice_get atoms n ≡ Some a → slice_get states n ≡ Some s → slice_index_or sets n 0 ≡ movable_set a s

-- the same of each atom that is not one of some
abbrev pub AreMovableBut : List ℕ → List AtomDefinition → List Local → List ℕ → Type 0
AreMovableBut changed atoms states sets =
    (n : ℕ) (a : AtomDefinition) (s : Local) → is_in changed n ≡ false → slice_get atoms n ≡ Some a → slice_get states n ≡ Some s → slice_index_or sets n 0 ≡ movable_set a s

-- the atoms of moves
abbrev pub atoms_of : List Move → List ℕ
atoms_of moves = map (λ m. m.atom) moves

-- two sets are those of a state that offered a transition, of which its firing has left the present one
pub record IsFired (a : AtomDefinition) (transition : ℕ) (state : Local) (offers moves : ℕ) : Type 0 where
  pub before : Local
  pub delivered : Row
  pub could : IsTrue (offers_number a before transition)
  pub after : state ≡ fired a transition delivered before
  pub offered : offers ≡ offered_set a before
  pub movable : moves ≡ movable_set a before

-- the sets are right for each atom that no move is of; and of the atom of each move they are those of the state before
pub record AreFiredBehind (atoms : List AtomDefinition) (moves : List Move) (states : List Local) (offers can_move : List ℕ) : Type 0 where
  pub offered_others : AreOfferedBut (atoms_of moves) atoms states offers
  pub movable_others : AreMovableBut (atoms_of moves) atoms states can_move
  pub fired : (k : ℕ) (m : Move) (a : AtomDefinition) (s : Local) → slice_get moves k ≡ Some m → slice_get atoms m.atom ≡ Some a → slice_get states m.atom ≡ Some s → IsFired a m.transition s (slice_index_or offers m.atom 0) (slice_index_or can_move m.atom 0)

-- the sets are right for each atom that is not one of some, and of these they are those of some state
pub record AreOfferedBehind (atoms : List AtomDefinition) (changed : List ℕ) (states : List Local) (offers can_move : List ℕ) : Type 0 where
  pub offered_others : AreOfferedBut changed atoms states offers
  pub movable_others : AreMovableBut changed atoms states can_move
  pub before : List Local
  pub as_many : length before ≡ length atoms
  pub offered_before : AreOffered atoms before offers
