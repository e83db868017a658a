-- The records of a run: for each fired choice its number, its connector, and what each participant did.
use Rattle.std.specs.Prelude.{ℕ, suc, ◌+◌, ◌==◌, List, [], ◌∷◌, map, find, slice_index_or}
use Rattle.std.specs.Option.{option_map_or}
use Rattle.petri_atom.specs.Local.{Local, Row}
use Rattle.record_codec.specs.Fired.{FiredFields}
use Rattle.record_codec.specs.declared.entry.Entry.{Entry}
use Rattle.plant_model.specs.Choice.{ChoiceDefinition}
use Rattle.plant_model.specs.Firing.{FiringDefinition}
use Rattle.plant_model.specs.Plant.{PlantDefinition}
use Rattle.plant_model.specs.Step.{next, transfer}
use Rattle.plant_model.specs.declared.choice.Move.{Move}

-- how often an atom has taken part, if that is known of all atoms
abbrev pub count_of : List ℕ → ℕ → ℕ
count_of counts atom = slice_index_or counts atom 0

-- how often the atom with a number has taken part after some moves: once more if one of them is its own
abbrev pub counted_by : List Move → ℕ → ℕ → ℕ
counted_by moves n count = option_map_or (λ m. count + 1) (find (λ m. m.atom == n) moves) count

-- the same of all atoms from the number n on
abbrev pub counted_from : List Move → ℕ → List ℕ → List ℕ
counted_from moves n [] = []
counted_from moves n (count ∷ counts) = counted_by moves n count ∷ counted_from moves (suc n) counts

-- how often each atom has taken part after the moves of a choice
abbrev pub counts_after : List Move → List ℕ → List ℕ
counts_after moves counts = counted_from moves 0 counts

-- and after firings one after another
abbrev pub counts_after_all : List FiringDefinition → List ℕ → List ℕ
counts_after_all [] counts = counts
counts_after_all (f ∷ fs) counts = counts_after_all fs (counts_after f.moves counts)

-- what a participant did: its transition, which of its firings this was, and what was delivered to it
abbrev pub entry_by : List ℕ → Move → Row → Entry
entry_by counts m delivered = record { atom = m.atom; transition = m.transition; participation = count_of counts m.atom + 1; delivered = delivered }

-- the record with number n of a firing in a state
abbrev pub record_by : PlantDefinition → List Local → List ℕ → ℕ → FiringDefinition → FiredFields
record_by plant states counts n f = record {
  number = n;
  connector = f.connector;
  entries = map (λ m. entry_by counts m (transfer plant states f m.atom)) f.moves;
}

-- the records of firings one after another, numbered from n + 1 on
abbrev pub records_of : PlantDefinition → List Local → List ℕ → ℕ → List FiringDefinition → List FiredFields
records_of plant states counts n [] = []
records_of plant states counts n (f ∷ fs) =
    record_by plant states counts (n + 1) f ∷ records_of plant (next plant states f) (counts_after f.moves counts) (n + 1) fs

-- what the participants did, where what was delivered to each stands in the order of the moves
abbrev pub entries_delivered : List ℕ → List Move → List Row → List Entry
entries_delivered counts [] rows = []
entries_delivered counts (m ∷ ms) [] = []
entries_delivered counts (m ∷ ms) (row ∷ rows) = entry_by counts m row ∷ entries_delivered counts ms rows

-- the record with number n of a choice, if this was delivered
abbrev pub record_delivered : ℕ → ChoiceDefinition → List Row → List ℕ → FiredFields
record_delivered n c rows counts = record { number = n; connector = c.connector; entries = entries_delivered counts c.moves rows }
