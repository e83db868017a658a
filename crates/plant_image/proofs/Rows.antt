-- Worked images of a plant, as computed facts of the definitions.
use Rattle.std.proofs.Common.{◌≡◌, ℕ, ℤ, pos, refl, true, List, [], ◌∷◌, codes, drop, Option, None, Some}
use Rattle.std.specs.Int.{int_wrap}
use Rattle.petri_atom.specs.Expression.{number, operation, variable}
use Rattle.petri_atom.specs.Local.{Local, moved, set_below}
use Rattle.petri_atom.specs.Definition.{AtomDefinition, UpdateDefinition}
use Rattle.petri_atom.specs.declared.expression.Operator.TheVariants.{Add}
use Rattle.record_codec.specs.Base.{base_in}
use Rattle.record_codec.specs.Bytes.{eight_byte_number}
use Rattle.record_codec.specs.Fired.{FiredFields}
use Rattle.record_codec.specs.Saved.{SavedFields}
use Rattle.record_codec.specs.declared.entry.Entry.{Entry}
use Rattle.snapshot_writer.specs.Parcels.{saved_by}
use Rattle.plant_model.specs.Plant.{PlantDefinition}
use Rattle.plant_image.specs.Contents.{Contents, counts_of, last_number, states_of}
use Rattle.plant_image.specs.Faults.{atom_fault, base_fault, fault_of, leading_fault}
use Rattle.plant_image.specs.declared.fault.ImageFault.TheVariants.{Damaged, Gap, NotEnabled, NotFormatted, WrongSize}

-- ---- two atoms: A counts on in n, and B holds m, which is delivered to it

abbrev atom_of : List ℕ → List ℕ → List ℕ → List UpdateDefinition → AtomDefinition
atom_of name value port updates = record {
  name = name;
  places = record { name = codes "s"; marked = true } ∷ [];
  variables = record { name = value; first = pos 0 } ∷ [];
  ports = record { name = port; exports = 0 ∷ [] } ∷ [];
  transitions = record { port = 0; sources = 0 ∷ []; targets = 0 ∷ []; guard = number (pos 1); updates = updates } ∷ [];
}

abbrev counts_on : AtomDefinition
counts_on = atom_of (codes "A") (codes "n") (codes "t") (record { variable = 0; value = operation Add (variable 0) (number (pos 1)) } ∷ [])

abbrev holds : AtomDefinition
holds = atom_of (codes "B") (codes "m") (codes "u") []

abbrev plant : PlantDefinition
plant = record { atoms = counts_on ∷ holds ∷ []; wires = []; rules = [] }

abbrev state : ℤ → Local
state n = record { marking = 1; values = n ∷ [] }

-- ---- four records: A alone, both, A alone, both

abbrev did : ℕ → ℕ → ℕ → Option ℤ → Entry
did atom transition participation delivered = record { atom = atom; transition = transition; participation = participation; delivered = delivered ∷ None ∷ None ∷ None ∷ [] }

abbrev record_by : ℕ → ℕ → List Entry → FiredFields
record_by n connector entries = record { number = n; connector = connector; entries = entries }

abbrev records : List FiredFields
records =
    record_by 1 0 (did 0 0 1 None ∷ []) ∷ record_by 2 1 (did 0 0 2 None ∷ did 1 0 1 (Some (pos 1)) ∷ []) ∷
    record_by 3 0 (did 0 0 3 None ∷ []) ∷ record_by 4 1 (did 0 0 4 None ∷ did 1 0 2 (Some (pos 3)) ∷ []) ∷ []

-- contents with these saved states and records
abbrev contents : ℕ → SavedFields → SavedFields → List FiredFields → Contents
contents base a b records = record { ring = 8; base_cell = 1; base = base; slots = a ∷ b ∷ []; records = records }

abbrev saved_a : ℕ → ℤ → SavedFields
saved_a count n = saved_by 0 count count (state n)

abbrev saved_b : ℕ → ℤ → SavedFields
saved_b count m = saved_by 1 count count (state m)

-- ---- where they lead

-- from the first states
abbrev from_first : Contents
from_first = contents 1 (saved_a 0 (pos 0)) (saved_b 0 (pos 0)) records

states_from_first : states_of plant from_first ≡ state (pos 4) ∷ state (pos 3) ∷ []
unfolding moved set_below int_wrap
states_from_first = refl

counts_from_first : counts_of plant from_first ≡ 4 ∷ 2 ∷ []
unfolding moved set_below int_wrap
counts_from_first = refl

last_from_first : last_number from_first ≡ 4
last_from_first = refl

nothing_wrong_from_first : leading_fault plant from_first ≡ None
unfolding moved set_below int_wrap
nothing_wrong_from_first = refl

-- from states that were saved at different times, and without the first record, which both include
abbrev from_mixed : Contents
from_mixed = contents 2 (saved_a 3 (pos 3)) (saved_b 0 (pos 0)) (drop 1 records)

states_from_mixed : states_of plant from_mixed ≡ state (pos 4) ∷ state (pos 3) ∷ []
unfolding moved set_below int_wrap
states_from_mixed = refl

nothing_wrong_from_mixed : leading_fault plant from_mixed ≡ None
unfolding moved set_below int_wrap
nothing_wrong_from_mixed = refl

-- of no live record the saved states are where it leads, and the last number is the base's less 1
of_no_record : states_of plant (contents 5 (saved_a 4 (pos 4)) (saved_b 2 (pos 3)) []) ≡ state (pos 4) ∷ state (pos 3) ∷ []
of_no_record = refl

last_of_no_record : last_number (contents 5 (saved_a 4 (pos 4)) (saved_b 2 (pos 3)) []) ≡ 4
last_of_no_record = refl

-- ---- where they do not

-- both atoms miss a firing: the least is told
gap_of_the_least : leading_fault plant (contents 3 (saved_a 0 (pos 0)) (saved_b 0 (pos 0)) (drop 2 records)) ≡ Some (Gap 0)
unfolding moved set_below int_wrap
gap_of_the_least = refl

-- B alone misses its first one
gap_of_b : leading_fault plant (contents 3 (saved_a 2 (pos 2)) (saved_b 0 (pos 0)) (drop 2 records)) ≡ Some (Gap 1)
unfolding moved set_below int_wrap
gap_of_b = refl

-- a transition that is not there is not offered
not_enabled : leading_fault plant (contents 1 (saved_a 0 (pos 0)) (saved_b 0 (pos 0)) (record_by 1 0 (did 0 0 1 None ∷ []) ∷ record_by 2 0 (did 0 1 2 None ∷ []) ∷ [])) ≡ Some (NotEnabled 2 0)
unfolding moved set_below int_wrap
not_enabled = refl

-- A has taken part more often than there were firings
ahead : leading_fault plant (contents 1 (saved_a 5 (pos 5)) (saved_b 0 (pos 0)) records) ≡ Some (Gap 0)
unfolding moved set_below int_wrap
ahead = refl

-- a gap of B in the replay is told before that
gap_before_ahead : leading_fault plant (contents 3 (saved_a 5 (pos 5)) (saved_b 0 (pos 0)) (drop 2 records)) ≡ Some (Gap 1)
unfolding moved set_below int_wrap
gap_before_ahead = refl

-- ---- cells

too_small : fault_of plant [] 1023 [] ≡ Some WrongSize
too_small = refl

empty_device : fault_of plant [] 1024 [] ≡ Some NotFormatted
empty_device = refl

no_base : base_fault (None ∷ None ∷ None ∷ []) ≡ Some (Damaged 1)
no_base = refl

second_base_damaged : base_fault (None ∷ None ∷ Some [] ∷ []) ≡ Some (Damaged 2)
unfolding base_in eight_byte_number
second_base_damaged = refl

no_slot : atom_fault [] 1 holds ≡ Some (Damaged 5)
no_slot = refl
