-- How the parts of an atom are counted and numbered for C.
use Rattle.std.specs.Prelude.{◌≡◌, ◌<◌, ◌^◌, ℕ, Option, None, Some, length}
use Rattle.petri_atom.specs.Definition.{AtomDefinition}
use Rattle.kilnmace_c.specs.declared.texts.AtomParts.{AtomParts}

-- So many places and variables the atom has, where it is there.
abbrev pub ArePartsOf : Option AtomDefinition → Option AtomParts → Type 0
ArePartsOf None None = Unit {0}
ArePartsOf (Some a) (Some counts) = (counts.places ≡ length a.places) × (counts.variables ≡ length a.variables)
ArePartsOf atom counts = ⊥

-- The same number, where 16 bits hold it, as they do each place and each variable.
abbrev pub IsIn16Bits : Option ℕ → Option ℕ → Type 0
IsIn16Bits None index = index ≡ None
IsIn16Bits (Some n) index = n < 2 ^ 16 → index ≡ Some n
