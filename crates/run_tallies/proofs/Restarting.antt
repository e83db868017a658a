-- Atoms in their first states.
use Rattle.std.proofs.Common.{◌≡◌, ◌<◌, ◌≤◌, ◌∙◌, ◌+◌, ℕ, ap, arith, sym, List, [], ◌∷◌, ◌++◌, get_or, length, map, set, take}
use Rattle.std.proofs.lemmas.List.{get_or-map, length-map, map-append, take_all, take_more, take_more_set}
use Rattle.petri_atom.specs.Atom.{definition_of}
use Rattle.petri_atom.specs.Definition.{AtomDefinition, initial}
use Rattle.petri_atom.specs.Local.{Local}
use Rattle.petri_atom.specs.declared.atom.Atom.{Atom}

-- one more of them is
pub more-first : (atoms : List AtomDefinition) (states : List Local) (i : ℕ) (a : AtomDefinition) → i < length atoms → length states ≡ length atoms → a ≡ get_or atoms i a
    → take i states ≡ map initial (take i atoms) → take (i + 1) (set states i (initial a)) ≡ map initial (take (i + 1) atoms)
more-first atoms states i a within same here first =
    let taken : take (i + 1) atoms ≡ take i atoms ++ a ∷ [] = take_more atoms i a within ∙ ap (λ y. take i atoms ++ y ∷ []) (sym here) in
    let there : i < length states = omega (arith, same, within) in
    take_more_set states i (initial a) there ∙ ap (λ xs. xs ++ initial a ∷ []) first ∙ sym (ap (map initial) taken ∙ map-append initial (take i atoms) (a ∷ []))

-- all of them are
pub all-first : (atoms : List AtomDefinition) (states : List Local) (i : ℕ) → length atoms ≤ i → length states ≡ length atoms → take i states ≡ map initial (take i atoms) → states ≡ map initial atoms
all-first atoms states i past same first =
    let all : length states ≤ i = omega (arith, same, past) in
    sym (take_all i states all) ∙ first ∙ ap (map initial) (take_all i atoms past)

-- the definition of the atom at a place
pub defined-at : (made : List Atom) (atoms : List AtomDefinition) (i : ℕ) (atom : Atom) → i < length made → atom ≡ get_or made i atom → map definition_of made ≡ atoms
    → (definition_of atom ≡ get_or atoms i (definition_of atom)) × (i < length atoms)
defined-at made atoms i atom within here known =
    let many : length made ≡ length atoms = sym (length-map made definition_of) ∙ ap length known in
    let there : i < length atoms = omega (arith, many, within) in (
      ap definition_of here ∙ sym (get_or-map definition_of made i atom (definition_of atom) within) ∙ ap (λ xs. get_or xs i (definition_of atom)) known,
      there,
    )
