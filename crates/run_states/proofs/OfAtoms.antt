-- Printing what is said of the atoms of a plant in their states, one by one.
use Rattle.std.proofs.Common.{◌≡◌, ℕ, ◌+◌, ◌<◌, ap, sym, subst, List, [], ◌∷◌, ◌++◌, map, length, drop, get_or, append-nil}
use Rattle.std.specs.Prelude.{Option, Some, slice_get}
use Rattle.std.specs.Option.{option_map_or}
use Rattle.std.specs.Io.KnownBytes.{Appends}
use Rattle.petri_atom.specs.Atom.{definition_of}
use Rattle.petri_atom.specs.Definition.{AtomDefinition}
use Rattle.petri_atom.specs.Local.{Local}
use Rattle.petri_atom.specs.declared.atom.Atom.{Atom}
use Rattle.plant_model.specs.Plant.{PlantDefinition}
use Rattle.text_io.specs.Numbered.{numbered}
use Rattle.text_io.proofs.Leading.{Leads, leads-element}
use Rattle.run_text.specs.Word.{after_words, separated_after}
use Rattle.run_text.proofs.Separating.{leads-numbered}
use Rattle.run_states.specs.OfAtoms.{of_atom}
use Rattle.run_text.proofs.Listing.{mapped-here, mapped-within}

module _ (plant : PlantDefinition) (atoms : List Atom) (i : ℕ) (atom : Atom) (known : map definition_of atoms ≡ plant.atoms) (within : i < length atoms) (is : atom ≡ get_or atoms i atom) where
  -- an atom of a system is within its plant
  atom-within : i < length plant.atoms
  atom-within = subst (λ of_plant. i < length of_plant) known (mapped-within definition_of atoms i atom within is)

  -- and is there by its number
  atom-here : definition_of atom ≡ get_or plant.atoms i (definition_of atom)
  atom-here = subst (λ of_plant. definition_of atom ≡ get_or of_plant i (definition_of atom)) known (mapped-here definition_of atoms i atom within is)

  module _ (states : List Local) (state : Local) (start now next : Option (List ℕ)) (all : List ℕ) (there : slice_get states i ≡ Some state) where
    -- the next atom is printed in its state, and those after it are left
    pub leads-atom : (say : ℕ → AtomDefinition → Local → List ℕ)
        → Leads start now (numbered (of_atom say states) i (drop i plant.atoms)) all → Appends now next (say i (definition_of atom) state)
        → Leads start next (numbered (of_atom say states) (i + 1) (drop (i + 1) plant.atoms)) all
    leads-atom say l shown =
        leads-element (of_atom say states) plant.atoms i (definition_of atom) start now next all atom-within atom-here l
        (subst (λ found. Appends now next (option_map_or (say i (definition_of atom)) found [])) (sym there) shown)

    -- the same of words with a text between two
    pub leads-atom-word : (say : ℕ → AtomDefinition → Local → List ℕ) (before between : List ℕ)
        → Leads start now (separated_after before between (numbered (of_atom (λ n a s. say n a s ∷ []) states) i (drop i plant.atoms))) all
        → Appends now next (before ++ say i (definition_of atom) state)
        → Leads start next (separated_after between between (numbered (of_atom (λ n a s. say n a s ∷ []) states) (i + 1) (drop (i + 1) plant.atoms))) all
    leads-atom-word say before between l shown =
        let words : ℕ → AtomDefinition → List (List ℕ) = of_atom (λ n a s. say n a s ∷ []) states in
        let one : say i (definition_of atom) state ∷ [] ≡ words i (definition_of atom) =
        ap (λ found. option_map_or (λ s. say i (definition_of atom) s ∷ []) found []) (sym there) in
        let printed : Appends now next (separated_after before between (words i (definition_of atom))) =
        subst (λ ws. Appends now next (separated_after before between ws)) one (subst (Appends now next) (sym (append-nil _)) shown) in
        subst (λ ws. Leads start next (separated_after (after_words before between ws) between (numbered words (i + 1) (drop (i + 1) plant.atoms))) all) (sym one)
        (leads-numbered words plant.atoms i (definition_of atom) before between start now next all atom-within atom-here l printed)
