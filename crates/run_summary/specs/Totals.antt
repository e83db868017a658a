-- A run in numbers.
use Rattle.std.specs.Prelude.{ℕ, ◌+◌, List, [], ◌∷◌, length, map}
use Rattle.petri_atom.specs.Definition.{AtomDefinition}
use Rattle.petri_atom.specs.Local.{value_in}
use Rattle.petri_atom.specs.declared.parts.Variable.{Variable}
use Rattle.plant_model.specs.Plant.{PlantDefinition}
use Rattle.run_text.specs.History.{History}
use Rattle.run_summary.specs.Bounds.{bounds_of}
use Rattle.run_summary.specs.Counts.{counts_of, kept}
use Rattle.run_summary.specs.Moves.{Moved, by_atom, moves_of}
use Rattle.run_summary.specs.declared.bounds.Bounds.{Bounds}

-- of an atom: how often each transition moved, and the bounds of each variable
pub record AtomTotals : Type 0 where
  pub transitions : List ℕ
  pub bounds : List Bounds

-- of a plant: how many interactions were fired, how often each connector was, and what there is of each atom
pub record Totals : Type 0 where
  pub fired : ℕ
  pub connectors : List ℕ
  pub atoms : List AtomTotals

-- the bounds of variables, from the one with number k on: of the first value, and of the value after each of these moves
abbrev pub bounds_from : ℕ → List Variable → List Moved → List Bounds
bounds_from k [] moves = []
bounds_from k (v ∷ vs) moves = bounds_of v.first (map (λ m. value_in m.values k) moves) ∷ bounds_from (k + 1) vs moves

-- what there is of an atom that made these moves
abbrev pub atom_totals : AtomDefinition → List Moved → AtomTotals
atom_totals a moves = record {
  transitions = counts_of (length a.transitions) (map (λ m. m.transition) moves);
  bounds = bounds_from 0 a.variables moves;
}

-- what there is of each atom, from number n on, where these moves were made
abbrev pub totals_from : ℕ → List AtomDefinition → List Moved → List AtomTotals
totals_from n [] moves = []
totals_from n (a ∷ atoms) moves = atom_totals a (by_atom n moves) ∷ totals_from (n + 1) atoms moves

-- what there is of a plant of which this was fired
abbrev pub totals_of : PlantDefinition → History → Totals
totals_of plant told = record {
  fired = kept (length told);
  connectors = counts_of (length plant.wires) (map (λ step. step.choice.connector) told);
  atoms = totals_from 0 plant.atoms (moves_of plant told);
}
