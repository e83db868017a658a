-- The moves of atoms in numbers.
use Rattle.std.proofs.Common.{◌≡◌, ◌≢◌, ◌+◌, ◌<◌, ◌≤◌, ◌∙◌, ℕ, zero, suc, refl, sym, ap, arith, cond, List, [], ◌∷◌, ◌++◌, length, map, drop, get_or, set}
use Rattle.std.proofs.lemmas.Bool.{eq-eqb, ne_eqb}
use Rattle.std.proofs.lemmas.List.{drop_more}
use Rattle.petri_atom.specs.Definition.{AtomDefinition}
use Rattle.petri_atom.specs.Local.{Local}
use Rattle.plant_model.specs.Plant.{PlantDefinition}
use Rattle.plant_model.specs.declared.choice.Move.{Move}
use Rattle.run_text.specs.History.{FiredStep, History}
use Rattle.run_summary.specs.Counts.{counts_of, kept}
use Rattle.run_summary.specs.Moves.{Moved, all_moved_to, by_atom, moved_to, moves_of}
use Rattle.run_summary.specs.Totals.{AtomTotals, atom_totals, bounds_from, totals_from, totals_of}
use Rattle.run_summary.specs.declared.bounds.Bounds.{Bounds}

-- what there is of an atom, of its parts
pub atom-totals : (a : AtomDefinition) (moves : List Moved) (transitions : List ℕ) (bounds : List Bounds)
    → transitions ≡ counts_of (length a.transitions) (map (λ m. m.transition) moves) → bounds ≡ bounds_from 0 a.variables moves
    → record { transitions = transitions; bounds = bounds } ≡ atom_totals a moves
atom-totals a moves transitions bounds counted bounded =
    ap (λ (ts : List ℕ). record { transitions = ts; bounds = bounds }) counted
    ∙ ap (λ (bs : List Bounds). record { transitions = counts_of (length a.transitions) (map (λ m. m.transition) moves); bounds = bs }) bounded

-- what there is of a plant, of its parts
pub all-totals : (plant : PlantDefinition) (told : History) (fired : ℕ) (connectors : List ℕ) (atoms : List AtomTotals) → fired ≡ kept (length told)
    → connectors ≡ counts_of (length plant.wires) (map (λ (step : FiredStep). step.choice.connector) told) → atoms ≡ totals_from 0 plant.atoms (moves_of plant told)
    → record { fired = fired; connectors = connectors; atoms = atoms } ≡ totals_of plant told
all-totals plant told fired connectors atoms many counted moved =
    ap (λ (n : ℕ). record { fired = n; connectors = connectors; atoms = atoms }) many
    ∙ ap (λ (ns : List ℕ). record { fired = kept (length told); connectors = ns; atoms = atoms }) counted
    ∙ ap (λ (ts : List AtomTotals). record { fired = kept (length told); connectors = counts_of (length plant.wires) (map (λ (step : FiredStep). step.choice.connector) told); atoms = ts }) moved

-- there is something of each atom
pub totals-long : (n : ℕ) (atoms : List AtomDefinition) (moves : List Moved) → length (totals_from n atoms moves) ≡ length atoms
totals-long n [] moves = refl
totals-long n (a ∷ atoms) moves = ap suc (totals-long (n + 1) atoms moves)

-- an atom more is there at first
pub unmoved-more : (n : ℕ) (atoms : List AtomDefinition) (a : AtomDefinition) → totals_from n (atoms ++ a ∷ []) [] ≡ totals_from n atoms [] ++ atom_totals a [] ∷ []
unmoved-more n [] a = refl
unmoved-more n (b ∷ atoms) a = ap (λ ts. atom_totals b [] ∷ ts) (unmoved-more (n + 1) atoms a)

module _ (m : Moved) (past : List Moved) where
  -- a move is its atom's
  by-own : (n : ℕ) → m.atom ≡ n → by_atom n (m ∷ past) ≡ m ∷ by_atom m.atom past
  by-own n own = ap (λ b. cond b (m ∷ by_atom n past) (by_atom n past)) (eq-eqb m.atom n own) ∙ ap (λ k. m ∷ by_atom k past) (sym own)

  -- and no other's
  by-other : (n : ℕ) → m.atom ≢ n → by_atom n (m ∷ past) ≡ by_atom n past
  by-other n other = ap (λ b. cond b (m ∷ by_atom n past) (by_atom n past)) (ne_eqb m.atom n other)

  -- a move of none of these atoms changes nothing
  pub moved-elsewhere : (n : ℕ) (atoms : List AtomDefinition) → ((k : ℕ) → n ≤ k → k < n + length atoms → m.atom ≢ k)
      → totals_from n atoms (m ∷ past) ≡ totals_from n atoms past
  moved-elsewhere n [] elsewhere = refl
  moved-elsewhere n (a ∷ atoms) elsewhere =
      ap (λ moves. atom_totals a moves ∷ totals_from (n + 1) atoms (m ∷ past)) (by-other n (elsewhere n (omega arith) (omega arith)))
      ∙ ap (λ ts. atom_totals a (by_atom n past) ∷ ts) (moved-elsewhere (n + 1) atoms (λ k low high. elsewhere k (omega (arith, low)) (omega (arith, high))))

  -- a move of the atom at a place is added there
  pub moved-here : (n : ℕ) (atoms : List AtomDefinition) (i : ℕ) (t : AtomTotals) → m.atom ≡ n + i → i < length atoms
      → (a : AtomDefinition) × (get_or (totals_from n atoms past) i t ≡ atom_totals a (by_atom m.atom past))
      × (totals_from n atoms (m ∷ past) ≡ set (totals_from n atoms past) i (atom_totals a (m ∷ by_atom m.atom past)))
  moved-here n [] i t own within = absurd (omega (arith, within))
  moved-here n (a ∷ atoms) zero t own within =
      let here : m.atom ≡ n = omega (arith, own) in (
        a,
        ap (λ k. atom_totals a (by_atom k past)) (sym here),
        ap (λ moves. atom_totals a moves ∷ totals_from (n + 1) atoms (m ∷ past)) (by-own n here)
            ∙ ap (λ ts. atom_totals a (m ∷ by_atom m.atom past) ∷ ts) (moved-elsewhere (n + 1) atoms (λ k low high same. absurd (omega (arith, low, same, here)))),
      )
  moved-here n (a ∷ atoms) (suc i) t own within =
      let later = moved-here (n + 1) atoms i t (omega (arith, own)) (omega (arith, within)) in (
        later.0,
        later.1,
        ap (λ moves. atom_totals a moves ∷ totals_from (n + 1) atoms (m ∷ past)) (by-other n (λ same. absurd (omega (arith, own, same))))
            ∙ ap (λ ts. atom_totals a (by_atom n past) ∷ ts) later.2,
      )

  -- so, where what is there is what was known
  pub moved-added : (atoms : List AtomDefinition) (totals : List AtomTotals) (t : AtomTotals) → totals ≡ totals_from 0 atoms past → m.atom < length totals
      → ((a : AtomDefinition) (moves : List Moved) → get_or totals m.atom t ≡ atom_totals a moves → t ≡ atom_totals a (m ∷ moves))
      → set totals m.atom t ≡ totals_from 0 atoms (m ∷ past)
  moved-added atoms totals t known within adds =
      let here = moved-here 0 atoms m.atom t (omega arith) (omega (arith, ap length known, totals-long 0 atoms past, within)) in
      ap (set totals m.atom) (adds here.0 (by_atom m.atom past) (ap (λ ts. get_or ts m.atom t) known ∙ here.1))
      ∙ ap (λ ts. set ts m.atom (atom_totals here.0 (m ∷ by_atom m.atom past))) known ∙ sym here.2

  -- a move of an atom that is not there changes nothing
  pub moved-past : (atoms : List AtomDefinition) (totals : List AtomTotals) → totals ≡ totals_from 0 atoms past → length totals ≤ m.atom
      → totals ≡ totals_from 0 atoms (m ∷ past)
  moved-past atoms totals known past_all =
      known ∙ sym (moved-elsewhere 0 atoms (λ k low high same. absurd (omega (arith, same, high, past_all, ap length known, totals-long 0 atoms past))))

-- moves that are added so far, where those that are left lead to the same moves
pub record Adds (states : List Local) (moves : List Move) (atoms : List AtomDefinition) (past : List Moved) (i : ℕ) (totals : List AtomTotals) : Type 0 where
  pub so_far : List Moved
  pub known : totals ≡ totals_from 0 atoms so_far
  pub same : all_moved_to states (drop i moves) so_far ≡ all_moved_to states moves past

-- one more is added
pub adds-more : (states : List Local) (moves : List Move) (atoms : List AtomDefinition) (past : List Moved) (i : ℕ) (totals new : List AtomTotals) (step : Move) → i < length moves
    → step ≡ get_or moves i step
    → ((known : List Moved) → totals ≡ totals_from 0 atoms known → new ≡ totals_from 0 atoms (moved_to states step ∷ known))
    → Adds states moves atoms past i totals → Adds states moves atoms past (i + 1) new
adds-more states moves atoms past i totals new step within is adds so_far = record {
  so_far = moved_to states step ∷ so_far.so_far;
  known = adds so_far.so_far so_far.known;
  same = ap (λ s. all_moved_to states (drop (i + 1) moves) (moved_to states s ∷ so_far.so_far)) is
      ∙ sym (ap (λ rest. all_moved_to states rest so_far.so_far) (drop_more moves i step within)) ∙ so_far.same;
}

-- where none is left, all are
pub adds-all : (states : List Local) (moves : List Move) (atoms : List AtomDefinition) (past : List Moved) (i : ℕ) (totals : List AtomTotals) → drop i moves ≡ []
    → Adds states moves atoms past i totals → totals ≡ totals_from 0 atoms (all_moved_to states moves past)
adds-all states moves atoms past i totals none so_far =
    so_far.known ∙ ap (totals_from 0 atoms) (sym (ap (λ rest. all_moved_to states rest so_far.so_far) none) ∙ so_far.same)
