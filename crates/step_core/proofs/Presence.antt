-- Which atoms are present behind a choice that is fired, or whose participants leave, and behind one that comes back.
use Rattle.std.proofs.Common.{◌≡◌, ℕ, zero, suc, ◌==◌, ◌<◌, refl, sym, ◌∙◌, ap, subst, List, [], ◌∷◌, length, map, set, false, ◌||◌, ⊎_elim}
use Rattle.std.specs.Prelude.{Option, Some, slice_get}
use Rattle.std.proofs.lemmas.Bool.{cases_eq, eq-eqb, false≢true, or_parts}
use Rattle.std.proofs.lemmas.Option.{none-some, same_Some}
use Rattle.petri_atom.specs.Local.{Local, is_in}
use Rattle.petri_atom.specs.Definition.{AtomDefinition, Fits}
use Rattle.plant_model.specs.Fitting.{AllFit}
use Rattle.plant_model.specs.Plant.{PlantDefinition}
use Rattle.plant_model.specs.declared.choice.Move.{Move}
use Rattle.plant_model.proofs.ValueRows.{set-here, set-other}
use Rattle.step_core.specs.Dispatching.{AllPresentFit, state_at}
use Rattle.step_core.specs.Sure.{has_move}

-- where all are present and fit, all that are present fit
pub all-fit : (plant : PlantDefinition) (states : List Local) → AllFit plant states → AllPresentFit plant (map Some states)
all-fit plant states fit n a s its_atom its_part = fit n a s its_atom (at states n its_part)
  where
    at : (xs : List Local) (k : ℕ) → slice_get (map Some xs) k ≡ Some (Some s) → slice_get xs k ≡ Some s
    at [] k there = absurd (none-some (Some s) there)
    at (x ∷ xs) zero there = same_Some (Some x) (Some s) there
    at (x ∷ xs) (suc k) there = at xs k there

-- the state of an atom that is present is its part
pub known-part : (parts : List (Option Local)) (n : ℕ) (s : Local) → state_at parts n ≡ Some s → slice_get parts n ≡ Some (Some s)
known-part [] n s there = absurd (none-some s there)
known-part (p ∷ ps) zero s there = ap Some there
known-part (p ∷ ps) (suc n) s there = known-part ps n s there

-- an atom that is not among those of some moves has none
pub no-move : (moves : List Move) (n : ℕ) → is_in (map (λ m. m.atom) moves) n ≡ false → has_move moves n ≡ false
no-move [] n out = refl
no-move (m ∷ ms) n out =
    let parts = or_parts (m.atom == n) (is_in (map (λ k. k.atom) ms) n) out in
    ap (λ b. b || has_move ms n) parts.0 ∙ no-move ms n parts.1

-- all others keep their parts where one is put
pub others-kept : (parts : List (Option Local)) (k : ℕ) (p : Option Local) (n : ℕ) → is_in (k ∷ []) n ≡ false → slice_get (set parts k p) n ≡ slice_get parts n
others-kept parts k p n out = set-other parts k p n (λ same. false≢true (sym (or_parts (k == n) false out).0 ∙ eq-eqb k n (sym same)))

-- where a state that fits its atom is put, all that are present fit
pub one-comes-fit : (plant : PlantDefinition) (parts : List (Option Local)) (k : ℕ) (x : Local) → k < length parts → ((a : AtomDefinition) → slice_get plant.atoms k ≡ Some a → Fits a x) → AllPresentFit plant parts → AllPresentFit plant (set parts k (Some x))
one-comes-fit plant parts k x within fit all n a s its_atom its_part = ⊎_elim
    (λ same.
    let here : slice_get (set parts k (Some x)) n ≡ Some (Some x) = ap (slice_get (set parts k (Some x))) same ∙ set-here parts k (Some x) within in
    let value : x ≡ s = same_Some x s (same_Some (Some x) (Some s) (sym here ∙ its_part)) in
    subst (Fits a) value (fit a (ap (slice_get plant.atoms) (sym same) ∙ its_atom)))
    (λ other. all n a s its_atom (sym (set-other parts k (Some x) n other) ∙ its_part))
    (cases_eq n k)
