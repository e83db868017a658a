-- What stays of an atom that no move of a choice is of: its state, and what it offers.
use Rattle.std.proofs.Common.{◌≡◌, ◌≢◌, ℕ, ◌==◌, ◌<◌, refl, sym, ◌∙◌, ap, subst, List, [], ◌∷◌, map, length, get_or, set, arith, false, cond, ⊎_elim, slice_index_or}
use Rattle.std.specs.Prelude.{Option, Some, None, slice_get, find}
use Rattle.std.specs.Option.{option_map_or}
use Rattle.std.proofs.lemmas.Bool.{cases_eq, cases_lt, eq-eqb, ne_eqb, or_parts, or_from, false≢true}
use Rattle.std.proofs.lemmas.List.{length-set, get_or-set_same, get_or-set_other}
use Rattle.std.proofs.lemmas.Option.{same_Some, slice_get-get_or, slice_get_past, slice_get_within, get_or_from_slice_get}
use Rattle.petri_atom.specs.Local.{Local, Row, is_in}
use Rattle.petri_atom.specs.Definition.{AtomDefinition, Fits, fired, offered_set}
use Rattle.plant_model.specs.Firing.{FiringDefinition}
use Rattle.plant_model.specs.Fitting.{AllFit}
use Rattle.plant_model.specs.Plant.{PlantDefinition}
use Rattle.plant_model.specs.Step.{next, transfer, moved_by, stepped}
use Rattle.plant_model.specs.declared.choice.Move.{Move}
use Rattle.plant_model.proofs.Judging.{some_state}
use Rattle.plant_model.proofs.Stepping.{length-stepped, stepped-at}
use Rattle.step_core.specs.EnabledTransitions.{AreOffered, AreOfferedBut}

-- an atom that no move is of keeps its state
still : (atoms : List AtomDefinition) (moves : List Move) (d : ℕ → Row) (n : ℕ) (s : Local) → find (λ m. m.atom == n) moves ≡ None → stepped atoms moves d n s ≡ s
still atoms moves d n s none = each (slice_get atoms n)
  where
    each : (o : Option AtomDefinition) → option_map_or (λ a. moved_by a moves (d n) n s) o s ≡ s
    each None = refl
    each (Some a) = ap (λ o. option_map_or (λ m. fired a m.transition (d n) s) o s) none

-- the state after a choice of an atom that no move is of is its state from before
unmoved : (plant : PlantDefinition) (old : List Local) (c : FiringDefinition) (n : ℕ) (s : Local) → find (λ m. m.atom == n) c.moves ≡ None → slice_get (next plant old c) n ≡ Some s → slice_get old n ≡ Some s
unmoved plant old c n s none there =
    let d = transfer plant old c in
    let bound : n < length old = omega (arith, slice_get_within (next plant old c) n s there, length-stepped plant.atoms c.moves d 0 old) in
    let value = sym (get_or_from_slice_get (next plant old c) n s s there) ∙ stepped-at plant.atoms c.moves d 0 n old s bound ∙ ap (λ k. stepped plant.atoms c.moves d k (get_or old n s)) (omega arith) ∙ still plant.atoms c.moves d n (get_or old n s) none in
    slice_get-get_or old n s bound ∙ ap Some (sym value)

-- so each such atom has the state that it had, if it has one
pub stays : (plant : PlantDefinition) (old : List Local) (c : FiringDefinition) (n : ℕ) → find (λ m. m.atom == n) c.moves ≡ None → slice_get (next plant old c) n ≡ slice_get old n
stays plant old c n none =
    let new = next plant old c in
    let long : length new ≡ length old = length-stepped plant.atoms c.moves (transfer plant old c) 0 old in
    ⊎_elim
    (λ within.
    let there = slice_get-get_or new n some_state (omega (arith, long)) in
    there ∙ sym (unmoved plant old c n (get_or new n some_state) none there))
    (λ past. slice_get_past new n (omega (arith, long)) ∙ sym (slice_get_past old n past))
    (cases_lt n (length old))

-- an atom that is not among those of some moves is of none of them
pub of-no-move : (moves : List Move) (n : ℕ) → is_in (map (λ m. m.atom) moves) n ≡ false → find (λ m. m.atom == n) moves ≡ None
of-no-move [] n out = refl
of-no-move (m ∷ ms) n out =
    let parts = or_parts (m.atom == n) (is_in (map (λ k. k.atom) ms) n) out in
    ap (λ b. cond b (Some m) (find (λ k. k.atom == n) ms)) parts.0 ∙ of-no-move ms n parts.1

-- what was offered where the atoms that did not change were as they are is what these offer
pub offered-still : (atoms : List AtomDefinition) (changed : List ℕ) (before after : List Local) (sets : List ℕ) → ((n : ℕ) → is_in changed n ≡ false → slice_get after n ≡ slice_get before n) → AreOffered atoms before sets → AreOfferedBut changed atoms after sets
offered-still atoms changed before after sets same exact n a s out known there = exact n a s known (sym (same n out) ∙ there)

-- once the first of the changed atoms is judged again, and the sets of all others stay, that atom is done
pub after-one : (k : ℕ) (rest : List ℕ) (atoms : List AtomDefinition) (states : List Local) (old new : List ℕ) →
    ((a : AtomDefinition) (s : Local) → slice_get atoms k ≡ Some a → slice_get states k ≡ Some s → slice_index_or new k 0 ≡ offered_set a s) →
    ((n : ℕ) → n ≢ k → slice_index_or new n 0 ≡ slice_index_or old n 0) →
    AreOfferedBut (k ∷ rest) atoms states old → AreOfferedBut rest atoms states new
after-one k rest atoms states old new again others exact n a s out known there = ⊎_elim one other (cases_eq n k)
  where
    one : n ≡ k → slice_index_or new n 0 ≡ offered_set a s
    one same =
        ap (λ j. slice_index_or new j 0) same ∙
        again a s (ap (slice_get atoms) (sym same) ∙ known) (ap (slice_get states) (sym same) ∙ there)

    other : n ≢ k → slice_index_or new n 0 ≡ offered_set a s
    other differs =
        let apart : (k == n) ≡ false = ne_eqb k n (λ same. differs (sym same)) in
        others n differs ∙ exact n a s (or_from (k == n) (is_in rest n) apart out) known there

-- where one state is put in the place of another, all others stay
pub others-stay : (states : List Local) (k : ℕ) (x : Local) (n : ℕ) → is_in (k ∷ []) n ≡ false → slice_get (set states k x) n ≡ slice_get states n
others-stay states k x n out =
    let new = set states k x in
    let other : n ≢ k = λ same. false≢true (sym (or_parts (k == n) false out).0 ∙ eq-eqb k n (sym same)) in
    ⊎_elim
    (λ within. slice_get-get_or new n some_state (omega (arith, within, length-set states k x)) ∙ ap Some (get_or-set_other states k n x some_state other) ∙ sym (slice_get-get_or states n some_state within))
    (λ past. slice_get_past new n (omega (arith, past, length-set states k x)) ∙ sym (slice_get_past states n past))
    (cases_lt n (length states))

-- and where it fits its atom, all fit
pub one-set-fits : (plant : PlantDefinition) (states : List Local) (k : ℕ) (x : Local) → k < length states → ((a : AtomDefinition) → slice_get plant.atoms k ≡ Some a → Fits a x) → AllFit plant states → AllFit plant (set states k x)
one-set-fits plant states k x within fit all n a s known there = ⊎_elim one other (cases_eq n k)
  where
    one : n ≡ k → Fits a s
    one same =
        let here : slice_get (set states k x) k ≡ Some x = slice_get-get_or (set states k x) k some_state (omega (arith, within, length-set states k x)) ∙ ap Some (get_or-set_same states k x some_state within) in
        subst (Fits a) (same_Some x s (sym here ∙ ap (slice_get (set states k x)) (sym same) ∙ there)) (fit a (ap (slice_get plant.atoms) (sym same) ∙ known))

    other : n ≢ k → Fits a s
    other differs =
        let apart : (k == n) ≡ false = ne_eqb k n (λ same. differs (sym same)) in
        all n a s known (sym (others-stay states k x n (or_from (k == n) false apart refl)) ∙ there)
