-- The state that a choice leaves, atom by atom.
use Rattle.std.proofs.Common.{◌≡◌, ◌≢◌, ◌==◌, ℕ, zero, suc, ◌+◌, refl, sym, ◌∙◌, ap, List, [], ◌∷◌, take, Contains, arith, Bool, true, false, cond}
use Rattle.std.specs.Prelude.{Option, Some, None, slice_get, find, option_map}
use Rattle.std.specs.Option.{option_map_or}
use Rattle.std.proofs.lemmas.Bool.{eq-eqb, ne_eqb}
use Rattle.std.proofs.lemmas.Option.{none-some, same_Some, slice_get-get_or}
use Rattle.petri_atom.specs.Local.{Local, Row}
use Rattle.petri_atom.specs.Definition.{AtomDefinition, fired}
use Rattle.plant_model.specs.Choice.{ChoiceDefinition, IsAllowed}
use Rattle.plant_model.specs.Plant.{PlantDefinition}
use Rattle.plant_model.specs.Rules.{fault_of}
use Rattle.plant_model.specs.Step.{moved_by, stepped, stepped_from}
use Rattle.plant_model.specs.declared.choice.Move.{Move}
use Rattle.plant_model.proofs.Membership.{here, later}
use Rattle.plant_model.proofs.OwnAtoms.{no-earlier}

module _ (atoms : List AtomDefinition) (moves : List Move) (d : ℕ → Row) where
  -- each entry is what the moves leave of the old one
  stepped-entry : (n i : ℕ) (states : List Local) → slice_get (stepped_from atoms moves d n states) i ≡ option_map (stepped atoms moves d (n + i)) (slice_get states i)
  stepped-entry n i [] = refl
  stepped-entry n zero (s ∷ states) = ap (λ k. Some (stepped atoms moves d k s)) (omega arith)
  stepped-entry n (suc i) (s ∷ states) =
      let e : suc n + i ≡ n + suc i = omega arith in
      stepped-entry (suc n) i states ∙ ap (λ k. option_map (stepped atoms moves d k) (slice_get states i)) e

  pub next-entry : (i : ℕ) (states : List Local) → slice_get (stepped_from atoms moves d 0 states) i ≡ option_map (stepped atoms moves d i) (slice_get states i)
  next-entry i states =
      let e : 0 + i ≡ i = omega arith in
      stepped-entry 0 i states ∙ ap (λ k. option_map (stepped atoms moves d k) (slice_get states i)) e

  -- an atom of which there is no move stays
  pub stays : (i : ℕ) (states : List Local) → find (λ m. m.atom == i) moves ≡ None → slice_get (stepped_from atoms moves d 0 states) i ≡ slice_get states i
  stays i states none = next-entry i states ∙ each (slice_get atoms i) (slice_get states i)
    where
      each : (o : Option AtomDefinition) (w : Option Local) → option_map (λ s. option_map_or (λ a. moved_by a moves (d i) i s) o s) w ≡ w
      each o None = refl
      each None (Some s) = refl
      each (Some a) (Some s) = ap (λ f. Some (option_map_or (λ m. fired a m.transition (d i) s) f s)) none

  -- an atom of which there is one fires its transition
  pub moves-on : (i : ℕ) (states : List Local) (m : Move) (a : AtomDefinition) (s : Local) → find (λ m. m.atom == i) moves ≡ Some m → slice_get atoms i ≡ Some a → slice_get states i ≡ Some s → slice_get (stepped_from atoms moves d 0 states) i ≡ Some (fired a m.transition (d i) s)
  moves-on i states m a s first its_atom its_state =
      next-entry i states ∙ ap (option_map (stepped atoms moves d i)) its_state ∙
      ap (λ o. Some (option_map_or (λ b. moved_by b moves (d i) i s) o s)) its_atom ∙
      ap (λ f. Some (option_map_or (λ k. fired a k.transition (d i) s) f s)) first

-- the first element that passes, where none before it does
pub found-at : {X : Type 0} (f : X → Bool) (xs : List X) (k : ℕ) (x : X) → slice_get xs k ≡ Some x → find f (take k xs) ≡ None → f x ≡ true → find f xs ≡ Some x
found-at f [] k x there none passes = absurd (none-some x there)
found-at f (y ∷ ys) zero x there none passes =
    let same : y ≡ x = same_Some y x there in
    ap (λ b. cond b (Some y) (find f ys)) (ap f same ∙ passes) ∙ ap Some same
found-at f (y ∷ ys) (suc k) x there none passes = each (λ rest. found-at f ys k x there rest passes) (f y) refl none
  where
    each : (find f (take k ys) ≡ None → find f ys ≡ Some x) → (b : Bool) → f y ≡ b → cond b (Some y) (find f (take k ys)) ≡ None → find f (y ∷ ys) ≡ Some x
    each behind true told some = absurd (none-some y (sym some))
    each behind false told rest = ap (λ b. cond b (Some y) (find f ys)) told ∙ behind rest

-- where no move is of an atom, none is found
pub none-of : (i : ℕ) (moves : List Move) → ((m : Move) → Contains moves m → m.atom ≢ i) → find (λ m. m.atom == i) moves ≡ None
none-of i [] apart = refl
none-of i (m ∷ ms) apart =
    ap (λ b. cond b (Some m) (find (λ k. k.atom == i) ms)) (ne_eqb m.atom i (apart m (here m ms))) ∙ none-of i ms (λ k at. apart k (later m ms k at))

-- the participant of an allowed choice is the first of its atom
pub first-of-atom : (plant : PlantDefinition) (states : List Local) (c : ChoiceDefinition) → fault_of plant ≡ None → IsAllowed plant states c → (m : Move) → Contains c.moves m → find (λ k. k.atom == m.atom) c.moves ≡ Some m
first-of-atom plant states c valid allowed m at =
    let there : slice_get c.moves at.0 ≡ Some m = slice_get-get_or c.moves at.0 m at.1 ∙ ap Some at.2 in
    let fresh = no-earlier plant states c valid allowed c.moves refl at.0 m at.1 m.atom (ap (λ (x : Move). x.atom) (sym at.2)) in
    found-at (λ k. k.atom == m.atom) c.moves at.0 m there fresh (eq-eqb m.atom m.atom refl)
