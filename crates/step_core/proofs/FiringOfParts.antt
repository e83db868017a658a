-- The parts of a state while a sure choice is fired.
use Rattle.std.proofs.Common.{◌≡◌, ℕ, zero, suc, ◌+◌, ◌==◌, refl, sym, ◌∙◌, ap, subst, List, [], ◌∷◌, length, Contains, arith, Bool, true, false, cond, not, eqb-true}
use Rattle.std.specs.Prelude.{Option, Some, None, find, is_none, option_map, slice_get}
use Rattle.std.specs.List.{list_all}
use Rattle.std.specs.Option.{option_map_or}
use Rattle.std.proofs.lemmas.Bool.{and_parts, and_from, false≢true, false_from_ne_true}
use Rattle.std.proofs.lemmas.Option.{none-some, same_Some}
use Rattle.petri_atom.specs.Local.{Local, Row, has}
use Rattle.petri_atom.specs.Definition.{AtomDefinition, Fits, fired, is_well_formed, offers_number}
use Rattle.connector_tree.specs.declared.tree.Port.{Port}
use Rattle.plant_model.specs.Choice.{ChoiceDefinition}
use Rattle.plant_model.specs.Firing.{FiringDefinition, choice_in}
use Rattle.plant_model.specs.Laws.{are_moves_at, is_move_at}
use Rattle.plant_model.specs.Plant.{PlantDefinition}
use Rattle.plant_model.specs.Rules.{fault_of}
use Rattle.plant_model.specs.Step.{moved_by, next, stepped, transfer}
use Rattle.plant_model.specs.declared.choice.Move.{Move}
use Rattle.plant_model.proofs.ByAtom.{first-of-atom, next-entry}
use Rattle.plant_model.proofs.Membership.{all-in, entry-in}
use Rattle.plant_model.proofs.OnRuns.{stepped-fits}
use Rattle.plant_model.proofs.Stepping.{length-stepped}
use Rattle.step_core.specs.Dispatching.{AllPresentFit, ArePartsKept}
use Rattle.step_core.specs.Parts.{is_present, parts_of, shown_in}
use Rattle.step_core.specs.Sure.{IsSure, moved_parts, went_on}
use Rattle.step_core.proofs.OfSure.{sure-choice-of}
use Rattle.step_core.proofs.OfParts.{shown-at}
use Rattle.step_core.proofs.PartsKept.{part, part-at, told-away}
use Rattle.step_core.proofs.Present.{participant, sure-shown}
use Rattle.step_core.proofs.Refreshing.{stays}

-- ---- the atoms of a sure choice are present

-- where the atoms of the ports are, those of their moves are
of-ports : (parts : List (Option Local)) (atoms : List AtomDefinition) (states : List Local) (ports : List Port) (moves : List Move) →
    are_moves_at atoms states ports moves ≡ true → list_all (λ p. is_present parts p.atom) ports ≡ true → list_all (λ m. is_present parts m.atom) moves ≡ true
of-ports parts atoms states [] [] moved here = refl
of-ports parts atoms states [] (m ∷ ms) moved here = absurd (false≢true moved)
of-ports parts atoms states (p ∷ ps) [] moved here = absurd (false≢true moved)
of-ports parts atoms states (p ∷ ps) (m ∷ ms) moved here =
    let both = and_parts (is_move_at atoms states p m) (are_moves_at atoms states ps ms) moved in
    let present = and_parts (is_present parts p.atom) (list_all (λ q. is_present parts q.atom) ps) here in
    let same : m.atom ≡ p.atom = eqb-true m.atom p.atom (and_parts (m.atom == p.atom) _ both.0).0 in
    and_from _ _ (ap (is_present parts) same ∙ present.0) (of-ports parts atoms states ps ms both.1 present.1)

pub moves-present : (plant : PlantDefinition) (parts : List (Option Local)) (c : ChoiceDefinition) → IsSure plant parts c → list_all (λ m. is_present parts m.atom) c.moves ≡ true
moves-present plant parts c sure =
    let chosen = sure-choice-of plant parts c sure in
    of-ports parts plant.atoms (shown_in parts) chosen.takes.interaction.ports c.moves chosen.takes.moves chosen.whole

-- no move is of an atom that is away
pub none-of-away : (parts : List (Option Local)) (n : ℕ) (moves : List Move) → list_all (λ m. is_present parts m.atom) moves ≡ true → is_present parts n ≡ false → find (λ m. m.atom == n) moves ≡ None
none-of-away parts n [] here gone = refl
none-of-away parts n (m ∷ ms) here gone =
    let both = and_parts (is_present parts m.atom) (list_all (λ k. is_present parts k.atom) ms) here in
    let other : (m.atom == n) ≡ false = false_from_ne_true (m.atom == n) (λ same. false≢true (sym (ap (is_present parts) (eqb-true m.atom n same) ∙ gone) ∙ both.0)) in
    ap (λ b. cond b (Some m) (find (λ k. k.atom == n) ms)) other ∙ none-of-away parts n ms both.1 gone

-- ---- what is kept

module _ (plant : PlantDefinition) (away : ℕ) (states : List Local) (kept : ArePartsKept away states) (c : FiringDefinition) (sure : IsSure plant (parts_of (has away) states) (choice_in c)) where
  abbrev parts : List (Option Local)
  parts = parts_of (has away) states

  -- an atom that is away goes on to show nothing
  pub fired-kept : ArePartsKept away (next plant states c)
  fired-kept =
      let long : length (next plant states c) ≡ length states = length-stepped plant.atoms c.moves (transfer plant states c) 0 states in
      record {
        few = omega (arith, long, kept.few);
        hidden = λ n gone. stays plant states c n (none-of-away parts n c.moves (moves-present plant parts (choice_in c) sure) (ap not (told-away away states kept n ∙ gone))) ∙ kept.hidden n gone;
      }

  -- and the state of each that is present goes on to fit
  pub fired-fit : list_all is_well_formed plant.atoms ≡ true → AllPresentFit plant parts → AllPresentFit plant (parts_of (has away) (next plant states c))
  fired-fit formed fit n a s its_atom its_state =
      each (slice_get states n) refl (sym (ap (option_map (part (has away n))) (next-entry plant.atoms c.moves (transfer plant states c) n states)) ∙ sym (part-at (has away) (next plant states c) n) ∙ its_state)
    where
      now : Local → Local
      now = stepped plant.atoms c.moves (transfer plant states c) n

      both : (b : Bool) (x y : Local) → Some (part b x) ≡ Some (Some y) → (b ≡ false) × (x ≡ y)
      both true x y made = absurd (none-some y (same_Some None (Some y) made))
      both false x y made = (refl, same_Some x y (same_Some (Some x) (Some y) made))

      each : (o : Option Local) → slice_get states n ≡ o → option_map (part (has away n)) (option_map now o) ≡ Some (Some s) → Fits a s
      each None there made = absurd (none-some (Some s) made)
      each (Some old) there made =
          let told = both (has away n) (now old) s made in
          let was : slice_get parts n ≡ Some (Some old) = part-at (has away) states n ∙ ap (option_map (part (has away n))) there ∙ ap (λ b. Some (part b old)) told.0 in
          let well = all-in is_well_formed plant.atoms formed a (entry-in plant.atoms n a its_atom) in
          let moved : moved_by a c.moves (transfer plant states c n) n old ≡ s = sym (ap (λ o. option_map_or (λ b. moved_by b c.moves (transfer plant states c n) n old) o old) its_atom) ∙ told.1 in
          subst (Fits a) moved (stepped-fits plant formed a c.moves (transfer plant states c n) n old well (fit n a old its_atom was))

-- ---- parts by number

-- the part of an atom after a choice is what its move leaves of it
moved-from-at : (atoms : List AtomDefinition) (moves : List Move) (d : ℕ → Row) (k : ℕ) (parts : List (Option Local)) (n : ℕ) → slice_get (moved_parts atoms moves d k parts) n ≡ option_map (option_map (stepped atoms moves d (k + n))) (slice_get parts n)
moved-from-at atoms moves d k [] n = refl
moved-from-at atoms moves d k (p ∷ ps) zero =
    let e : k ≡ k + 0 = omega arith in
    ap (λ j. Some (option_map (stepped atoms moves d j) p)) e
moved-from-at atoms moves d k (p ∷ ps) (suc n) =
    let e : suc k + n ≡ k + suc n = omega arith in
    moved-from-at atoms moves d (suc k) ps n ∙ ap (λ j. option_map (option_map (stepped atoms moves d j)) (slice_get ps n)) e

pub length-moved : (atoms : List AtomDefinition) (moves : List Move) (d : ℕ → Row) (k : ℕ) (parts : List (Option Local)) → length (moved_parts atoms moves d k parts) ≡ length parts
length-moved atoms moves d k [] = refl
length-moved atoms moves d k (p ∷ ps) = ap suc (length-moved atoms moves d (suc k) ps)

pub moved-at : (plant : PlantDefinition) (parts : List (Option Local)) (c : FiringDefinition) (n : ℕ) → slice_get (went_on plant parts c) n ≡ option_map (option_map (stepped plant.atoms c.moves (transfer plant (shown_in parts) c) n)) (slice_get parts n)
moved-at plant parts c n =
    let e : 0 + n ≡ n = omega arith in
    moved-from-at plant.atoms c.moves (transfer plant (shown_in parts) c) 0 parts n ∙
    ap (λ j. option_map (option_map (stepped plant.atoms c.moves (transfer plant (shown_in parts) c) j)) (slice_get parts n)) e

-- an atom without a move keeps its part
pub part-stays : (plant : PlantDefinition) (parts : List (Option Local)) (c : FiringDefinition) (n : ℕ) → find (λ m. m.atom == n) c.moves ≡ None → slice_get (went_on plant parts c) n ≡ slice_get parts n
part-stays plant parts c n none = moved-at plant parts c n ∙ each (slice_get parts n)
  where
    still : (s : Local) → stepped plant.atoms c.moves (transfer plant (shown_in parts) c) n s ≡ s
    still s = of-atom (slice_get plant.atoms n)
      where
        of-atom : (o : Option AtomDefinition) → option_map_or (λ a. moved_by a c.moves (transfer plant (shown_in parts) c n) n s) o s ≡ s
        of-atom None = refl
        of-atom (Some a) = ap (λ o. option_map_or (λ m. fired a m.transition (transfer plant (shown_in parts) c n) s) o s) none

    each : (o : Option (Option Local)) → option_map (option_map (stepped plant.atoms c.moves (transfer plant (shown_in parts) c) n)) o ≡ o
    each None = refl
    each (Some None) = refl
    each (Some (Some s)) = ap (λ x. Some (Some x)) (still s)

-- and each atom that is present stays so, and one that is away too
pub presence-stays : (plant : PlantDefinition) (parts : List (Option Local)) (c : FiringDefinition) (n : ℕ) → is_present (went_on plant parts c) n ≡ is_present parts n
presence-stays plant parts c n = ap (λ o. not (option_map_or is_none o false)) (moved-at plant parts c n) ∙ each (slice_get parts n)
  where
    each : (o : Option (Option Local)) → not (option_map_or is_none (option_map (option_map (stepped plant.atoms c.moves (transfer plant (shown_in parts) c) n)) o) false) ≡ not (option_map_or is_none o false)
    each None = refl
    each (Some None) = refl
    each (Some (Some s)) = refl

-- each participant offered its transition, and fires it
module _ (plant : PlantDefinition) (valid : fault_of plant ≡ None) (parts : List (Option Local)) (c : FiringDefinition) (sure : IsSure plant parts (choice_in c)) (m : Move) (at : Contains c.moves m) (a : AtomDefinition) (before after : Local)
    (known : slice_get plant.atoms m.atom ≡ Some a) (was : slice_get (shown_in parts) m.atom ≡ Some before) (is : slice_get (shown_in (went_on plant parts c)) m.atom ≡ Some after) where
  its : (b : AtomDefinition) × (s : Local) × (slice_get plant.atoms m.atom ≡ Some b) × (slice_get parts m.atom ≡ Some (Some s)) × (offers_number b s m.transition ≡ true)
  its = participant plant parts (choice_in c) sure m at

  same-atom : its.0 ≡ a
  same-atom = same_Some its.0 a (sym its.2 ∙ known)

  same-state : its.1 ≡ before
  same-state = same_Some its.1 before (sym (shown-at parts m.atom (Some its.1) its.3) ∙ was)

  pub offered-before : offers_number a before m.transition ≡ true
  offered-before = ap (λ b. offers_number b before m.transition) (sym same-atom) ∙ ap (λ s. offers_number its.0 s m.transition) (sym same-state) ∙ its.4

  pub fires : after ≡ fired a m.transition (transfer plant (shown_in parts) c m.atom) before
  fires =
      let now : Local → Local = stepped plant.atoms c.moves (transfer plant (shown_in parts) c) m.atom in
      let left : slice_get (went_on plant parts c) m.atom ≡ Some (Some (now its.1)) = moved-at plant parts c m.atom ∙ ap (option_map (option_map now)) its.3 in
      same_Some after (now its.1) (sym is ∙ shown-at (went_on plant parts c) m.atom (Some (now its.1)) left) ∙ ap now same-state ∙
      ap (λ o. option_map_or (λ b. moved_by b c.moves (transfer plant (shown_in parts) c m.atom) m.atom before) o before) known ∙
      ap (λ o. option_map_or (λ k. fired a k.transition (transfer plant (shown_in parts) c m.atom) before) o before)
      (first-of-atom plant (shown_in parts) (choice_in c) valid (sure-shown plant parts (choice_in c) sure) m at)
