-- What a sure choice says of its participants: they are present, and it is allowed in the state that the parts show.
use Rattle.std.proofs.Common.{◌≡◌, ℕ, zero, suc, ◌+◌, ◌==◌, refl, sym, ◌∙◌, ap, subst, List, [], ◌∷◌, map, Contains, arith, Bool, true, false, cond, ◌||◌, ◌&&◌, not}
use Rattle.std.specs.Prelude.{Option, Some, None, is_none, option_map, slice_get}
use Rattle.std.specs.Option.{option_map_or}
use Rattle.std.proofs.lemmas.Bool.{and_parts, eqb-true, false≢true}
use Rattle.std.proofs.lemmas.Option.{slice_get-map}
use Rattle.petri_atom.specs.Local.{Local}
use Rattle.petri_atom.specs.Definition.{AtomDefinition, offers_number}
use Rattle.connector_tree.specs.declared.tree.Port.{Port}
use Rattle.plant_model.specs.Choice.{ChoiceDefinition, Interaction, IsAllowed}
use Rattle.plant_model.specs.Firing.{FiringDefinition, choice_in}
use Rattle.plant_model.specs.Laws.{IsInRange, is_of_port}
use Rattle.plant_model.specs.Plant.{PlantDefinition, of_atom}
use Rattle.plant_model.specs.Rules.{fault_of}
use Rattle.plant_model.specs.Step.{next}
use Rattle.plant_model.specs.declared.choice.Move.{Move}
use Rattle.plant_model.proofs.Membership.{all-in}
use Rattle.plant_model.proofs.OfChoices.{in-range}
use Rattle.plant_model.proofs.OfPorts.{port-of-move}
use Rattle.step_core.specs.Parts.{is_present, parts_from, parts_of, shown, shown_in}
use Rattle.step_core.specs.Sure.{IsSure, has_move, left_by, went_on}
use Rattle.step_core.proofs.OfSure.{sure-choice-of}
use Rattle.step_core.proofs.SureAllowed.{goes-on, leaves-behind, sure-allowed}

-- the atom with a number is away
abbrev pub is_away : List (Option Local) → ℕ → Bool
is_away parts n = option_map_or is_none (slice_get parts n) false

-- any parts are those of the state that they show, without the atoms that are away
parts-from : (away : ℕ → Bool) (n : ℕ) (parts : List (Option Local)) → ((k : ℕ) (part : Option Local) → slice_get parts k ≡ Some part → away (n + k) ≡ is_none part) → parts_from away n (map shown parts) ≡ parts
parts-from away n [] told = refl
parts-from away n (part ∷ parts) told =
    let e : n ≡ n + zero = omega arith in
    ap (λ b. cond b None (Some (shown part)) ∷ parts_from away (suc n) (map shown parts)) (ap away e ∙ told zero part refl) ∙
    ap (λ p. p ∷ parts_from away (suc n) (map shown parts)) (each part) ∙
    ap (λ ps. part ∷ ps) (parts-from away (suc n) parts (λ k p there. ap away (omega arith) ∙ told (suc k) p there))
  where
    each : (p : Option Local) → cond (is_none p) None (Some (shown p)) ≡ p
    each None = refl
    each (Some s) = refl

pub parts-of-shown : (parts : List (Option Local)) → parts_of (is_away parts) (shown_in parts) ≡ parts
parts-of-shown parts = parts-from (is_away parts) 0 parts (λ k part there.
    let e : 0 + k ≡ k = omega arith in
    ap (is_away parts) e ∙ ap (λ o. option_map_or is_none o false) there)

-- the parts of a firing whose participants leave, in any parts
pub left-shown : (plant : PlantDefinition) (parts : List (Option Local)) (f : FiringDefinition) → left_by parts f.moves ≡ parts_of (λ n. is_away parts n || has_move f.moves n) (next plant (shown_in parts) f)
left-shown plant parts f = ap (λ ps. left_by ps f.moves) (sym (parts-of-shown parts)) ∙ leaves-behind plant (shown_in parts) (is_away parts) f

module _ (plant : PlantDefinition) (parts : List (Option Local)) (c : ChoiceDefinition) where
  module _ (sure : IsSure plant parts c) where
    -- it is sure in the parts of what is shown
    sure-in-shown : IsSure plant (parts_of (is_away parts) (shown_in parts)) c
    sure-in-shown = subst (λ ps. IsSure plant ps c) (sym (parts-of-shown parts)) sure

    -- so it is allowed in what is shown, and within the plant
    pub sure-shown : IsAllowed plant (shown_in parts) c
    sure-shown = sure-allowed plant (shown_in parts) (is_away parts) c sure-in-shown

    pub sure-in-range : fault_of plant ≡ None → IsInRange plant c
    sure-in-range valid = in-range plant (shown_in parts) c valid sure-shown

    -- a participant is there, is present, and offers its transition
    pub participant : (m : Move) → Contains c.moves m → (a : AtomDefinition) × (s : Local) × (slice_get plant.atoms m.atom ≡ Some a) × (slice_get parts m.atom ≡ Some (Some s)) × (offers_number a s m.transition ≡ true)
    participant m at =
        let chosen = sure-choice-of plant parts c sure in
        let takes = chosen.takes in
        let i : Interaction = takes.interaction in
        let found = port-of-move plant.atoms (shown_in parts) i.ports c.moves takes.moves m at in
        let p : Port = found.0 in
        let both = and_parts (m.atom == p.atom) (of_atom plant.atoms (shown_in parts) p.atom (λ a s. is_of_port a p.port m.transition && offers_number a s m.transition) false) found.2 in
        let same : p.atom ≡ m.atom = sym (eqb-true m.atom p.atom both.0) in
        let here : is_present parts m.atom ≡ true = ap (is_present parts) (sym same) ∙ all-in (λ q. is_present parts q.atom) i.ports chosen.whole p found.1 in
        let offered : of_atom plant.atoms (shown_in parts) m.atom (λ a s. is_of_port a p.port m.transition && offers_number a s m.transition) false ≡ true =
        ap (λ n. of_atom plant.atoms (shown_in parts) n (λ a s. is_of_port a p.port m.transition && offers_number a s m.transition) false) (sym same) ∙ both.1 in
        each p (slice_get plant.atoms m.atom) (slice_get parts m.atom) refl refl here
        (sym (ap (λ w. option_map_or (λ a. option_map_or (λ s. is_of_port a p.port m.transition && offers_number a s m.transition) w false) (slice_get plant.atoms m.atom) false) (slice_get-map shown parts m.atom)) ∙ offered)
      where
        each : (p : Port) (o : Option AtomDefinition) (w : Option (Option Local)) → slice_get plant.atoms m.atom ≡ o → slice_get parts m.atom ≡ w → not (option_map_or is_none w false) ≡ true
            → option_map_or (λ a. option_map_or (λ s. is_of_port a p.port m.transition && offers_number a s m.transition) (option_map shown w) false) o false ≡ true
            → (a : AtomDefinition) × (s : Local) × (slice_get plant.atoms m.atom ≡ Some a) × (slice_get parts m.atom ≡ Some (Some s)) × (offers_number a s m.transition ≡ true)
        each p None w its_atom its_part here ready = absurd (false≢true ready)
        each p (Some a) None its_atom its_part here ready = absurd (false≢true ready)
        each p (Some a) (Some None) its_atom its_part here ready = absurd (false≢true here)
        each p (Some a) (Some (Some s)) its_atom its_part here ready =
            (a, s, its_atom, its_part, (and_parts (is_of_port a p.port m.transition) (offers_number a s m.transition) ready).1)

-- a firing of what is sure leads on as in what is shown
pub went-shown : (plant : PlantDefinition) (parts : List (Option Local)) (f : FiringDefinition) → IsSure plant parts (choice_in f) → went_on plant parts f ≡ parts_of (is_away parts) (next plant (shown_in parts) f)
went-shown plant parts f sure =
    ap (λ ps. went_on plant ps f) (sym (parts-of-shown parts)) ∙ goes-on plant (shown_in parts) (is_away parts) f (sure-in-shown plant parts (choice_in f) sure)
