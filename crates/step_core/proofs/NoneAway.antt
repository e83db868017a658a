-- Where no atom is away, the sure choices are the choices of the state.
use Rattle.std.proofs.Common.{◌≡◌, ℕ, refl, ◌∙◌, ap, List, [], ◌∷◌, map, Bool, true, false, cond, ◌||◌, ◌&&◌, not}
use Rattle.std.specs.Prelude.{Option, Some, None, is_none, option_map, slice_get}
use Rattle.std.specs.List.{list_all}
use Rattle.std.specs.Option.{option_map_or}
use Rattle.std.proofs.lemmas.Bool.{and_from}
use Rattle.std.proofs.lemmas.Option.{slice_get-map}
use Rattle.petri_atom.specs.Local.{Local, has}
use Rattle.connector_tree.specs.declared.tree.Port.{Port}
use Rattle.priority_filter.specs.Active.{active}
use Rattle.priority_filter.specs.Decided.{is_overruled}
use Rattle.priority_filter.specs.declared.seen.At.{At}
use Rattle.plant_model.specs.Choice.{Interaction, active_in, choices, choices_among, choices_of, flat_from, is_allowed_at, is_marked_at, is_offered_port, is_possible, is_possible_at, named, passes_guards, plant_interactions}
use Rattle.plant_model.specs.Plant.{PlantDefinition}
use Rattle.step_core.specs.Parts.{is_present, may_be_marked_in, may_count_in, shown_in}
use Rattle.step_core.specs.Sure.{is_possible_in, is_ruled_out, is_sure_at, is_whole, may_come, sure_among, sure_choices}
use Rattle.step_core.proofs.OfParts.{all-first, some-fails}

-- all parts of a state show the state
pub shown-whole : (states : List Local) → shown_in (map Some states) ≡ states
shown-whole [] = refl
shown-whole (s ∷ ss) = ap (λ xs. s ∷ xs) (shown-whole ss)

module _ (plant : PlantDefinition) (states : List Local) where
  abbrev parts : List (Option Local)
  parts = map Some states

  -- each atom is present
  all-present : (n : ℕ) → is_present parts n ≡ true
  all-present n = ap (λ o. not (option_map_or is_none o false)) (slice_get-map Some states n) ∙ each (slice_get states n)
    where
      each : (o : Option Local) → not (option_map_or is_none (option_map Some o) false) ≡ true
      each None = refl
      each (Some s) = refl

  -- so each interaction is whole
  all-whole : (ports : List Port) → list_all (λ p. is_present parts p.atom) ports ≡ true
  all-whole [] = refl
  all-whole (p ∷ ps) = and_from _ _ (all-present p.atom) (all-whole ps)

  -- and the places that may be marked are those that are
  pub marked-same : (at : At) → may_be_marked_in parts at ≡ is_marked_at states at
  marked-same at =
      ap (λ o. option_map_or (λ part. option_map_or (λ s. has s.marking at.place) part true) o false) (slice_get-map Some states at.atom) ∙ each (slice_get states at.atom)
    where
      each : (o : Option Local) → option_map_or (λ part. option_map_or (λ s. has s.marking at.place) part true) (option_map Some o) false ≡ option_map_or (λ s. has s.marking at.place) o false
      each None = refl
      each (Some s) = refl

  rules-same : may_count_in plant parts ≡ active_in plant states
  rules-same = ap (λ holds. active holds plant.rules) (λ j at. marked-same at j)

  -- what is not ruled out is what is possible
  may-possible : (i : Interaction) → not (is_ruled_out plant.atoms plant.wires parts i) ≡ is_possible plant.atoms plant.wires states i
  may-possible i =
      ap (λ b. not (b || (is_whole parts i && not (passes_guards plant.atoms plant.wires (shown_in parts) i)))) (some-fails (λ p. is_present parts p.atom) (is_offered_port plant.atoms (shown_in parts)) i.ports) ∙
      ap (λ b. not (not b || (is_whole parts i && not (passes_guards plant.atoms plant.wires (shown_in parts) i)))) (all-first (λ p. is_present parts p.atom) (is_offered_port plant.atoms (shown_in parts)) i.ports (all-whole i.ports)) ∙
      ap (λ b. not (not (list_all (is_offered_port plant.atoms (shown_in parts)) i.ports) || (b && not (passes_guards plant.atoms plant.wires (shown_in parts) i)))) (all-whole i.ports) ∙
      both (list_all (is_offered_port plant.atoms (shown_in parts)) i.ports) (passes_guards plant.atoms plant.wires (shown_in parts) i) ∙
      ap (λ ss. is_possible plant.atoms plant.wires ss i) (shown-whole states)
    where
      both : (a b : Bool) → not (not a || not b) ≡ (a && b)
      both true true = refl
      both true false = refl
      both false b = refl

  module _ (all : List Interaction) where
    may-same : (n : ℕ) → may_come plant.atoms plant.wires parts all n ≡ is_possible_at plant.atoms plant.wires states all n
    may-same n = ap (λ test. option_map_or test (slice_get all n) false) (λ j i. may-possible i j)

    possible-same : (n : ℕ) → is_possible_in plant parts all n ≡ is_possible_at plant.atoms plant.wires states all n
    possible-same n = ap (λ test. option_map_or test (slice_get all n) false) (λ j i. each i j)
      where
        each : (i : Interaction) → (is_whole parts i && is_possible plant.atoms plant.wires (shown_in parts) i) ≡ is_possible plant.atoms plant.wires states i
        each i =
            ap (λ b. b && is_possible plant.atoms plant.wires (shown_in parts) i) (all-whole i.ports) ∙
            ap (λ ss. is_possible plant.atoms plant.wires ss i) (shown-whole states)

    pub sure-same : (n : ℕ) → is_sure_at plant parts all n ≡ is_allowed_at plant states all n
    sure-same n =
        ap (λ b. b && not (is_overruled (may_count_in plant parts) (map named all) (may_come plant.atoms plant.wires parts all) n)) (possible-same n) ∙
        ap (λ rules. is_possible_at plant.atoms plant.wires states all n && not (is_overruled rules (map named all) (may_come plant.atoms plant.wires parts all) n)) rules-same ∙
        ap (λ test. is_possible_at plant.atoms plant.wires states all n && not (is_overruled (active_in plant states) (map named all) test n)) (λ j k. may-same k j)

    pub among-same : sure_among plant parts all ≡ choices_among plant states all
    among-same =
        ap (λ (sure : ℕ → Bool). flat_from (λ n i. cond (sure n) (choices_of plant.atoms (shown_in parts) i) []) 0 all) (λ j n. sure-same n j) ∙
        ap (λ (ss : List Local). flat_from (λ n i. cond (is_allowed_at plant states all n) (choices_of plant.atoms ss i) []) 0 all) (shown-whole states)

  pub choices-same : sure_choices plant parts ≡ choices plant states
  choices-same = among-same (plant_interactions plant)
