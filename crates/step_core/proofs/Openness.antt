-- Which interactions are sure, by the possible and the open ones; and which of these stay as they were where parts change.
use Rattle.std.proofs.Common.{◌≡◌, ℕ, ◌≤◌, refl, sym, ◌∙◌, ap, List, [], ◌∷◌, length, map, Contains, Bool, true, false, ◌||◌, ◌&&◌, ◌==◌, not}
use Rattle.std.specs.Prelude.{Option, Some, None, is_none, is_some, slice_get}
use Rattle.std.specs.List.{list_all}
use Rattle.std.specs.Option.{option_map_or}
use Rattle.std.proofs.lemmas.Bool.{and_parts, false≢true}
use Rattle.std.proofs.lemmas.Option.{slice_get_past}
use Rattle.petri_atom.specs.Definition.{AtomDefinition, is_well_formed}
use Rattle.petri_atom.specs.Local.{Local, has}
use Rattle.connector_tree.specs.declared.tree.Port.{Port}
use Rattle.priority_filter.specs.Active.{AskAlike}
use Rattle.priority_filter.specs.Decided.{is_overruled}
use Rattle.priority_filter.specs.declared.seen.At.{At}
use Rattle.priority_filter.proofs.Counting.{alike-counted}
use Rattle.plant_model.specs.Choice.{Interaction, is_offered_port, is_possible, is_possible_at, moves_of, named}
use Rattle.plant_model.specs.Plant.{PlantDefinition}
use Rattle.plant_model.proofs.Membership.{all-in, entry-in, here, later}
use Rattle.plant_model.proofs.OfConnector.{all-from}
use Rattle.step_core.specs.ChoicesIn.{is_kept_at}
use Rattle.step_core.specs.Parts.{is_present, may_be_marked_in, may_count_in, shown_in}
use Rattle.step_core.specs.Sure.{is_open, is_open_at, is_sure_at, may_come}
use Rattle.step_core.proofs.OfParts.{may-by-sets, possible-in}
use Rattle.step_core.proofs.Offering.{offered-told}

-- ---- sure

module _ (plant : PlantDefinition) (formed : list_all is_well_formed plant.atoms ≡ true) (parts : List (Option Local)) (all : List Interaction) where
  abbrev possible : ℕ → Bool
  possible = is_possible_at plant.atoms plant.wires (shown_in parts) all

  -- the rivals of an interaction are those that are possible or open
  abbrev pub rivals_by_sets : ℕ → Bool
  rivals_by_sets k = possible k || is_open_at plant.atoms parts all k

  pub sure-by-sets : (n : ℕ) → is_sure_at plant parts all n ≡ (possible n && not (is_overruled (may_count_in plant parts) (map named all) rivals_by_sets n))
  sure-by-sets n =
      ap (λ b. b && not (is_overruled (may_count_in plant parts) (map named all) (may_come plant.atoms plant.wires parts all) n)) (possible-in plant.atoms formed parts plant.wires all n) ∙
      ap (λ (test : ℕ → Bool). possible n && not (is_overruled (may_count_in plant parts) (map named all) test n)) (λ j k. may-by-sets plant.atoms formed parts plant.wires all k j)

  -- what is kept where rivals are these, and what is seen is right, is sure
  pub kept-sure : (marked : At → Bool) (rivals : ℕ → Bool) → AskAlike plant.rules marked (may_be_marked_in parts) → ((k : ℕ) → rivals k ≡ rivals_by_sets k) → (n : ℕ) → is_kept_at plant marked (shown_in parts) all rivals n ≡ is_sure_at plant parts all n
  kept-sure marked rivals seen same n =
      ap (λ rules. possible n && not (is_overruled rules (map named all) rivals n)) (alike-counted plant.rules marked (may_be_marked_in parts) seen) ∙
      ap (λ (test : ℕ → Bool). possible n && not (is_overruled (may_count_in plant parts) (map named all) test n)) (λ j k. same k j) ∙
      sym (sure-by-sets n)

  -- what is sure is possible
  pub sure-possible : (n : ℕ) → is_sure_at plant parts all n ≡ true → possible n ≡ true
  sure-possible n yes_ =
      (and_parts (possible n) (not (is_overruled (may_count_in plant parts) (map named all) rivals_by_sets n)) (sym (sure-by-sets n) ∙ yes_)).0

-- ---- whole

-- where no part is missing, each atom is present
pub whole-present : (parts : List (Option Local)) → list_all is_some parts ≡ true → (n : ℕ) → is_present parts n ≡ true
whole-present parts whole n = each (slice_get parts n) refl
  where
    each : (o : Option (Option Local)) → slice_get parts n ≡ o → not (option_map_or is_none o false) ≡ true
    each None there = refl
    each (Some (Some s)) there = refl
    each (Some None) there = absurd (false≢true (all-in is_some parts whole None (entry-in parts n None there)))

pub all-some : (states : List Local) → list_all is_some (map Some states) ≡ true
all-some [] = refl
all-some (s ∷ ss) = all-some ss

-- where each atom of its ports is present, an interaction is not open; so where each atom is, nothing is
pub whole-not-open : (atoms : List AtomDefinition) (parts : List (Option Local)) (i : Interaction) → ((p : Port) → Contains i.ports p → is_present parts p.atom ≡ true) → is_open atoms parts i ≡ false
whole-not-open atoms parts i present =
    ap (λ b. not b && list_all (λ p. not (is_present parts p.atom) || is_offered_port atoms (shown_in parts) p) i.ports) (all-from (λ p. is_present parts p.atom) i.ports present)

pub none-open : (atoms : List AtomDefinition) (parts : List (Option Local)) (all : List Interaction) → ((n : ℕ) → is_present parts n ≡ true) → (n : ℕ) → is_open_at atoms parts all n ≡ false
none-open atoms parts all present n = each (slice_get all n)
  where
    each : (o : Option Interaction) → option_map_or (is_open atoms parts) o false ≡ false
    each None = refl
    each (Some i) = whole-not-open atoms parts i (λ p at. present p.atom)

-- past the last interaction none is open
pub open-past : (atoms : List AtomDefinition) (parts : List (Option Local)) (all : List Interaction) (n : ℕ) → length all ≤ n → is_open_at atoms parts all n ≡ false
open-past atoms parts all n past = ap (λ o. option_map_or (is_open atoms parts) o false) (slice_get_past all n past)

-- and none is possible
pub none-possible : (plant : PlantDefinition) (states : List Local) (all : List Interaction) (n : ℕ) → length all ≤ n → is_possible_at plant.atoms plant.wires states all n ≡ false
none-possible plant states all n past = ap (λ o. option_map_or (is_possible plant.atoms plant.wires states) o false) (slice_get_past all n past)

-- ---- untouched

-- two tests that say the same of each element
pub all-alike : {X : Type 0} (f g : X → Bool) (xs : List X) → ((x : X) → Contains xs x → f x ≡ g x) → list_all f xs ≡ list_all g xs
all-alike f g [] same = refl
all-alike f g (x ∷ xs) same =
    ap (λ b. b && list_all f xs) (same x (here x xs)) ∙ ap (λ b. g x && b) (all-alike f g xs (λ y at. same y (later x xs y at)))

-- an interaction of which no atom has come or gone, and each port offers something where it did, is open as before
pub open-stays : (atoms : List AtomDefinition) (before after : List (Option Local)) (i : Interaction)
    → ((p : Port) → Contains i.ports p → is_present after p.atom ≡ is_present before p.atom)
    → ((p : Port) → Contains i.ports p → (length (moves_of atoms (shown_in after) p) == 0) ≡ (length (moves_of atoms (shown_in before) p) == 0))
    → is_open atoms after i ≡ is_open atoms before i
open-stays atoms before after i present told =
    ap (λ b. not b && list_all (λ p. not (is_present after p.atom) || is_offered_port atoms (shown_in after) p) i.ports)
    (all-alike (λ p. is_present after p.atom) (λ p. is_present before p.atom) i.ports present) ∙
    ap (λ b. not (list_all (λ p. is_present before p.atom) i.ports) && b)
    (all-alike (λ p. not (is_present after p.atom) || is_offered_port atoms (shown_in after) p) (λ p. not (is_present before p.atom) || is_offered_port atoms (shown_in before) p) i.ports
    (λ p at. ap (λ b. not b || is_offered_port atoms (shown_in after) p) (present p at) ∙ ap (λ b. not (is_present before p.atom) || b) (offered-same p at)))
  where
    offered-same : (p : Port) → Contains i.ports p → is_offered_port atoms (shown_in after) p ≡ is_offered_port atoms (shown_in before) p
    offered-same p at =
        sym (offered-told atoms (shown_in after) p (length (moves_of atoms (shown_in after) p)) refl) ∙ ap not (told p at) ∙
        offered-told atoms (shown_in before) p (length (moves_of atoms (shown_in before) p)) refl

-- the places of an atom that is not there are not marked
pub unmarked-past : (parts : List (Option Local)) (at : At) → length parts ≤ at.atom → may_be_marked_in parts at ≡ false
unmarked-past parts at past = ap (λ o. option_map_or (λ part. option_map_or (λ (s : Local). has s.marking at.place) part true) o false) (slice_get_past parts at.atom past)
