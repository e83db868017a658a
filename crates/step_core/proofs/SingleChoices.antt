-- Where no leaf of a connector offers more than one transition, each of its interactions that is possible has one choice.
use Rattle.std.proofs.Common.{◌≡◌, ℕ, ◌*◌, ◌%◌, ◌^◌, ◌==◌, ◌≤◌, refl, sym, ◌∙◌, ap, List, [], ◌∷◌, length, map, Contains, arith, Bool, true, false, eqb}
use Rattle.std.specs.Prelude.{Some, None, Option, slice_get, slice_index_or}
use Rattle.std.specs.List.{list_all}
use Rattle.std.specs.Option.{option_map_or}
use Rattle.std.proofs.Math.Nat.{zero-div}
use Rattle.std.proofs.lemmas.Bool.{and_parts, eqb-true, false≢true, ltb-false}
use Rattle.std.proofs.lemmas.List.{length-map}
use Rattle.petri_atom.specs.Definition.{AtomDefinition}
use Rattle.petri_atom.specs.Local.{Local}
use Rattle.connector_tree.specs.Masks.{is_set}
use Rattle.connector_tree.specs.Tree.{leaves}
use Rattle.connector_tree.specs.declared.tree.Port.{Port}
use Rattle.plant_model.specs.Choice.{Interaction, choices_of, combinations, is_offered_port, is_possible, is_possible_at, moves_of, passes_guards}
use Rattle.plant_model.specs.ConnectorRows.{is_of_connector}
use Rattle.plant_model.specs.Fitting.{IsOf}
use Rattle.plant_model.specs.Laws.{IsInteractionOf}
use Rattle.plant_model.specs.Plant.{WireDefinition}
use Rattle.plant_model.specs.System.{interactions_in, plant_of}
use Rattle.plant_model.specs.Ways.{ways_at}
use Rattle.plant_model.specs.declared.system.System.{System}
use Rattle.plant_model.proofs.Combinations.{length-rows}
use Rattle.plant_model.proofs.Membership.{all-in, here, in-entry, later}
use Rattle.plant_model.proofs.NoDeadlock.{some-moves}
use Rattle.step_core.specs.ChoicesIn.{AreAllPossible}
use Rattle.step_core.specs.Judgement.{IsOffers}
use Rattle.step_core.specs.Leaves.{count_of, is_leaf_where, is_many}
use Rattle.step_core.specs.Weights.{is_kept_of}
use Rattle.step_core.specs.declared.leaves.Leaves.{Leaves}
use Rattle.step_core.proofs.Judging.{counted-moves}
use Rattle.step_core.proofs.Weighed.{is-one}

-- where each port has one move, there is one row of them
one-row : (atoms : List AtomDefinition) (states : List Local) (ports : List Port) → ((p : Port) → Contains ports p → length (moves_of atoms states p) ≡ 1) → length (combinations (map (moves_of atoms states) ports)) ≡ 1
one-row atoms states [] each = refl
one-row atoms states (p ∷ ps) each =
    length-rows (combinations (map (moves_of atoms states) ps)) (moves_of atoms states p) ∙
    ap (λ n. n * length (combinations (map (moves_of atoms states) ps))) (each p (here p ps)) ∙
    omega (arith, one-row atoms states ps (λ q at. each q (later p ps q at)))

module _ (s : System) (states : List Local) (sets : List ℕ) (counts : List (List ℕ)) (l : Leaves) (kept : ℕ → Bool) (of_plant : IsOf (plant_of s) states)
    (offering : IsOffers (plant_of s) states sets counts l) (connector : ℕ) (all-possible : AreAllPossible (plant_of s).atoms (plant_of s).wires states (interactions_in s) (is_kept_of (interactions_in s) kept connector))
    (none : slice_index_or l.many connector 0 ≡ 0) where
  -- no leaf of the connector offers more than one
  few-at : (w : WireDefinition) (leaf : ℕ) (p : Port) → slice_get (plant_of s).wires connector ≡ Some w → slice_get (leaves w.connector) leaf ≡ Some p → length (moves_of (plant_of s).atoms states p) ≤ 1
  few-at w leaf p wire at =
      let unset : is_set (slice_index_or l.many connector 0) leaf ≡ false = ap (λ m. is_set m leaf) none ∙ ap (λ n. eqb (n % 2) 1) (zero-div (2 ^ leaf)) in
      let told : is_leaf_where is_many (plant_of s).wires counts connector leaf ≡ is_many (count_of counts p) =
      ap (λ o. option_map_or (λ (v : WireDefinition). option_map_or (λ q. is_many (count_of counts q)) (slice_get (leaves v.connector) leaf) false) o false) wire ∙
      ap (λ o. option_map_or (λ q. is_many (count_of counts q)) o false) at in
      omega (
        arith,
        ltb-false 1 (count_of counts p) (sym told ∙ sym (offering.leaves.many connector leaf) ∙ unset),
        counted-moves (plant_of s).atoms states sets counts of_plant offering.offered offering.counted p,
      )

  module _ (n : ℕ) (i : Interaction) (there : slice_get (interactions_in s) n ≡ Some i) (its : i.connector ≡ connector) (possible : is_possible_at (plant_of s).atoms (plant_of s).wires states (interactions_in s) n ≡ true) where
    offered : list_all (is_offered_port (plant_of s).atoms states) i.ports ≡ true
    offered =
        (and_parts (list_all (is_offered_port (plant_of s).atoms states) i.ports) (passes_guards (plant_of s).atoms (plant_of s).wires states i)
        (sym (ap (λ o. option_map_or (is_possible (plant_of s).atoms (plant_of s).wires states) o false) there) ∙ possible)).0

    one-move : (p : Port) → Contains i.ports p → length (moves_of (plant_of s).atoms states p) ≡ 1
    one-move p at =
        let is : IsInteractionOf (plant_of s) i = is-one s n i there in
        let leaf = in-entry (leaves is.wire.connector) p (is.of_connector p at) in
        omega (
          arith,
          some-moves (plant_of s).atoms states p (all-in (is_offered_port (plant_of s).atoms states) i.ports offered p at),
          few-at is.wire leaf.0 p (ap (slice_get (plant_of s).wires) (sym its) ∙ is.there) leaf.1,
        )

    one-choice : length (choices_of (plant_of s).atoms states i) ≡ 1
    one-choice =
        length-map (combinations (map (moves_of (plant_of s).atoms states) i.ports)) (λ moves. record { connector = i.connector; mask = i.mask; moves = moves }) ∙
        one-row (plant_of s).atoms states i.ports one-move

  -- each kept interaction of the connector has one choice
  pub one-way : (n : ℕ) → is_kept_of (interactions_in s) kept connector n ≡ true → ways_at (plant_of s).atoms states (interactions_in s) n ≡ 1
  one-way n both =
      let parts = and_parts (kept n) (is_of_connector (interactions_in s) connector n) both in
      each (slice_get (interactions_in s) n) refl parts.1 (all-possible n both)
    where
      each : (o : Option Interaction) → slice_get (interactions_in s) n ≡ o → is_of_connector (interactions_in s) connector n ≡ true → is_possible_at (plant_of s).atoms (plant_of s).wires states (interactions_in s) n ≡ true
          → ways_at (plant_of s).atoms states (interactions_in s) n ≡ 1
      each None past of possible = absurd (false≢true (sym (ap (λ o. option_map_or (λ i. i.connector == connector) o false) past) ∙ of))
      each (Some i) there of possible =
          ap (λ o. option_map_or (λ j. length (choices_of (plant_of s).atoms states j)) o 0) there ∙
          one-choice n i there (eqb-true i.connector connector (sym (ap (λ o. option_map_or (λ j. j.connector == connector) o false) there) ∙ of)) possible
