-- What each allowed choice is.
use Rattle.std.proofs.Common.{◌≡◌, ℕ, ◌+◌, ◌==◌, ◌<◌, refl, sym, ◌∙◌, ap, subst, List, [], length, map, Contains, arith, Bool, true, false, cond, not}
use Rattle.std.specs.Prelude.{Some, None, slice_get}
use Rattle.std.specs.List.Sorted.{IsStrictlyIncreasing}
use Rattle.std.specs.Option.{option_map_or}
use Rattle.std.proofs.lemmas.Bool.{and_parts, and_from, eqb-true, false_from_ne_true, false≢true}
use Rattle.std.proofs.lemmas.Option.{slice_get_within}
use Rattle.petri_atom.specs.Local.{Local}
use Rattle.priority_filter.specs.Decided.{is_overruled}
use Rattle.priority_filter.specs.Order.{IsBelow}
use Rattle.priority_filter.specs.declared.rule.Rule.{Rule}
use Rattle.priority_filter.proofs.DecidedOrder.{decides_overruled}
use Rattle.plant_model.specs.Choice.{ChoiceDefinition, Interaction, IsAllowed, active_in, choices_at, choices_of, combinations, is_allowed_at, is_possible, is_possible_at, moves_of, named, plant_interactions}
use Rattle.plant_model.specs.Laws.{IsChoiceOf, IsInRange, IsOnTop, IsTaking, are_moves_at}
use Rattle.plant_model.specs.Plant.{PlantDefinition}
use Rattle.plant_model.specs.Rules.{fault_of}
use Rattle.plant_model.specs.declared.choice.Move.{Move}
use Rattle.plant_model.proofs.Membership.{entry-in, from-flat_from, from-map, to-flat_from, to-map}
use Rattle.plant_model.proofs.OfInteractions.{interaction-of, known-atom}
use Rattle.plant_model.proofs.OfPorts.{as-many-moves, atoms-by-place, port-of-move, row-of-ports, row-to-ports, transition-within}

-- above one that is not overruled, none that is possible is
pub none-above : (rules : List Rule) (interactions : List (ℕ × ℕ)) (rivals : ℕ → Bool) (n : ℕ) → not (is_overruled rules interactions rivals n) ≡ true
    → (above : ℕ) → IsBelow rules interactions n above → rivals above ≡ false
none-above rules interactions rivals n top above below = false_from_ne_true (rivals above) (λ can.
    let over = (decides_overruled rules interactions rivals n).1 (above, can, below) in
    false≢true (sym (ap not over) ∙ top))

module _ (plant : PlantDefinition) (states : List Local) where
  abbrev all : List Interaction
  all = plant_interactions plant

  -- a choice of an interaction
  abbrev pub choice_by : Interaction → List Move → ChoiceDefinition
  choice_by i moves = record { connector = i.connector; mask = i.mask; moves = moves }

  module _ (c : ChoiceDefinition) where
    pub of-interaction : (n : ℕ) (i : Interaction) → slice_get all n ≡ Some i → Contains (choices_of plant.atoms states i) c → IsTaking plant states n c
    of-interaction n i there at =
        let made = from-map (choice_by i) (combinations (map (moves_of plant.atoms states) i.ports)) c at in
        record {
          interaction = i;
          there = there;
          connector = ap (λ (d : ChoiceDefinition). d.connector) (sym made.2);
          mask = ap (λ (d : ChoiceDefinition). d.mask) (sym made.2);
          moves = subst (λ ms. are_moves_at plant.atoms states i.ports ms ≡ true) (ap (λ (d : ChoiceDefinition). d.moves) made.2) (row-of-ports plant.atoms states i.ports made.0 made.1);
        }

    -- an allowed choice takes up an interaction that is allowed
    pub taking-allowed : IsAllowed plant states c → (n : ℕ) × (IsTaking plant states n c) × (is_allowed_at plant states all n ≡ true)
    taking-allowed allowed =
        let found = from-flat_from (choices_at plant states all) 0 all c allowed in
        let e : 0 + found.0 ≡ found.0 = omega arith in
        let given : Contains (choices_at plant states all found.0 found.1) c = subst (λ n. Contains (choices_at plant states all n found.1) c) e found.3 in
        let parts = each found.0 found.1 (is_allowed_at plant states all found.0) refl given in
        (found.0, of-interaction found.0 found.1 found.2 parts.1, parts.0)
      where
        each : (n : ℕ) (i : Interaction) (b : Bool) → is_allowed_at plant states all n ≡ b → Contains (cond b (choices_of plant.atoms states i) []) c → (is_allowed_at plant states all n ≡ true) × Contains (choices_of plant.atoms states i) c
        each n i true told at = (told, at)
        each n i false told at = absurd (omega (arith, at.1))

    pub taking : IsAllowed plant states c → (n : ℕ) × IsTaking plant states n c
    taking allowed = let parts = taking-allowed allowed in (parts.0, parts.1)

    -- it is a choice in the words of the model
    pub choice-of : IsAllowed plant states c → IsChoiceOf plant states c
    choice-of allowed =
        let parts = taking-allowed allowed in
        let n : ℕ = parts.0 in
        let takes = parts.1 in
        let passes = and_parts (is_possible_at plant.atoms plant.wires states all n) (not (is_overruled (active_in plant states) (map named all) (is_possible_at plant.atoms plant.wires states all) n)) parts.2 in
        record {
          number = n;
          takes = takes;
          possible = sym (ap (λ o. option_map_or (is_possible plant.atoms plant.wires states) o false) takes.there) ∙ passes.0;
          on_top = on-top n passes.1;
        }
      where
        on-top : (n : ℕ) → not (is_overruled (active_in plant states) (map named all) (is_possible_at plant.atoms plant.wires states all) n) ≡ true → IsOnTop plant states n
        on-top n top above below = none-above (active_in plant states) (map named all) (is_possible_at plant.atoms plant.wires states all) n top above below

    -- and what is such a choice is allowed
    pub allowed-of : IsChoiceOf plant states c → IsAllowed plant states c
    allowed-of chosen =
        let takes = chosen.takes in
        let n : ℕ = chosen.number in
        let i : Interaction = takes.interaction in
        let made = to-map (choice_by i) (combinations (map (moves_of plant.atoms states) i.ports)) c.moves (row-to-ports plant.atoms states i.ports c.moves takes.moves) in
        let same : choice_by i c.moves ≡ c = ap (λ k. record { connector = k; mask = i.mask; moves = c.moves }) (sym takes.connector) ∙ ap (λ m. record { connector = c.connector; mask = m; moves = c.moves }) (sym takes.mask) in
        let at : Contains (choices_of plant.atoms states i) c = subst (Contains (choices_of plant.atoms states i)) same made in
        let can : is_possible_at plant.atoms plant.wires states all n ≡ true = ap (λ o. option_map_or (is_possible plant.atoms plant.wires states) o false) takes.there ∙ chosen.possible in
        let allowed : is_allowed_at plant states all n ≡ true = and_from _ _ can (ap not (not-over n chosen.on_top)) in
        let given : Contains (choices_at plant states all n i) c = subst (λ b. Contains (cond b (choices_of plant.atoms states i) []) c) (sym allowed) at in
        let e : n ≡ 0 + n = omega arith in
        to-flat_from (choices_at plant states all) 0 all n i c takes.there (subst (λ k. Contains (choices_at plant states all k i) c) e given)
      where
        not-over : (n : ℕ) → IsOnTop plant states n → is_overruled (active_in plant states) (map named all) (is_possible_at plant.atoms plant.wires states all) n ≡ false
        not-over n top = false_from_ne_true _ (λ over.
            let above = (decides_overruled (active_in plant states) (map named all) (is_possible_at plant.atoms plant.wires states all) n).0 over in
            false≢true (sym (top above.0 above.2) ∙ above.1))

    -- an allowed choice of a plant that breaks no rule is within the plant
    pub in-range : fault_of plant ≡ None → IsAllowed plant states c → IsInRange plant c
    in-range valid allowed =
        let chosen = taking allowed in
        let takes = chosen.1 in
        let i : Interaction = takes.interaction in
        let whole = interaction-of plant valid i (entry-in all chosen.0 i takes.there) in
        let many = as-many-moves plant.atoms states i.ports c.moves takes.moves in
        let own = atoms-by-place plant.atoms states i.ports c.moves takes.moves in
        record {
          connector = subst (λ n. n < length plant.wires) (sym takes.connector) (slice_get_within plant.wires i.connector whole.wire whole.there);
          some = omega (arith, whole.some, many);
          few = omega (arith, whole.few, many);
          rising = subst IsStrictlyIncreasing (sym own) whole.rising;
          of_plant = λ m at.
              let found = port-of-move plant.atoms states i.ports c.moves takes.moves m at in
              let same = eqb-true m.atom found.0.atom (and_parts (m.atom == found.0.atom) _ found.2).0 in
              subst (λ n. n < length plant.atoms) (sym same) (known-atom plant.atoms found.0 (whole.known found.0 found.1));
          of_atom = λ m a at its_atom.
              let found = port-of-move plant.atoms states i.ports c.moves takes.moves m at in
              let same = eqb-true m.atom found.0.atom (and_parts (m.atom == found.0.atom) _ found.2).0 in
              transition-within plant.atoms states found.0 m found.2 a (ap (slice_get plant.atoms) (sym same) ∙ its_atom);
        }
