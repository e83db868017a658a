-- The rules of a plant that breaks no rule of plants have sides and conditions that are the plant's.
use Rattle.std.proofs.Common.{◌≡◌, ◌∙◌, sym, ap, subst, ℕ, ◌+◌, ◌^◌, ◌<◌, ◌≤◌, Bool, true, false, ◌&&◌, List, [], length, map, get_or, Contains, Option, Some, None, option_map, slice_get, nat_lt, ◌==◌, lt-ltb, eq-eqb, pow_mono, arith}
use Rattle.std.specs.List.{list_any, range_with_len}
use Rattle.std.specs.Option.{option_map_or}
use Rattle.std.proofs.lemmas.Bool.{and_from}
use Rattle.std.proofs.lemmas.List.{get_or-map, get_or_default, length-map}
use Rattle.std.proofs.lemmas.List.Elements.{Contains-get_or}
use Rattle.std.proofs.lemmas.List.Folds.{list_any_at}
use Rattle.std.proofs.lemmas.List.FromFn.{get_or-range_with_len, length-range_with_len}
use Rattle.std.proofs.lemmas.Option.{slice_get-map, slice_get_within}
use Rattle.connector_tree.specs.Masks.{chosen, interactions_of}
use Rattle.connector_tree.specs.PortSets.{is_among, port_sets}
use Rattle.connector_tree.specs.TokenMeaning.{interactions_in}
use Rattle.connector_tree.specs.Tree.{Tree, leaves}
use Rattle.connector_tree.specs.declared.tree.TheConstants.{MAX_LEAVES}
use Rattle.connector_tree.proofs.TokenMeaning.{interactions_written}
use Rattle.priority_filter.specs.Order.{IsKnown, IsKnownSide, rule_at}
use Rattle.priority_filter.specs.Rule.{IsOn}
use Rattle.priority_filter.specs.declared.rule.Rule.{Rule}
use Rattle.priority_filter.specs.declared.rule.Rule.TheVariants.{Under, UnderAt, Maximal}
use Rattle.priority_filter.specs.declared.rule.Side.{Side}
use Rattle.priority_filter.specs.declared.rule.Side.TheVariants.{Whole, One}
use Rattle.priority_filter.proofs.DecidedOrder.{decides_no_fault}
use Rattle.plant_model.specs.Choice.{Interaction, named, plant_interactions}
use Rattle.plant_model.specs.Laws.{IsInteractionOf}
use Rattle.plant_model.specs.Plant.{PlantDefinition}
use Rattle.plant_model.specs.Rules.{fault_of, is_known_condition, is_known_place}
use Rattle.plant_model.proofs.NoDeadlock.{order-sound}
use Rattle.plant_model.proofs.Membership.{all-in, from-filter}
use Rattle.plant_model.proofs.OfInteractions.{interaction-of, sound-tree}
use Rattle.plant_text.specs.Interactions.{has_interaction}
use Rattle.plant_text.specs.Text.{WireText, wire_text_of, text_of}
use Rattle.read_back.specs.Rules.{is_side_of, is_rule_of}
use Rattle.read_back.proofs.OnePart.{conditions_known}

-- a number of a range is below its end
in_range : (n k : ℕ) → Contains (range_with_len 0 n) k → k < n
in_range n k at =
    let within : at.0 < n = omega (arith, at.1, length-range_with_len 0 n) in
    let is : get_or (range_with_len 0 n) at.0 k ≡ 0 + at.0 = get_or-range_with_len 0 n at.0 k within in
    omega (arith, within, is, at.2)

-- an interaction of a tree of few leaves has few bits
few_bits : (tree : Tree) (mask : ℕ) → length (leaves tree) ≤ MAX_LEAVES → Contains (interactions_of tree) mask → mask < 2 ^ 16
few_bits tree mask few at =
    let among = from-filter (λ m. is_among (port_sets tree) (chosen m 0 (leaves tree))) (range_with_len 0 (2 ^ length (leaves tree))) mask at in
    let below : mask < 2 ^ length (leaves tree) = in_range (2 ^ length (leaves tree)) mask among.0 in
    let least : length (leaves tree) ≤ 16 = omega (arith, few) in
    let most : 2 ^ length (leaves tree) ≤ 2 ^ 16 = pow_mono least in
    omega (arith, below, most)

module _ (plant : PlantDefinition) (valid : fault_of plant ≡ None) where
  -- a side that an interaction of the plant is on
  on_side : (i : Interaction) → IsInteractionOf plant i → (side : Side) → IsOn side (named i) → is_side_of plant side ≡ true
  on_side i whole (Whole connector) on =
      let within : i.connector < length plant.wires = slice_get_within plant.wires i.connector whole.wire whole.there in
      lt-ltb connector (length plant.wires) (subst (λ (k : ℕ). k < length plant.wires) on within)
  on_side i whole (One connector mask) on =
      let tree : Tree = whole.wire.connector in
      let there : slice_get plant.wires connector ≡ Some whole.wire = ap (slice_get plant.wires) (sym on.0) ∙ whole.there in
      let few = (sound-tree plant valid connector whole.wire there).few_leaves in
      let small : i.mask < 2 ^ 16 = few_bits tree i.mask few whole.mask in
      let masks : List ℕ = interactions_of tree in
      let place = whole.mask in
      let found : list_any (λ m. m == mask) masks ≡ true = list_any_at (λ m. m == mask) masks place.0 i.mask place.1 (eq-eqb (get_or masks place.0 i.mask) mask (place.2 ∙ on.1)) in
      let test : WireText → Bool = λ w. list_any (λ m. m == mask) (interactions_in w.tree) in
      let held : has_interaction (text_of plant).wires connector mask ≡ true =
      ap (λ (o : Option WireText). option_map_or test o false) (slice_get-map wire_text_of plant.wires connector ∙ ap (option_map wire_text_of) there)
      ∙ ap (list_any (λ m. m == mask)) (interactions_written tree) ∙ found in
      and_from (nat_lt mask (2 ^ 16)) (has_interaction (text_of plant).wires connector mask) (lt-ltb mask (2 ^ 16) (subst (λ (m : ℕ). m < 2 ^ 16) on.1 small)) held

  abbrev interactions : List (ℕ × ℕ)
  interactions = map named (plant_interactions plant)

  -- a side that is known
  known_side : (side : Side) → IsKnownSide interactions side → is_side_of plant side ≡ true
  known_side side known =
      let none : Interaction = record { connector = 0; mask = 0; ports = [] } in
      let all : List Interaction = plant_interactions plant in
      let within : known.0 < length all = omega (arith, known.1, length-map all named) in
      let i : Interaction = get_or all known.0 none in
      on_side i (interaction-of plant valid i (Contains-get_or all known.0 none within)) side
      (subst (IsOn side) (get_or-map named all known.0 none (0, 0) within) known.2)

  -- and a rule
  known_rule : (rule : Rule) → IsKnown interactions rule → is_known_condition plant.atoms rule ≡ true → is_rule_of plant rule ≡ true
  known_rule (Under left right) known there = and_from (is_side_of plant left) (is_side_of plant right) (known_side left known.0) (known_side right known.1)
  known_rule (UnderAt left right at) known there =
      and_from (is_side_of plant left && is_side_of plant right) (is_known_place plant.atoms at)
      (and_from (is_side_of plant left) (is_side_of plant right) (known_side left known.0) (known_side right known.1)) there
  known_rule (Maximal connector) known there = known_side (Whole connector) known

  pub own_rule : (rule : Rule) → Contains plant.rules rule → is_rule_of plant rule ≡ true
  own_rule rule at =
      let all = ((decides_no_fault plant.rules interactions).0 (order-sound plant valid)).0 in
      let same : rule_at plant.rules at.0 ≡ rule = get_or_default plant.rules at.0 (Under (Whole 0) (Whole 0)) rule at.1 ∙ at.2 in
      known_rule rule (subst (IsKnown interactions) same (all at.0 at.1)) (all-in (is_known_condition plant.atoms) plant.rules (conditions_known plant valid) rule at)
