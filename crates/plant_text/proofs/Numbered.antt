-- The interactions of a plant are those of how it is written, each by its connector's number and its mask.
use Rattle.std.proofs.Common.{◌≡◌, ◌∙◌, refl, sym, ap, ℕ, suc, Bool, true, false, cond, not, List, [], ◌∷◌, ◌++◌, map, length, take}
use Rattle.std.specs.Prelude.{Option, Some, None, option_map, nat_lt}
use Rattle.std.specs.List.{list_any}
use Rattle.std.specs.Option.{option_map_or}
use Rattle.std.proofs.lemmas.Bool.{false≢true}
use Rattle.std.proofs.lemmas.List.{map-append}
use Rattle.std.proofs.lemmas.Option.{none-some}
use Rattle.std.proofs.lemmas.Simd.{map-map}
use Rattle.petri_atom.specs.Name.{is_same_text}
use Rattle.connector_tree.specs.Faults as tree
use Rattle.connector_tree.specs.Masks as mask
use Rattle.connector_tree.specs.Tree.{Tree, leaves}
use Rattle.priority_filter.specs.Decided.{order_fault}
use Rattle.priority_filter.specs.declared.fault.OrderFault.{OrderFault}
use Rattle.plant_model.specs.Choice as choice
use Rattle.plant_model.specs.Plant.{WireDefinition, PlantDefinition}
use Rattle.plant_model.specs.Rules.{first_of, first_fault_in, atom_fault, tree_fault, wire_fault, fault_of_wire, fault_of_count, is_within_limits, early_fault, late_fault, fault_of_order, fault_of}
use Rattle.plant_model.specs.declared.fault.SystemFault.{SystemFault}
use Rattle.plant_model.specs.declared.fault.SystemFault.TheVariants.{Limit, BadAtom, BadConnector, BadWire, Order}
use Rattle.plant_model.specs.declared.limits.TheConstants.{MAX_INTERACTIONS}
use Rattle.plant_model.proofs.NoDeadlock.{order-sound}
use Rattle.connector_tree.specs.Tokens.{tokens_of}
use Rattle.connector_tree.proofs.TokenMeaning as connector
use Rattle.plant_text.specs.Interactions.{interactions_at, interactions_from, interactions_of, trees_of}
use Rattle.plant_text.specs.Text.{wire_text_of, text_of}

-- ---- interactions

-- those of one connector
of_connector : (atoms k : ℕ) (c : Tree) → map choice.named (choice.interactions_of_connector atoms k c) ≡ interactions_at k (tokens_of c)
of_connector atoms k c =
    map-map choice.named (choice.interaction_by atoms k (leaves c)) (mask.interactions_of c) ∙
    ap (map (λ mask. (k, mask))) (sym (connector.interactions_written c))

-- those of connectors that are numbered from k on
of_wires : (atoms k : ℕ) (wires : List WireDefinition) → map choice.named (choice.interactions_from atoms k wires) ≡ interactions_from k (trees_of (map wire_text_of wires))
of_wires atoms k [] = refl
of_wires atoms k (w ∷ ws) =
    map-append choice.named (choice.interactions_of_connector atoms k w.connector) (choice.interactions_from atoms (suc k) ws) ∙
    ap (λ is. is ++ map choice.named (choice.interactions_from atoms (suc k) ws)) (of_connector atoms k w.connector) ∙
    ap (λ is. interactions_at k (tokens_of w.connector) ++ is) (of_wires atoms (suc k) ws)

-- those of a plant
pub interactions_written : (plant : PlantDefinition) → map choice.named (choice.plant_interactions plant) ≡ interactions_of (text_of plant).wires
interactions_written plant = of_wires (length plant.atoms) 0 plant.wires

-- ---- the order

-- a fault of the order
abbrev is_of_order : SystemFault → Bool
is_of_order (Order fault) = true
is_of_order fault = false

abbrev finds_order : Option SystemFault → Bool
finds_order told = option_map_or is_of_order told false

first_of-not : (a b : Option SystemFault) → finds_order a ≡ false → finds_order b ≡ false → finds_order (first_of a b) ≡ false
first_of-not (Some fault) b here later = here
first_of-not None b here later = later

first_found-not : {X : Type 0} (tell : ℕ → X → Option SystemFault) → ((n : ℕ) (x : X) → finds_order (tell n x) ≡ false) → (n : ℕ) (xs : List X) → finds_order (first_fault_in tell n xs) ≡ false
first_found-not tell each n [] = refl
first_found-not tell each n (x ∷ xs) = first_of-not (tell n x) (first_fault_in tell (suc n) xs) (each n x) (first_found-not tell each (suc n) xs)

mapped-not : {F : Type 0} (make : F → SystemFault) → ((fault : F) → is_of_order (make fault) ≡ false) → (o : Option F) → finds_order (option_map make o) ≡ false
mapped-not make each None = refl
mapped-not make each (Some fault) = each fault

unless-not : (b : Bool) (fault : SystemFault) (later : Option SystemFault) → is_of_order fault ≡ false → finds_order later ≡ false → finds_order (cond b (Some fault) later) ≡ false
unless-not true fault later here there = here
unless-not false fault later here there = there

-- the rules about limits, names of atoms and trees find none
early-not : (plant : PlantDefinition) → finds_order (early_fault plant) ≡ false
early-not plant =
    let names = first_found-not (atom_fault plant.atoms) (λ n a. unless-not (list_any (λ b. is_same_text b.name a.name) (take n plant.atoms)) (BadAtom n) None refl refl) 0 plant.atoms in
    let trees = first_found-not tree_fault (λ k w. mapped-not (BadConnector k) (λ fault. refl) (tree.fault_of w.connector)) 0 plant.wires in
    unless-not (not (is_within_limits plant)) Limit (first_of (first_fault_in (atom_fault plant.atoms) 0 plant.atoms) (first_fault_in tree_fault 0 plant.wires)) refl
    (first_of-not (first_fault_in (atom_fault plant.atoms) 0 plant.atoms) (first_fault_in tree_fault 0 plant.wires) names trees)

-- nor do those about wires and about how many interactions there are
late-not : (plant : PlantDefinition) → finds_order (late_fault plant) ≡ false
late-not plant =
    let count = length (choice.plant_interactions plant) in
    first_of-not (first_fault_in (wire_fault plant.atoms plant.wires) 0 plant.wires) (fault_of_count count)
    (first_found-not (wire_fault plant.atoms plant.wires) (λ k w. mapped-not (BadWire k) (λ fault. refl) (fault_of_wire plant.atoms (take k plant.wires) w)) 0 plant.wires)
    (unless-not (nat_lt MAX_INTERACTIONS count) Limit None refl refl)

-- a fault of the order is found by what comes after rules that find none
behind : (a b : Option SystemFault) (fault : OrderFault) → finds_order a ≡ false → first_of a b ≡ Some (Order fault) → b ≡ Some (Order fault)
behind None b fault other told = told
behind (Some first) b fault other told = absurd (false≢true (sym other ∙ ap finds_order told))

-- the fault of the order that is found in a plant is that of its rules over the interactions that are written
pub order_found : (plant : PlantDefinition) (fault : OrderFault) → fault_of plant ≡ Some (Order fault) → order_fault plant.rules (interactions_of (text_of plant).wires) ≡ Some fault
order_found plant fault told =
    let later = behind (early_fault plant) (first_of (late_fault plant) (fault_of_order plant)) fault (early-not plant) told in
    let last = behind (late_fault plant) (fault_of_order plant) fault (late-not plant) later in
    ap (order_fault plant.rules) (sym (interactions_written plant)) ∙
    unmapped (order_fault plant.rules (map choice.named (choice.plant_interactions plant))) last
  where
    unmapped : (o : Option OrderFault) → option_map Order o ≡ Some (Order fault) → o ≡ Some fault
    unmapped None is = absurd (none-some (Order fault) is)
    unmapped (Some other) is = cc

-- where a plant breaks no rule, its rules put an order on the interactions that are written
pub order_sound : (plant : PlantDefinition) → fault_of plant ≡ None → order_fault plant.rules (interactions_of (text_of plant).wires) ≡ None
order_sound plant sound =
    ap (order_fault plant.rules) (sym (interactions_written plant)) ∙ order-sound plant sound
