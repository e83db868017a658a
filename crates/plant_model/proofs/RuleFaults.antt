-- Which fault is answered for a plant that breaks a rule.
use Rattle.std.proofs.Common.{◌≡◌, ◌≢◌, subst, ℕ, suc, refl, sym, ◌∙◌, ap, map, List, [], ◌∷◌, take, length, Bool, true, false, cond, not}
use Rattle.std.specs.Prelude.{Option, Some, None, option_map, Result, Ok, Err, IfErr}
use Rattle.std.specs.Result.{IsErrAnd}
use Rattle.std.specs.List.{list_any}
use Rattle.std.specs.Option.{option_map_or}
use Rattle.std.proofs.lemmas.Bool.{false≢true}
use Rattle.petri_atom.specs.Definition.{AtomDefinition}
use Rattle.petri_atom.specs.Name.{is_same_text}
use Rattle.connector_tree.specs.Faults as tree
use Rattle.priority_filter.specs.Decided.{order_fault}
use Rattle.priority_filter.specs.declared.fault.OrderFault.{OrderFault}
use Rattle.priority_filter.specs.declared.fault.OrderFault.TheVariants as order
use Rattle.plant_model.specs.Plant.{WireDefinition, PlantDefinition}
use Rattle.plant_model.specs.Rules.{first_of, first_fault_in, atom_fault, tree_fault, is_within_limits, fault_of_wire, wire_fault, fault_of_wires, fault_of_count, early_fault, first_fault, fault_of_order, fault_of, IsFaultOf}
use Rattle.plant_model.specs.Choice.{named, plant_interactions}
use Rattle.plant_model.specs.OrderFaults.{system_fault_of_order}
use Rattle.plant_model.specs.declared.fault.SystemFault.{SystemFault}
use Rattle.plant_model.specs.declared.fault.SystemFault.TheVariants.{Limit, BadAtom, BadConnector, BadWire, Order, Memory}

-- a fault that the rules can tell: any but want of memory
abbrev is_of_rules : SystemFault → Bool
is_of_rules Memory = false
is_of_rules fault = true

abbrev tells_rules : Option SystemFault → Bool
tells_rules o = option_map_or is_of_rules o true

first_of-rules : (a b : Option SystemFault) → tells_rules a ≡ true → tells_rules b ≡ true → tells_rules (first_of a b) ≡ true
first_of-rules (Some fault) b here later = here
first_of-rules None b here later = later

first_told-rules : {X : Type 0} (tell : ℕ → X → Option SystemFault) → ((n : ℕ) (x : X) → tells_rules (tell n x) ≡ true) → (n : ℕ) (xs : List X) → tells_rules (first_fault_in tell n xs) ≡ true
first_told-rules tell each n [] = refl
first_told-rules tell each n (x ∷ xs) =
    first_of-rules (tell n x) (first_fault_in tell (suc n) xs) (each n x) (first_told-rules tell each (suc n) xs)

atom_fault-rules : (atoms : List AtomDefinition) (n : ℕ) (a : AtomDefinition) → tells_rules (atom_fault atoms n a) ≡ true
atom_fault-rules atoms n a =
    elim (list_any (λ b. is_same_text b.name a.name) (take n atoms)) as (λ b. tells_rules (cond b (Some (BadAtom n)) None) ≡ true) [ true ↦ refl | false ↦ refl ]

-- where faults of a part are made faults of the rules, they are such
made-rules : {X : Type 0} (made : X → SystemFault) → ((fault : X) → is_of_rules (made fault) ≡ true) → (o : Option X) → tells_rules (option_map made o) ≡ true
made-rules made rules None = refl
made-rules made rules (Some fault) = rules fault

tree_fault-rules : (k : ℕ) (w : WireDefinition) → tells_rules (tree_fault k w) ≡ true
tree_fault-rules k w = made-rules (BadConnector k) (λ fault. refl) (tree.fault_of w.connector)

early_fault-rules : (plant : PlantDefinition) → tells_rules (early_fault plant) ≡ true
early_fault-rules plant =
    elim (not (is_within_limits plant)) as (λ b. tells_rules (cond b (Some Limit) (first_of (first_fault_in (atom_fault plant.atoms) 0 plant.atoms) (first_fault_in tree_fault 0 plant.wires))) ≡ true) [
      | true ↦ refl
      | false ↦ first_of-rules (first_fault_in (atom_fault plant.atoms) 0 plant.atoms) (first_fault_in tree_fault 0 plant.wires) (first_told-rules (atom_fault plant.atoms) (atom_fault-rules plant.atoms) 0 plant.atoms) (first_told-rules tree_fault tree_fault-rules 0 plant.wires)
    ]

wire_fault-rules : (atoms : List AtomDefinition) (wires : List WireDefinition) (k : ℕ) (w : WireDefinition) → tells_rules (wire_fault atoms wires k w) ≡ true
wire_fault-rules atoms wires k w = made-rules (BadWire k) (λ fault. refl) (fault_of_wire atoms (take k wires) w)

first_fault-rules : (plant : PlantDefinition) → tells_rules (first_fault plant) ≡ true
first_fault-rules plant =
    first_of-rules (early_fault plant) (fault_of_wires plant) (early_fault-rules plant)
    (first_told-rules (wire_fault plant.atoms plant.wires) (wire_fault-rules plant.atoms plant.wires) 0 plant.wires)

-- what the first two of some tell is what all tell
led : (early wires count order : Option SystemFault) (fault : SystemFault) → first_of early wires ≡ Some fault → first_of early (first_of (first_of wires count) order) ≡ Some fault
led (Some e) wires count order fault told = told
led None (Some w) count order fault told = told
led None None count order fault told = absurd (cc)

-- what the rules tell that are judged without memory is the fault of the plant
pub first-told : (fault : SystemFault) (plant : PlantDefinition) → first_fault plant ≡ Some fault → IsFaultOf fault plant
first-told fault plant told = each fault told
  where
    all : (f : SystemFault) → first_fault plant ≡ Some f → fault_of plant ≡ Some f
    all f told = led (early_fault plant) (fault_of_wires plant) (fault_of_count (length (plant_interactions plant))) (fault_of_order plant) f told

    each : (f : SystemFault) → first_fault plant ≡ Some f → IsFaultOf f plant
    each Limit told = all Limit told
    each (BadAtom n) told = all (BadAtom n) told
    each (BadConnector k f) told = all (BadConnector k f) told
    each (BadWire k f) told = all (BadWire k f) told
    each (Order f) told = all (Order f) told
    each Memory told = absurd (false≢true (sym (ap tells_rules told) ∙ first_fault-rules plant))

-- where none of some tells a fault, all tell none
none-of-all : (early wires count order : Option SystemFault) → first_of early wires ≡ None → count ≡ None → order ≡ None → first_of early (first_of (first_of wires count) order) ≡ None
none-of-all (Some e) wires count order none uncounted unordered = none
none-of-all None (Some w) count order none uncounted unordered = none
none-of-all None None count order none uncounted unordered = ap (λ o. first_of o order) uncounted ∙ unordered

-- a plant has no fault where no rule tells one
pub none-told : (plant : PlantDefinition) → first_fault plant ≡ None → fault_of_count (length (plant_interactions plant)) ≡ None → order_fault plant.rules (map named (plant_interactions plant)) ≡ None → fault_of plant ≡ None
none-told plant none uncounted unordered =
    none-of-all (early_fault plant) (fault_of_wires plant) (fault_of_count (length (plant_interactions plant))) (fault_of_order plant) none uncounted (ap (option_map Order) unordered)

-- ---- what a plant is told to be at fault for that keeps the rules which are judged without memory

-- want of memory
pub memory-told : {A : Type 0} (plant : PlantDefinition) (result : Result A SystemFault) → first_fault plant ≡ None → IsErrAnd result (λ told. told ≡ Memory) →
    IfErr result (λ told. IsFaultOf told plant)
memory-told plant (Ok x) none left = tt
memory-told plant (Err told) none left = subst (λ f. IsFaultOf f plant) (sym left) none

-- the fault of the order, where the others tell none
of-order : (early wires count order : Option SystemFault) (fault : SystemFault) → first_of early wires ≡ None → count ≡ None → order ≡ Some fault →
    first_of early (first_of (first_of wires count) order) ≡ Some fault
of-order (Some e) wires count order fault none uncounted told = absurd (cc)
of-order None (Some w) count order fault none uncounted told = absurd (cc)
of-order None None count order fault none uncounted told = ap (λ o. first_of o order) uncounted ∙ told

pub order-told : {A : Type 0} (plant : PlantDefinition) (fault : OrderFault) (result : Result A SystemFault) → first_fault plant ≡ None →
    fault_of_count (length (plant_interactions plant)) ≡ None →
    (fault ≢ order.Memory → order_fault plant.rules (map named (plant_interactions plant)) ≡ Some fault) →
    IsErrAnd result (λ told. told ≡ system_fault_of_order fault) → IfErr result (λ told. IsFaultOf told plant)
order-told plant fault (Ok x) none uncounted told left = tt
order-told plant fault (Err f) none uncounted told left = subst (λ g. IsFaultOf g plant) (sym left) (each fault told)
  where
    all : (o : OrderFault) → order_fault plant.rules (map named (plant_interactions plant)) ≡ Some o → fault_of plant ≡ Some (Order o)
    all o is = of-order (early_fault plant) (fault_of_wires plant) (fault_of_count (length (plant_interactions plant))) (fault_of_order plant) (Order o) none uncounted (ap (option_map Order) is)

    each : (o : OrderFault) → (o ≢ order.Memory → order_fault plant.rules (map named (plant_interactions plant)) ≡ Some o) → IsFaultOf (system_fault_of_order o) plant
    each (order.Cycle n) is = all (order.Cycle n) (is (λ same. absurd (cc)))
    each (order.UnknownName n) is = all (order.UnknownName n) (is (λ same. absurd (cc)))
    each order.Memory is = none
