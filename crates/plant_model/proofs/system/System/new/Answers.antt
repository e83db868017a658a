use Rattle.std.proofs.Common.{◌≡◌, ◌≢◌, ◌≤◌, ◌<◌, ◌∙◌, ap, sym, ℕ, refl, subst, arith, List, map, length, Vec, Global}
use Rattle.std.specs.Prelude.{Option, Some, None, slice_get}
use Rattle.std.proofs.lemmas.List.{length-map}
use Rattle.petri_atom.specs.Atom.{definition_of}
use Rattle.connector_tree.specs.Tree.{leaves}
use Rattle.connector_tree.specs.declared.tree.TheConstants.{MAX_LEAVES}
use Rattle.priority_filter.specs.Decided.{order_fault}
use Rattle.plant_model.specs.Choice.{interactions_from, named, plant_interactions}
use Rattle.plant_model.specs.Interaction.{interaction_of}
use Rattle.plant_model.specs.BoundExpressions.{AreGuarding, AreDelivering}
use Rattle.plant_model.specs.Wire.{wire_of}
use Rattle.plant_model.specs.Made.{plant_by}
use Rattle.plant_model.specs.Rules.{early_fault, first_fault, fault_of, fault_of_count, fault_of_wires}
use Rattle.plant_model.specs.ConnectorRows.{AreByConnector, AreConnectorRows}
use Rattle.plant_model.specs.Plant.{WireDefinition}
use Rattle.plant_model.specs.Choice as choice
use Rattle.plant_model.specs.Ranks.{AreRanges, AreRanks}
use Rattle.plant_model.specs.Reach.{IsReach}
use Rattle.plant_model.specs.Usual.{AreUsual}
use Rattle.petri_atom.specs.declared.atom.Atom.{Atom}
use Rattle.priority_filter.specs.declared.fault.OrderFault.TheVariants as order
use Rattle.priority_filter.specs.declared.rule.Rule.{Rule}
use Rattle.plant_model.specs.declared.bound_expressions.BoundExpressions.{BoundExpressions}
use Rattle.plant_model.specs.declared.connector_rows.ConnectorRows.{ConnectorRows}
use Rattle.plant_model.specs.declared.fault.SystemFault.{SystemFault}
use Rattle.plant_model.specs.declared.interaction.Interaction.{Interaction}
use Rattle.plant_model.specs.declared.limits.TheConstants.{MAX_INTERACTIONS, MAX_WIRES}
use Rattle.plant_model.specs.declared.usual.Usual.{Usual}
use Rattle.plant_model.specs.declared.wire.Wire.{Wire}
use Rattle.plant_model.proofs.ByConnector.{by-connector}
use Rattle.plant_model.proofs.OfInteractions.{count-kept}
use Rattle.plant_model.proofs.Ranking.{known-from, ranges-from}
use Rattle.plant_model.proofs.RulesKept.{few_atoms, few_wires}
use Rattle.plant_model.proofs.RuleFaults.{first-told, none-told, memory-told, order-told}
use Rattle.plant_model.proofs.Putting.{as-many-lists, lent-lists, of-wires}
use Rattle.plant_model.proofs.TreeRules.{early_trees, few_leaves, first_none}
use Rattle.plant_model.proofs.system.System.new.Goals as goal

-- where the first fault that is told is none, of lists as they are lent, the plant of these lists breaks no rule that is judged without memory
no_fault : (atoms lent : List Atom) (wires lent_wires : List Wire) (rules : List Rule) (told : Option SystemFault) → lent ≡ atoms → lent_wires ≡ wires →
    told ≡ first_fault (plant_by lent lent_wires rules) → told ≡ None → first_fault (plant_by atoms wires rules) ≡ None
no_fault atoms lent wires lent_wires rules told same same_wires is none =
    ap (λ xs. first_fault (plant_by xs wires rules)) (sym same) ∙ ap (λ ws. first_fault (plant_by lent ws rules)) (sym same_wires) ∙ sym is ∙ none

-- the interactions of the wires, as they are lent, are those of the plant
listed-all : (atoms : List Atom) (wires lent : List Wire) (rules : List Rule) (count : ℕ) (all : List Interaction) → count ≡ length atoms → lent ≡ wires
    → map interaction_of all ≡ interactions_from count 0 (map wire_of lent) → map interaction_of all ≡ plant_interactions (plant_by atoms wires rules)
listed-all atoms wires lent rules count all many same made =
    made ∙ ap (λ k. interactions_from k 0 (map wire_of lent)) (many ∙ sym (length-map atoms definition_of)) ∙ ap (λ ws. interactions_from (length (map definition_of atoms)) 0 (map wire_of ws)) same

-- the rows of connectors that were made of lists as they are lent are those of the lists
kept-rows : (wires lent : List Wire) (bound lent_bound : List BoundExpressions) (all lent_all : List Interaction) (rows : List ConnectorRows) → lent ≡ wires → lent_bound ≡ bound → lent_all ≡ all
    → AreConnectorRows (map wire_of lent) lent_bound (map interaction_of lent_all) rows → AreConnectorRows (map wire_of wires) bound (map interaction_of all) rows
kept-rows wires lent bound lent_bound all lent_all rows same same_bound same_all are =
    subst (λ ws. AreConnectorRows (map wire_of ws) bound (map interaction_of all) rows) same
    (subst (λ bs. AreConnectorRows (map wire_of lent) bs (map interaction_of all) rows) same_bound
    (subst (λ is. AreConnectorRows (map wire_of lent) lent_bound (map interaction_of is) rows) same_all are))

-- where no rule is broken that is judged without memory, the wires, as they are lent, are few, and each has few leaves
module _ (atoms : List Atom) (wires lent : List Wire) (rules : List Rule) (same : lent ≡ wires) (none : first_fault (plant_by atoms wires rules) ≡ None) where
  early : early_fault (plant_by atoms wires rules) ≡ None
  early = first_none (early_fault (plant_by atoms wires rules)) (fault_of_wires (plant_by atoms wires rules)) none

  lent_few : length lent ≤ MAX_WIRES
  lent_few = omega (arith, ap length same, few_wires (plant_by atoms wires rules) early, length-map wires wire_of)

  lent_leaves : (n : ℕ) (w : WireDefinition) → slice_get (map wire_of lent) n ≡ Some w → length (leaves w.connector) ≤ MAX_LEAVES
  lent_leaves n w there = few_leaves (map wire_of wires) (early_trees (plant_by atoms wires rules) early) n w (ap (λ ws. slice_get (map wire_of ws) n) (sym same) ∙ there)

  kept_order : (all lent_all : List Interaction) → lent_all ≡ all → map interaction_of all ≡ plant_interactions (plant_by atoms wires rules) → AreByConnector (map interaction_of lent_all)
  kept_order all lent_all same_all listed =
      subst AreByConnector (sym listed ∙ sym (ap (map interaction_of) same_all)) (by-connector (plant_by atoms wires rules) (early_trees (plant_by atoms wires rules) early))

pub returns-in-Some-clause-fault : goal.returns-in-Some-clause-fault
returns-in-Some-clause-fault c =
    let atoms = c.args.atoms.items in
    let wires = c.args.wires.items in
    first-told c.in-Some.fault (plant_by atoms wires c.args.rules.now)
    (ap (λ xs. first_fault (plant_by xs wires c.args.rules.now)) (sym c.deref.ensures.value) ∙ ap (λ ws. first_fault (plant_by c.deref.result.now ws c.args.rules.now)) (sym c.deref-2.ensures.value) ∙ sym c.first_fault.ensures ∙ c.in-Some.is)

pub returns-in_err-ports-clause-fault : goal.returns-in_err-ports-clause-fault
returns-in_err-ports-clause-fault c =
    memory-told (plant_by c.args.atoms.items c.args.wires.items c.args.rules.now) c.from_residual.result
    (no_fault c.args.atoms.items c.deref.result.now c.args.wires.items c.deref-2.result.now c.args.rules.now c.first_fault.result c.deref.ensures.value c.deref-2.ensures.value c.first_fault.ensures c.in_default.is) c.from_residual.ensures.1

pub returns-in_err-bound-clause-fault : goal.returns-in_err-bound-clause-fault
returns-in_err-bound-clause-fault c =
    memory-told (plant_by c.args.atoms.items c.args.wires.items c.args.rules.now) c.from_residual-in_err-bound.result
    (no_fault c.args.atoms.items c.deref.result.now c.args.wires.items c.deref-2.result.now c.args.rules.now c.first_fault.result c.deref.ensures.value c.deref-2.ensures.value c.first_fault.ensures c.in_default.is) c.from_residual-in_err-bound.ensures.1

pub returns-in_err-interactions-clause-fault : goal.returns-in_err-interactions-clause-fault
returns-in_err-interactions-clause-fault c =
    memory-told (plant_by c.args.atoms.items c.args.wires.items c.args.rules.now) c.from_residual-in_err-interactions.result
    (no_fault c.args.atoms.items c.deref.result.now c.args.wires.items c.deref-2.result.now c.args.rules.now c.first_fault.result c.deref.ensures.value c.deref-2.ensures.value c.first_fault.ensures c.in_default.is) c.from_residual-in_err-interactions.ensures.1

pub returns-in_err-order-clause-fault : goal.returns-in_err-order-clause-fault
returns-in_err-order-clause-fault c =
    let atoms = c.args.atoms.items in
    let wires = c.args.wires.items in
    let rules = c.args.rules.now in
    let plant = plant_by atoms wires rules in
    let all = c.in_ok-interactions.interactions in
    let listed = listed-all atoms wires c.deref-6.result.now rules c.len.result all.items (omega (arith, c.len.ensures, c.args.atoms.ok.0)) c.deref-6.ensures.value c.in_ok-interactions.ensures in
    let count : length (plant_interactions plant) ≡ c.len-2.result =
    omega (arith, c.len-2.ensures, all.ok.0, length-map all.items interaction_of, ap length listed) in
    order-told plant c.in_err-order.field-0.0 c.from_residual-in_err-order.result
    (no_fault c.args.atoms.items c.deref.result.now c.args.wires.items c.deref-2.result.now c.args.rules.now c.first_fault.result c.deref.ensures.value c.deref-2.ensures.value c.first_fault.ensures c.in_default.is)
    (ap fault_of_count count ∙ sym c.fault_of_count.ensures ∙ c.in_default-fault_of_count.is)
    (subst (λ xs. c.in_err-order.field-0.0 ≢ order.Memory → order_fault rules (map named xs) ≡ Some c.in_err-order.field-0.0) (ap (map interaction_of) c.deref-7.ensures.value ∙ listed) c.in_err-order.ensures.fault)
    c.from_residual-in_err-order.ensures.1

pub returns-in_err-connector_rows-clause-fault : goal.returns-in_err-connector_rows-clause-fault
returns-in_err-connector_rows-clause-fault c =
    memory-told (plant_by c.args.atoms.items c.args.wires.items c.args.rules.now) c.from_residual-in_err-connector_rows.result
    (no_fault c.args.atoms.items c.deref.result.now c.args.wires.items c.deref-2.result.now c.args.rules.now c.first_fault.result c.deref.ensures.value c.deref-2.ensures.value c.first_fault.ensures c.in_default.is) c.from_residual-in_err-connector_rows.ensures.1

pub returns-in_err-reach-clause-fault : goal.returns-in_err-reach-clause-fault
returns-in_err-reach-clause-fault c =
    memory-told (plant_by c.args.atoms.items c.args.wires.items c.args.rules.now) c.from_residual-in_err-reach.result
    (no_fault c.args.atoms.items c.deref.result.now c.args.wires.items c.deref-2.result.now c.args.rules.now c.first_fault.result c.deref.ensures.value c.deref-2.ensures.value c.first_fault.ensures c.in_default.is) c.from_residual-in_err-reach.ensures.1

pub returns-in_err-usual-clause-fault : goal.returns-in_err-usual-clause-fault
returns-in_err-usual-clause-fault c =
    memory-told (plant_by c.args.atoms.items c.args.wires.items c.args.rules.now) c.from_residual-in_err-usual.result
    (no_fault c.args.atoms.items c.deref.result.now c.args.wires.items c.deref-2.result.now c.args.rules.now c.first_fault.result c.deref.ensures.value c.deref-2.ensures.value c.first_fault.ensures c.in_default.is) c.from_residual-in_err-usual.ensures.1

pub returns-in_err-ranks-clause-fault : goal.returns-in_err-ranks-clause-fault
returns-in_err-ranks-clause-fault c =
    memory-told (plant_by c.args.atoms.items c.args.wires.items c.args.rules.now) c.from_residual-in_err-ranks.result
    (no_fault c.args.atoms.items c.deref.result.now c.args.wires.items c.deref-2.result.now c.args.rules.now c.first_fault.result c.deref.ensures.value c.deref-2.ensures.value c.first_fault.ensures c.in_default.is) c.from_residual-in_err-ranks.ensures.1

pub returns-clause-made : goal.returns-clause-made
returns-clause-made c = ap (plant_by c.args.atoms.items c.args.wires.items) c.in_ok-order.ensures.rules

pub returns-clause-digest : goal.returns-clause-digest
returns-clause-digest c = refl

pub connector_rows-requires-clause-few_wires : goal.connector_rows-requires-clause-few_wires
connector_rows-requires-clause-few_wires c =
    lent_few c.args.atoms.items c.args.wires.items c.deref-8.result.now c.args.rules.now c.deref-8.ensures.value
    (no_fault c.args.atoms.items c.deref.result.now c.args.wires.items c.deref-2.result.now c.args.rules.now c.first_fault.result c.deref.ensures.value c.deref-2.ensures.value c.first_fault.ensures c.in_default.is)

pub connector_rows-requires-clause-few_leaves : goal.connector_rows-requires-clause-few_leaves
connector_rows-requires-clause-few_leaves c =
    lent_leaves c.args.atoms.items c.args.wires.items c.deref-8.result.now c.args.rules.now c.deref-8.ensures.value
    (no_fault c.args.atoms.items c.deref.result.now c.args.wires.items c.deref-2.result.now c.args.rules.now c.first_fault.result c.deref.ensures.value c.deref-2.ensures.value c.first_fault.ensures c.in_default.is)

pub connector_rows-requires-clause-bound : goal.connector_rows-requires-clause-bound
connector_rows-requires-clause-bound c =
    ap length c.deref-10.ensures.value ∙ c.in_ok-bound.ensures.as_many ∙ ap length c.deref-5.ensures.value ∙ sym (ap length c.deref-8.ensures.value)

pub connector_rows-requires-clause-listed : goal.connector_rows-requires-clause-listed
connector_rows-requires-clause-listed c =
    let atoms = c.args.atoms.items in
    let wires = c.args.wires.items in
    let rules = c.args.rules.now in
    let all = c.in_ok-interactions.interactions in
    kept_order atoms wires c.deref-8.result.now rules c.deref-8.ensures.value
    (no_fault atoms c.deref.result.now wires c.deref-2.result.now rules c.first_fault.result c.deref.ensures.value c.deref-2.ensures.value c.first_fault.ensures c.in_default.is)
    all.items c.deref-11.result.now c.deref-11.ensures.value
    (listed-all atoms wires c.deref-6.result.now rules c.len.result all.items (omega (arith, c.len.ensures, c.args.atoms.ok.0)) c.deref-6.ensures.value c.in_ok-interactions.ensures)

pub reach_of-requires-clause-atoms : goal.reach_of-requires-clause-atoms
reach_of-requires-clause-atoms c =
    let atoms = c.args.atoms.items in
    let wires = c.args.wires.items in
    let plant = plant_by atoms wires c.args.rules.now in
    let none = no_fault atoms c.deref.result.now wires c.deref-2.result.now c.args.rules.now c.first_fault.result c.deref.ensures.value c.deref-2.ensures.value c.first_fault.ensures c.in_default.is in
    omega (arith, few_atoms plant (first_none (early_fault plant) (fault_of_wires plant) none), length-map atoms definition_of, c.len-3.ensures, c.args.atoms.ok.0)

pub reach_of-requires-clause-few_wires : goal.reach_of-requires-clause-few_wires
reach_of-requires-clause-few_wires c =
    lent_few c.args.atoms.items c.args.wires.items c.deref-12.result.now c.args.rules.now c.deref-12.ensures.value
    (no_fault c.args.atoms.items c.deref.result.now c.args.wires.items c.deref-2.result.now c.args.rules.now c.first_fault.result c.deref.ensures.value c.deref-2.ensures.value c.first_fault.ensures c.in_default.is)

pub reach_of-requires-clause-few_leaves : goal.reach_of-requires-clause-few_leaves
reach_of-requires-clause-few_leaves c =
    lent_leaves c.args.atoms.items c.args.wires.items c.deref-12.result.now c.args.rules.now c.deref-12.ensures.value
    (no_fault c.args.atoms.items c.deref.result.now c.args.wires.items c.deref-2.result.now c.args.rules.now c.first_fault.result c.deref.ensures.value c.deref-2.ensures.value c.first_fault.ensures c.in_default.is)

pub usual_of-requires-clause-atoms : goal.usual_of-requires-clause-atoms
usual_of-requires-clause-atoms c =
    let atoms = c.args.atoms.items in
    let plant = plant_by atoms c.args.wires.items c.args.rules.now in
    let none = no_fault atoms c.deref.result.now c.args.wires.items c.deref-2.result.now c.args.rules.now c.first_fault.result c.deref.ensures.value c.deref-2.ensures.value c.first_fault.ensures c.in_default.is in
    omega (arith, few_atoms plant (first_none (early_fault plant) (fault_of_wires plant) none), length-map atoms definition_of, ap length c.deref-14.ensures.value)

pub usual_of-requires-clause-few_connectors : goal.usual_of-requires-clause-few_connectors
usual_of-requires-clause-few_connectors c =
    let wires = c.args.wires.items in
    let lists = lent-lists c.in_ok-ports.ports.items c.deref-15.result.now wires c.deref-3.result.now c.deref-15.ensures.value c.deref-3.ensures.value c.in_ok-ports.ensures in
    omega (
      arith,
      as-many-lists c.deref-15.result.now wires lists,
      lent_few c.args.atoms.items wires wires c.args.rules.now refl
          (no_fault c.args.atoms.items c.deref.result.now wires c.deref-2.result.now c.args.rules.now c.first_fault.result c.deref.ensures.value c.deref-2.ensures.value c.first_fault.ensures c.in_default.is),
    )

pub usual_of-requires-clause-few_leaves : goal.usual_of-requires-clause-few_leaves
usual_of-requires-clause-few_leaves c k ps there =
    let wires = c.args.wires.items in
    let lists = lent-lists c.in_ok-ports.ports.items c.deref-15.result.now wires c.deref-3.result.now c.deref-15.ensures.value c.deref-3.ensures.value c.in_ok-ports.ensures in
    let own = of-wires (map (λ list. list.items) c.deref-15.result.now) (map wire_of wires) lists k ps there in
    omega (
      arith,
      ap length own.2,
      lent_leaves c.args.atoms.items wires wires c.args.rules.now refl
          (no_fault c.args.atoms.items c.deref.result.now wires c.deref-2.result.now c.args.rules.now c.first_fault.result c.deref.ensures.value c.deref-2.ensures.value c.first_fault.ensures c.in_default.is) k own.0 own.1,
    )

pub ranks_of-requires-clause-few_rows : goal.ranks_of-requires-clause-few_rows
ranks_of-requires-clause-few_rows c =
    let none = no_fault c.args.atoms.items c.deref.result.now c.args.wires.items c.deref-2.result.now c.args.rules.now c.first_fault.result c.deref.ensures.value c.deref-2.ensures.value c.first_fault.ensures c.in_default.is in
    omega (arith, lent_few c.args.atoms.items c.args.wires.items c.deref-8.result.now c.args.rules.now c.deref-8.ensures.value none, ap length c.deref-16.ensures.value, c.in_ok-connector_rows.ensures.as_many, length-map c.deref-8.result.now wire_of)

pub ranks_of-requires-clause-ordered : goal.ranks_of-requires-clause-ordered
ranks_of-requires-clause-ordered c =
    c.in_ok-order.ensures.interactions ∙ ap (λ xs. map named (map interaction_of xs)) (c.deref-7.ensures.value ∙ sym c.deref-17.ensures.value)

pub ranks_of-requires-clause-ranges : goal.ranks_of-requires-clause-ranges
ranks_of-requires-clause-ranges c =
    let atoms = c.args.atoms.items in
    let wires = c.args.wires.items in
    let rules = c.args.rules.now in
    let plant = plant_by atoms wires rules in
    let all = c.in_ok-interactions.interactions in
    let bound = c.in_ok-bound.bound.items in
    let rows = c.in_ok-connector_rows.connector_rows.items in
    let listed = listed-all atoms wires c.deref-6.result.now rules c.len.result all.items (omega (arith, c.len.ensures, c.args.atoms.ok.0)) c.deref-6.ensures.value c.in_ok-interactions.ensures in
    let are : AreConnectorRows (map wire_of wires) bound (map interaction_of all.items) rows = kept-rows c.args.wires.items c.deref-8.result.now bound c.deref-10.result.now all.items c.deref-11.result.now rows c.deref-8.ensures.value c.deref-10.ensures.value c.deref-11.ensures.value c.in_ok-connector_rows.ensures in
    let as_many : length bound ≡ length (map wire_of wires) = c.in_ok-bound.ensures.as_many ∙ ap length c.deref-5.ensures.value ∙ sym (length-map wires wire_of) in
    let known : (n : ℕ) (i : choice.Interaction) → slice_get (map interaction_of all.items) n ≡ Some i → i.connector < length (map wire_of wires) = λ n i at. known-from plant n i (ap (λ xs. slice_get xs n) (sym listed) ∙ at) in
    let few : length (map interaction_of all.items) ≤ MAX_INTERACTIONS =
    omega (arith, c.len-2.ensures, all.ok.0, length-map all.items interaction_of, count-kept c.len-2.result (sym c.fault_of_count.ensures ∙ c.in_default-fault_of_count.is)) in
    subst (λ is. AreRanges (map interaction_of is) c.deref-16.result.now) (sym c.deref-17.ensures.value)
    (subst (AreRanges (map interaction_of all.items)) (sym c.deref-16.ensures.value) (ranges-from (map wire_of wires) bound (map interaction_of all.items) rows as_many few known are))

pub invariant_of-result : goal.invariant_of-result
invariant_of-result c =
    let atoms = c.args.atoms.items in
    let wires = c.args.wires.items in
    let rules = c.args.rules.now in
    let plant = plant_by atoms wires rules in
    let all = c.in_ok-interactions.interactions in
    let bound = c.in_ok-bound.bound.items in
    let order = c.in_ok-order in
    let connectors = c.in_ok-connector_rows.connector_rows.items in
    let reach = c.in_ok-reach.reach in
    let rows_of : Vec (Option Usual) Global → List (Option Usual) = λ row. row.items in
    let usual = map rows_of c.in_ok-usual.usual.items in
    let ranks = c.in_ok-ranks.ranks in
    let are : AreConnectorRows (map wire_of wires) bound (map interaction_of all.items) connectors = kept-rows wires c.deref-8.result.now bound c.deref-10.result.now all.items c.deref-11.result.now connectors c.deref-8.ensures.value c.deref-10.ensures.value c.deref-11.ensures.value c.in_ok-connector_rows.ensures in
    let as_many : c.len-3.result ≡ length atoms = omega (arith, c.len-3.ensures, c.args.atoms.ok.0) in
    let none : first_fault plant ≡ None =
    ap (λ xs. first_fault (plant_by xs wires rules)) (sym c.deref.ensures.value) ∙ ap (λ ws. first_fault (plant_by c.deref.result.now ws rules)) (sym c.deref-2.ensures.value) ∙ sym c.first_fault.ensures ∙ c.in_default.is in
    let listed = listed-all atoms wires c.deref-6.result.now rules c.len.result all.items (omega (arith, c.len.ensures, c.args.atoms.ok.0)) c.deref-6.ensures.value c.in_ok-interactions.ensures in
    let count : length (plant_interactions plant) ≡ c.len-2.result =
    omega (arith, c.len-2.ensures, all.ok.0, length-map all.items interaction_of, ap length listed) in
    record {
      valid = subst (λ rs. fault_of (plant_by atoms wires rs) ≡ None) (sym order.ensures.rules)
          (none-told plant none (ap fault_of_count count ∙ sym c.fault_of_count.ensures ∙ c.in_default-fault_of_count.is) (subst (λ xs. order_fault rules (map named xs) ≡ None) (ap (map interaction_of) c.deref-7.ensures.value ∙ listed) order.ensures.sound));
      leaves = c.in_ok-ports.ensures ∙ ap (map (λ w. leaves (wire_of w).connector)) c.deref-3.ensures.value;
      guarding = subst (λ ws. AreGuarding (map definition_of atoms) (map wire_of ws) bound) c.deref-5.ensures.value
          (subst (λ xs. AreGuarding (map definition_of xs) (map wire_of c.deref-5.result.now) bound) c.deref-4.ensures.value c.in_ok-bound.ensures.guarding);
      delivering = subst (λ ws. AreDelivering (map definition_of atoms) (map wire_of ws) bound) c.deref-5.ensures.value
          (subst (λ xs. AreDelivering (map definition_of xs) (map wire_of c.deref-5.result.now) bound) c.deref-4.ensures.value c.in_ok-bound.ensures.delivering);
      listed = listed;
      ordered = order.ensures.interactions ∙ ap (λ xs. map named (map interaction_of xs)) c.deref-7.ensures.value;
      all_bound = c.in_ok-bound.ensures.as_many ∙ ap length c.deref-5.ensures.value;
      in_rows = are;
      reached = subst (λ ws. IsReach (length atoms) (map wire_of ws) reach) c.deref-12.ensures.value
          (subst (λ m. IsReach m (map wire_of c.deref-12.result.now) reach) as_many c.in_ok-reach.ensures);
      foretold = subst (λ ps. AreUsual (map definition_of atoms) ps usual) (lent-lists c.in_ok-ports.ports.items c.deref-15.result.now wires c.deref-3.result.now c.deref-15.ensures.value c.deref-3.ensures.value c.in_ok-ports.ensures)
          (subst (λ xs. AreUsual (map definition_of xs) (map (λ list. list.items) c.deref-15.result.now) usual) c.deref-14.ensures.value c.in_ok-usual.ensures);
      ranked = subst (λ k. AreRanks k order.order.rules (map interaction_of all.items) ranks) (ap length c.deref-16.ensures.value ∙ are.as_many ∙ length-map wires wire_of)
          (subst (λ is. AreRanks (length c.deref-16.result.now) order.order.rules (map interaction_of is) ranks) c.deref-17.ensures.value c.in_ok-ranks.ensures);
    }
