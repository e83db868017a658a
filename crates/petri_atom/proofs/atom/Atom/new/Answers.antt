use Rattle.std.proofs.Common.{◌≡◌, ℕ, ◌∙◌, ap, sym, arith, subst, true, List, [], length, ltb, map}
use Rattle.std.specs.List.{list_all}
use Rattle.std.specs.Prelude.{Option, Some, None}
use Rattle.std.proofs.lemmas.List.{length-map}
use Rattle.std.proofs.lemmas.Option.{same_Some, none-some}
use Rattle.petri_atom.specs.Arcs.{AreArcsOf, AreExported}
use Rattle.petri_atom.specs.Behind.{AreBehind}
use Rattle.petri_atom.specs.Definition.{IsFaultOf, fault_of}
use Rattle.petri_atom.specs.Groups.{AreGroupsOf, turned_set, unguarded_set}
use Rattle.petri_atom.specs.StraightCode.{AreCodesOf, is_codable_transition}
use Rattle.petri_atom.specs.Parts.{definition_by, port_of, sets_below}
use Rattle.petri_atom.specs.Transition.{transition_of}
use Rattle.petri_atom.specs.declared.fault.AtomFault.{AtomFault}
use Rattle.petri_atom.specs.declared.parts.Place.{Place}
use Rattle.petri_atom.specs.declared.parts.Variable.{Variable}
use Rattle.petri_atom.specs.declared.parts.Port.{Port}
use Rattle.petri_atom.specs.declared.transition.Transition.{Transition}
use Rattle.petri_atom.proofs.Coded.{codable-when-formed}
use Rattle.petri_atom.proofs.Fitting.{formed-when-sound, few_ports, few_transitions, known_ports}
use Rattle.petri_atom.proofs.atom.Atom.new.Goals as goal

-- the rule that the parts break, as they were lent, is the one that they break under any name
of_lent : (name : List ℕ) (places lent-places : List Place) (variables lent-variables : List Variable) (ports lent-ports : List Port) (transitions lent-transitions : List Transition) (found : Option AtomFault) → found ≡ fault_of (definition_by [] lent-places lent-variables lent-ports lent-transitions) → lent-places ≡ places → lent-variables ≡ variables → lent-ports ≡ ports → lent-transitions ≡ transitions → found ≡ fault_of (definition_by name places variables ports transitions)
of_lent name places lent-places variables lent-variables ports lent-ports transitions lent-transitions found e p v o t =
    e ∙ ap (λ xs. fault_of (definition_by [] xs lent-variables lent-ports lent-transitions)) p ∙
    ap (λ xs. fault_of (definition_by [] places xs lent-ports lent-transitions)) v ∙
    ap (λ xs. fault_of (definition_by [] places variables xs lent-transitions)) o ∙
    ap (λ xs. fault_of (definition_by [] places variables ports xs)) t

-- the rule that is broken is the fault
broken : (fault : AtomFault) (found : Option AtomFault) → found ≡ Some fault → IsFaultOf fault found
broken fault None e = absurd (none-some fault e)
broken fault (Some rule) e = sym (same_Some rule fault e)

pub returns-in-Some-clause-fault : goal.returns-in-Some-clause-fault
returns-in-Some-clause-fault c =
    let a = definition_by c.args.name c.args.places.items c.args.variables.items c.args.ports.items c.args.transitions.items in
    let found : c.fault_of.result ≡ fault_of a = of_lent c.args.name _ _ _ _ _ _ _ _ _ c.fault_of.ensures c.deref.ensures.value c.deref-2.ensures.value c.deref-3.ensures.value c.deref-4.ensures.value in
    broken c.in-Some.fault (fault_of a) (sym found ∙ c.in-Some.is)

pub masks_by_port-requires-clause-ports : goal.masks_by_port-requires-clause-ports
masks_by_port-requires-clause-ports c =
    let a = definition_by c.args.name c.args.places.items c.args.variables.items c.args.ports.items c.args.transitions.items in
    let found : c.fault_of.result ≡ fault_of a = of_lent c.args.name _ _ _ _ _ _ _ _ _ c.fault_of.ensures c.deref.ensures.value c.deref-2.ensures.value c.deref-3.ensures.value c.deref-4.ensures.value in
    omega (arith, few_ports a (formed-when-sound a (sym found ∙ c.in_default.is)), length-map c.args.ports.items port_of, c.len.ensures, c.args.ports.ok.0)

pub masks_by_port-requires-clause-transitions : goal.masks_by_port-requires-clause-transitions
masks_by_port-requires-clause-transitions c =
    let a = definition_by c.args.name c.args.places.items c.args.variables.items c.args.ports.items c.args.transitions.items in
    let found : c.fault_of.result ≡ fault_of a = of_lent c.args.name _ _ _ _ _ _ _ _ _ c.fault_of.ensures c.deref.ensures.value c.deref-2.ensures.value c.deref-3.ensures.value c.deref-4.ensures.value in
    omega (arith, few_transitions a (formed-when-sound a (sym found ∙ c.in_default.is)), length-map c.args.transitions.items transition_of, ap length c.deref-5.ensures.value)

pub groups_of-requires : goal.groups_of-requires
groups_of-requires c =
    let a = definition_by c.args.name c.args.places.items c.args.variables.items c.args.ports.items c.args.transitions.items in
    let found : c.fault_of.result ≡ fault_of a = of_lent c.args.name _ _ _ _ _ _ _ _ _ c.fault_of.ensures c.deref.ensures.value c.deref-2.ensures.value c.deref-3.ensures.value c.deref-4.ensures.value in
    omega (arith, few_transitions a (formed-when-sound a (sym found ∙ c.in_default.is)), length-map c.args.transitions.items transition_of, ap length c.deref-6.ensures.value)

pub mask_of_unguarded-unguarded-requires : goal.mask_of_unguarded-unguarded-requires
mask_of_unguarded-unguarded-requires c =
    let a = definition_by c.args.name c.args.places.items c.args.variables.items c.args.ports.items c.args.transitions.items in
    let found : c.fault_of.result ≡ fault_of a = of_lent c.args.name _ _ _ _ _ _ _ _ _ c.fault_of.ensures c.deref.ensures.value c.deref-2.ensures.value c.deref-3.ensures.value c.deref-4.ensures.value in
    omega (arith, few_transitions a (formed-when-sound a (sym found ∙ c.in_default.is)), length-map c.args.transitions.items transition_of, ap length c.deref-7.ensures.value)

pub invariant_of-result-clause-well_formed : goal.invariant_of-result-clause-well_formed
invariant_of-result-clause-well_formed c =
    let a = definition_by c.args.name c.args.places.items c.args.variables.items c.args.ports.items c.args.transitions.items in
    let found : c.fault_of.result ≡ fault_of a = of_lent c.args.name _ _ _ _ _ _ _ _ _ c.fault_of.ensures c.deref.ensures.value c.deref-2.ensures.value c.deref-3.ensures.value c.deref-4.ensures.value in
    formed-when-sound a (sym found ∙ c.in_default.is)

pub invariant_of-result-clause-masked : goal.invariant_of-result-clause-masked
invariant_of-result-clause-masked c =
    c.in_ok-masks.ensures ∙
    ap (λ n. sets_below n (map transition_of c.deref-5.result.now)) (c.len.ensures ∙ c.args.ports.ok.0) ∙
    ap (λ ts. sets_below (length c.args.ports.items) (map transition_of ts)) c.deref-5.ensures.value

pub invariant_of-result-clause-grouped : goal.invariant_of-result-clause-grouped
invariant_of-result-clause-grouped c =
    subst (λ ts. AreGroupsOf c.in_ok-groups.groups.items (map transition_of ts)) c.deref-6.ensures.value c.in_ok-groups.ensures

pub invariant_of-result-clause-unguarded_bits : goal.invariant_of-result-clause-unguarded_bits
invariant_of-result-clause-unguarded_bits c =
    c.mask_of_unguarded-unguarded.ensures ∙ ap (λ ts. unguarded_set (map transition_of ts)) c.deref-7.ensures.value

pub mask_of_turned-turned-requires : goal.mask_of_turned-turned-requires
mask_of_turned-turned-requires c =
    let a = definition_by c.args.name c.args.places.items c.args.variables.items c.args.ports.items c.args.transitions.items in
    let found : c.fault_of.result ≡ fault_of a = of_lent c.args.name _ _ _ _ _ _ _ _ _ c.fault_of.ensures c.deref.ensures.value c.deref-2.ensures.value c.deref-3.ensures.value c.deref-4.ensures.value in
    omega (arith, few_transitions a (formed-when-sound a (sym found ∙ c.in_default.is)), length-map c.args.transitions.items transition_of, ap length c.deref-8.ensures.value)

pub invariant_of-result-clause-turned_bits : goal.invariant_of-result-clause-turned_bits
invariant_of-result-clause-turned_bits c =
    c.mask_of_turned-turned.ensures ∙ ap (λ ts. turned_set (map transition_of ts)) c.deref-8.ensures.value

pub codes_of-requires-clause-few : goal.codes_of-requires-clause-few
codes_of-requires-clause-few c =
    let a = definition_by c.args.name c.args.places.items c.args.variables.items c.args.ports.items c.args.transitions.items in
    let found : c.fault_of.result ≡ fault_of a = of_lent c.args.name _ _ _ _ _ _ _ _ _ c.fault_of.ensures c.deref.ensures.value c.deref-2.ensures.value c.deref-3.ensures.value c.deref-4.ensures.value in
    omega (arith, few_transitions a (formed-when-sound a (sym found ∙ c.in_default.is)), length-map c.args.transitions.items transition_of, ap length c.deref-9.ensures.value)

pub codes_of-requires-clause-codable : goal.codes_of-requires-clause-codable
codes_of-requires-clause-codable c =
    let a = definition_by c.args.name c.args.places.items c.args.variables.items c.args.ports.items c.args.transitions.items in
    let found : c.fault_of.result ≡ fault_of a = of_lent c.args.name _ _ _ _ _ _ _ _ _ c.fault_of.ensures c.deref.ensures.value c.deref-2.ensures.value c.deref-3.ensures.value c.deref-4.ensures.value in
    subst (λ ts. list_all is_codable_transition (map transition_of ts) ≡ true) (sym c.deref-9.ensures.value) (codable-when-formed a (formed-when-sound a (sym found ∙ c.in_default.is)))

pub invariant_of-result-clause-coded : goal.invariant_of-result-clause-coded
invariant_of-result-clause-coded c =
    subst (λ ts. AreCodesOf c.in_ok-codes.codes.items (map transition_of ts)) c.deref-9.ensures.value c.in_ok-codes.ensures

pub invariant_of-result-clause-told : goal.invariant_of-result-clause-told
invariant_of-result-clause-told c =
    let ports : map port_of c.deref-10.result.now ≡ map port_of c.args.ports.items = ap (map port_of) c.deref-10.ensures.value in
    let ts : map transition_of c.deref-11.result.now ≡ map transition_of c.args.transitions.items = ap (map transition_of) c.deref-11.ensures.value in
    subst (λ os. AreBehind os (map transition_of c.args.transitions.items) c.in_ok-behind.behind.items) ports
    (subst (λ us. AreBehind (map port_of c.deref-10.result.now) us c.in_ok-behind.behind.items) ts c.in_ok-behind.ensures)

pub invariant_of-result-clause-drawn : goal.invariant_of-result-clause-drawn
invariant_of-result-clause-drawn c =
    subst (λ ts. AreArcsOf c.in_ok-arcs.arcs.items (map transition_of ts)) c.deref-13.ensures.value c.in_ok-arcs.ensures.drawn

pub invariant_of-result-clause-exported : goal.invariant_of-result-clause-exported
invariant_of-result-clause-exported c =
    let ports : map port_of c.deref-12.result.now ≡ map port_of c.args.ports.items = ap (map port_of) c.deref-12.ensures.value in
    let ts : map transition_of c.deref-13.result.now ≡ map transition_of c.args.transitions.items = ap (map transition_of) c.deref-13.ensures.value in
    subst (λ os. AreExported os c.in_ok-arcs.arcs.items (map transition_of c.args.transitions.items)) ports
    (subst (λ us. AreExported (map port_of c.deref-12.result.now) c.in_ok-arcs.arcs.items us) ts c.in_ok-arcs.ensures.exported)

pub arcs_of-requires-clause-known : goal.arcs_of-requires-clause-known
arcs_of-requires-clause-known c =
    let a = definition_by c.args.name c.args.places.items c.args.variables.items c.args.ports.items c.args.transitions.items in
    let found : c.fault_of.result ≡ fault_of a = of_lent c.args.name _ _ _ _ _ _ _ _ _ c.fault_of.ensures c.deref.ensures.value c.deref-2.ensures.value c.deref-3.ensures.value c.deref-4.ensures.value in
    let ports : length a.ports ≡ length c.deref-12.result.now = length-map c.args.ports.items port_of ∙ sym (ap length c.deref-12.ensures.value) in
    subst (λ n. list_all (λ t. ltb t.port n) (map transition_of c.deref-13.result.now) ≡ true) ports
    (subst (λ us. list_all (λ t. ltb t.port (length a.ports)) (map transition_of us) ≡ true) (sym c.deref-13.ensures.value) (known_ports a (formed-when-sound a (sym found ∙ c.in_default.is))))
