use Rattle.std.proofs.Common.{◌≡◌, ◌∙◌, ℕ, ◌+◌, ◌<◌, ◌≤◌, List, [], ◌∷◌, ◌++◌, ap, sym, map, length, get_or, take}
use Rattle.std.proofs.lemmas.List.{length-map, take_all, take_more, map-append}
use Rattle.petri_atom.specs.Atom.{definition_of}
use Rattle.petri_atom.specs.Definition.{AtomDefinition}
use Rattle.plant_model.specs.BoundExpressions.{ResolvedDefinition, bound_of, bound_by}
use Rattle.plant_model.specs.Wire.{wire_of}
use Rattle.plant_model.specs.declared.bound_expressions.BoundExpressions.{BoundExpressions}
use Rattle.plant_model.specs.declared.wire.Wire.{Wire}
use Rattle.plant_model.proofs.Guarding.{guarding-found, delivering-found}
use Rattle.plant_model.proofs.bound_expressions.bound_wires.Goals as goal

-- what is found of one more wire, after what was found of those before it
one_more : (atoms : List AtomDefinition) (wires : List Wire) (i : ℕ) (wire : Wire) (before after : List BoundExpressions) (made : BoundExpressions) → i < length wires → wire ≡ get_or wires i wire → after ≡ before ++ made ∷ [] → bound_of made ≡ bound_by atoms (wire_of wire)
    → map bound_of before ≡ map (bound_by atoms) (map wire_of (take i wires)) → map bound_of after ≡ map (bound_by atoms) (map wire_of (take (i + 1) wires))
one_more atoms wires i wire before after made within here joined found so_far =
    let by : Wire → ResolvedDefinition = λ w. bound_by atoms (wire_of w) in
    ap (map bound_of) joined
    ∙ map-append bound_of before (made ∷ [])
    ∙ ap (λ rs. rs ++ bound_of made ∷ []) so_far
    ∙ ap (λ r. map (bound_by atoms) (map wire_of (take i wires)) ++ r ∷ []) (found ∙ ap by here)
    ∙ sym (ap (λ ws. map (bound_by atoms) (map wire_of ws)) (take_more wires i wire within)
    ∙ ap (map (bound_by atoms)) (map-append wire_of (take i wires) (get_or wires i wire ∷ []))
    ∙ map-append (bound_by atoms) (map wire_of (take i wires)) (wire_of (get_or wires i wire) ∷ []))

-- what is found of all wires
all_bound : (atoms : List AtomDefinition) (wires : List Wire) (k : ℕ) (all : List BoundExpressions) → length wires ≤ k
    → map bound_of all ≡ map (bound_by atoms) (map wire_of (take k wires)) → map bound_of all ≡ map (bound_by atoms) (map wire_of wires)
all_bound atoms wires k all past found = found ∙ ap (λ ws. map (bound_by atoms) (map wire_of ws)) (take_all k wires past)

pub loop-wire-preserved : goal.loop-wire-preserved
loop-wire-preserved c =
    one_more (map definition_of c.args.atoms.now) c.args.wires.now c.loop-wire.wire-index c.wire-item.result c.loop-wire.all.items c.push.new.self.items c.in_ok-of.field-0
    c.loop-wire-test.true c.wire-item.is c.in_ok-push.ensures.items c.in_ok-of.ensures c.loop-wire.invariant

pub returns-clause-guarding : goal.returns-clause-guarding
returns-clause-guarding c =
    guarding-found (map definition_of c.args.atoms.now) (map wire_of c.args.wires.now) c.loop-wire.all.items
    (all_bound (map definition_of c.args.atoms.now) c.args.wires.now c.loop-wire.wire-index c.loop-wire.all.items c.loop-wire-test.false c.loop-wire.invariant)

pub returns-clause-delivering : goal.returns-clause-delivering
returns-clause-delivering c =
    delivering-found (map definition_of c.args.atoms.now) (map wire_of c.args.wires.now) c.loop-wire.all.items
    (all_bound (map definition_of c.args.atoms.now) c.args.wires.now c.loop-wire.wire-index c.loop-wire.all.items c.loop-wire-test.false c.loop-wire.invariant)

pub returns-clause-as_many : goal.returns-clause-as_many
returns-clause-as_many c =
    let atoms = map definition_of c.args.atoms.now in
    let wires = c.args.wires.now in
    let all = c.loop-wire.all.items in
    sym (length-map all bound_of) ∙
    ap length (all_bound atoms wires c.loop-wire.wire-index all c.loop-wire-test.false c.loop-wire.invariant) ∙
    length-map (map wire_of wires) (bound_by atoms) ∙ length-map wires wire_of
