-- What a firing writes, and the guards that read none of it.
use Rattle.std.proofs.Common.{◌≡◌, ℕ, suc, ℤ, pos, Bool, true, false, not, eqb, refl, sym, ◌∙◌, ap, List, [], ◌∷◌, Option, Some, None, get_or-set_other}
use Rattle.std.specs.Prelude.{slice_set}
use Rattle.std.specs.Option.{option_map_or}
use Rattle.std.proofs.lemmas.Bool.{and_parts, or_parts, not-true, both_ways, eq-eqb}
use Rattle.petri_atom.specs.Expression.{Tree, number, variable, negation, operation, truth, is_true, operated, value_of, all_variables}
use Rattle.petri_atom.specs.Local.{Row, is_in, value_in, delivered_value}
use Rattle.petri_atom.specs.Definition.{TransitionDefinition, UpdateDefinition, delivered_to, updated}
use Rattle.petri_atom.specs.Behind.{AreWritten, HasSameGuard, is_updated, may_write}

-- an expression has the same value where each variable that it may read has
value-same : (reads : ℕ → Bool) (at bt : ℕ → ℤ) → ((v : ℕ) → reads v ≡ true → at v ≡ bt v) → (e : Tree ℕ) → all_variables reads e ≡ true → value_of at e ≡ value_of bt e
value-same reads at bt same (number n) all = refl
value-same reads at bt same (variable v) all = same v all
value-same reads at bt same (negation e) all = ap (λ x. truth (not (is_true x))) (value-same reads at bt same e all)
value-same reads at bt same (operation op e f) all =
    let parts = and_parts (all_variables reads e) (all_variables reads f) all in
    ap (λ x. operated op x (value_of at f)) (value-same reads at bt same e parts.0) ∙
    ap (operated op (value_of bt e)) (value-same reads at bt same f parts.1)

-- a variable that another one is not keeps its value when that one gets one
value_in-other : (values : List ℤ) (w v : ℕ) (x : ℤ) → eqb w v ≡ false → value_in (slice_set values w x) v ≡ value_in values v
value_in-other values w v x other =
    get_or-set_other values w v x (pos 0) (λ same. both_ways _ other (eq-eqb w v (sym same)))

-- so does one that no update writes
updated-other : (us : List UpdateDefinition) (values : List ℤ) (v : ℕ) → is_updated us v ≡ false → value_in (updated us values) v ≡ value_in values v
updated-other [] values v none = refl
updated-other (u ∷ us) values v none =
    let parts = or_parts (eqb u.variable v) (is_updated us v) none in
    updated-other us (slice_set values u.variable (value_of (value_in values) u.value)) v parts.1 ∙
    value_in-other values u.variable v (value_of (value_in values) u.value) parts.0

-- and one that is not exported, whatever is delivered
assigned-other : (o : Option ℤ) (values : List ℤ) (w v : ℕ) → eqb w v ≡ false → value_in (option_map_or (slice_set values w) o values) v ≡ value_in values v
assigned-other None values w v other = refl
assigned-other (Some x) values w v other = value_in-other values w v x other

delivered-other : (d : Row) (j : ℕ) (ws : List ℕ) (values : List ℤ) (v : ℕ) → is_in ws v ≡ false → value_in (delivered_to d j ws values) v ≡ value_in values v
delivered-other d j [] values v none = refl
delivered-other d j (w ∷ ws) values v none =
    let parts = or_parts (eqb w v) (is_in ws v) none in
    delivered-other d (suc j) ws (option_map_or (slice_set values w) (delivered_value d j) values) v parts.1 ∙
    assigned-other (delivered_value d j) values w v parts.0

-- a guard that reads nothing of what a firing writes has the same value after it
pub same_guard : (fired other : TransitionDefinition) (exports : List ℕ) (word : ℕ) → AreWritten word fired.updates exports → all_variables (λ v. not (may_write word v)) other.guard ≡ true → HasSameGuard fired exports other
same_guard fired other exports word written unread before row =
    value-same (λ v. not (may_write word v)) _ (value_in before.values)
    (λ v unwritten. let none = or_parts (is_updated fired.updates v) (is_in exports v) (written v (not-true _ unwritten)) in updated-other fired.updates (delivered_to row 0 exports before.values) v none.0 ∙ delivered-other row 0 exports before.values v none.1)
    other.guard unread
