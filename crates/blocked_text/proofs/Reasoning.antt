-- A reason is right, and an interaction has none exactly if it is allowed.
use Rattle.std.proofs.Common.{◌≡◌, ◌↔◌, ℕ, refl, sym, ◌∙◌, ap, subst, List, map, length, arith, ℤ, pos, Bool, true, false, not, ◌&&◌, ◌||◌}
use Rattle.std.specs.Prelude.{Option, Some, None, slice_get, option_map, is_none}
use Rattle.std.specs.List.{list_all, list_any, range_with_len}
use Rattle.std.specs.Option.{option_map_or, option_or}
use Rattle.std.specs.Ordering.{int_eq}
use Rattle.std.proofs.lemmas.Bool.{and_parts, false≢true}
use Rattle.std.proofs.lemmas.Bool.Decides.{Decides-int_eq}
use Rattle.std.proofs.lemmas.Option.{none-some, same_Some}
use Rattle.std.proofs.lemmas.List.{length-map}
use Rattle.petri_atom.specs.Definition.{AtomDefinition}
use Rattle.petri_atom.specs.Expression.{is_true, value_of}
use Rattle.petri_atom.specs.Local.{Local}
use Rattle.connector_tree.specs.Tree.{leaves}
use Rattle.connector_tree.specs.declared.tree.Port.{Port}
use Rattle.priority_filter.specs.Decided.{is_below, is_overruled}
use Rattle.priority_filter.proofs.DecidedOrder.{decides_below}
use Rattle.plant_model.specs.Choice.{Interaction, active_in, is_allowed_at, is_offered_port, is_possible, is_possible_at, named, passes_guards, plant_interactions}
use Rattle.plant_model.specs.Exports.{clause_applies, guards_hold, value_at}
use Rattle.plant_model.specs.Plant.{PlantDefinition, WireDefinition}
use Rattle.blocked_text.specs.Laws.{IsRight, IsZeroClause}
use Rattle.blocked_text.specs.Reason.{first_idle, first_over, first_zero, is_over, is_zero_clause, reason_among, reason_by, reason_of, zero_of}
use Rattle.blocked_text.specs.declared.reason.Reason.{Reason}
use Rattle.blocked_text.specs.declared.reason.Reason.TheVariants.{NotOffered, GuardIsZero, GivesWay}
use Rattle.blocked_text.proofs.Finding.{found-passes, none-fails, none-is, none-of-three, none-passes, none-placed, placed-passes}

-- a clause is no zero clause where it does not apply or is not 0
not-zero : (a t : Bool) → not (a && not t) ≡ (not a || t)
not-zero true true = refl
not-zero true false = refl
not-zero false t = refl

and-assoc : (a b c : Bool) → (a && (b && c)) ≡ (a && b && c)
and-assoc true b c = refl
and-assoc false b c = refl

module _ (atoms : List AtomDefinition) (wires : List WireDefinition) (states : List Local) (i : Interaction) where
  -- no guard clause that applies is 0 if the guards let the interaction pass
  pub none-zero : is_none (zero_of atoms wires states i) ≡ passes_guards atoms wires states i
  none-zero = each (slice_get wires i.connector)
    where
      each : (o : Option WireDefinition) → is_none (option_map_or (λ w. first_zero atoms states (leaves w.connector) i.mask w.guards) o None) ≡ option_map_or (λ w. guards_hold atoms states (leaves w.connector) i.mask w.guards) o true
      each None = refl
      each (Some w) =
          none-placed (is_zero_clause atoms states (leaves w.connector) i.mask) (λ clause. not (clause_applies i.mask clause) || is_true (value_of (value_at atoms states (leaves w.connector)) clause))
          (λ clause. not-zero (clause_applies i.mask clause) (is_true (value_of (value_at atoms states (leaves w.connector)) clause))) 0 w.guards

  -- it is possible if no port of it is idle and no such clause is 0
  pub possible-known : (is_none (first_idle atoms states i.ports) && is_none (zero_of atoms wires states i)) ≡ is_possible atoms wires states i
  possible-known =
      ap (λ b. b && is_none (zero_of atoms wires states i)) (none-fails (is_offered_port atoms states) i.ports) ∙
      ap (λ b. list_all (is_offered_port atoms states) i.ports && b) none-zero

module _ (plant : PlantDefinition) (states : List Local) (interactions : List Interaction) where
  abbrev possible : ℕ → Bool
  possible = is_possible_at plant.atoms plant.wires states interactions

  -- no possible interaction is above if the interaction is not overruled
  none-over : (n : ℕ) → is_none (first_over plant states interactions n) ≡ not (is_overruled (active_in plant states) (map named interactions) possible n)
  unfolding is_overruled
  none-over n =
      none-passes (is_over plant states interactions n) (range_with_len 0 (length interactions)) ∙
      ap (λ k. not (list_any (is_over plant states interactions n) (range_with_len 0 k))) (sym (length-named interactions))
    where
      length-named : (xs : List Interaction) → length (map named xs) ≡ length xs
      length-named xs = length-map xs named

  module _ (n : ℕ) (i : Interaction) (there : slice_get interactions n ≡ Some i) where
    reason-there : reason_among plant states interactions n ≡ reason_by plant states interactions n i
    reason-there = ap (λ o. option_map_or (reason_by plant states interactions n) o None) there

    possible-there : possible n ≡ is_possible plant.atoms plant.wires states i
    possible-there = ap (λ o. option_map_or (is_possible plant.atoms plant.wires states) o false) there

    -- it has no reason exactly if it is allowed
    pub none-allowed : is_none (reason_among plant states interactions n) ≡ is_allowed_at plant states interactions n
    none-allowed =
        ap is_none reason-there ∙
        none-of-three NotOffered GuardIsZero GivesWay (first_idle plant.atoms states i.ports) (zero_of plant.atoms plant.wires states i) (first_over plant states interactions n) ∙
        ap (λ b. b && is_none (first_over plant states interactions n)) (possible-known plant.atoms plant.wires states i ∙ sym possible-there) ∙
        ap (λ b. possible n && b) (none-over n)

    pub none-of : reason_among plant states interactions n ≡ None ↔ (is_allowed_at plant states interactions n ≡ true)
    none-of = (
      λ none. sym none-allowed ∙ ap is_none none,
      λ allowed. none-is (reason_among plant states interactions n) (none-allowed ∙ allowed),
    )

-- a number is 0 if it does not count as true
pub zero-is : (z : ℤ) → not (is_true z) ≡ true → z ≡ pos 0
zero-is z zero = (Decides-int_eq z (pos 0)).0 (not-not (int_eq z (pos 0)) zero)
  where
    not-not : (b : Bool) → not (not b) ≡ true → b ≡ true
    not-not true known = refl
    not-not false known = absurd (false≢true known)

module _ (plant : PlantDefinition) (states : List Local) where
  abbrev all : List Interaction
  all = plant_interactions plant

  -- a clause that is named is a zero clause
  zero-right : (i : Interaction) (k : ℕ) → zero_of plant.atoms plant.wires states i ≡ Some k → IsZeroClause plant states i k
  zero-right i k known = each (slice_get plant.wires i.connector) refl known
    where
      each : (o : Option WireDefinition) → slice_get plant.wires i.connector ≡ o → option_map_or (λ w. first_zero plant.atoms states (leaves w.connector) i.mask w.guards) o None ≡ Some k → IsZeroClause plant states i k
      each None there is = absurd (none-some k is)
      each (Some w) there is =
          let found = placed-passes (is_zero_clause plant.atoms states (leaves w.connector) i.mask) 0 w.guards k is in
          let place : found.0 ≡ k = omega (arith, found.2) in
          let passes = and_parts (clause_applies i.mask found.1) _ found.4 in
          record {
            wire = w;
            clause = found.1;
            connector = there;
            written = ap (slice_get w.guards) (sym place) ∙ found.3;
            applies = passes.0;
            zero = zero-is _ passes.1;
          }

  module _ (n : ℕ) (i : Interaction) (there : slice_get all n ≡ Some i) where
    -- the reason of an interaction is right
    pub right : (r : Reason) → reason_of plant states n ≡ Some r → IsRight plant states n i r
    right r known =
        each (first_idle plant.atoms states i.ports) refl (zero_of plant.atoms plant.wires states i) refl (first_over plant states all n) refl r
        (sym (reason-there plant states all n i there) ∙ known)
      where
        each : (a : Option Port) → first_idle plant.atoms states i.ports ≡ a → (b : Option ℕ) → zero_of plant.atoms plant.wires states i ≡ b → (c : Option ℕ) → first_over plant states all n ≡ c
            → (r : Reason) → option_or (option_map NotOffered a) (option_or (option_map GuardIsZero b) (option_map GivesWay c)) ≡ Some r → IsRight plant states n i r
        each (Some p) idle b zero c over r is =
            let found = found-passes (λ q. not (is_offered_port plant.atoms states q)) i.ports p idle in
            subst (IsRight plant states n i) (same_Some (NotOffered p) r is) (found.0, not-true (is_offered_port plant.atoms states p) found.1)
          where
            not-true : (b : Bool) → not b ≡ true → b ≡ false
            not-true true known = absurd (false≢true known)
            not-true false known = refl
        each None idle (Some k) zero c over r is =
            subst (IsRight plant states n i) (same_Some (GuardIsZero k) r is) (zero-right i k zero)
        each None idle None zero (Some m) over r is =
            let found = found-passes (is_over plant states all n) (range_with_len 0 (length all)) m over in
            let passes = and_parts (is_possible_at plant.atoms plant.wires states all m) (is_below (active_in plant states) (map named all) n m) found.1 in
            let both : (is_none (first_idle plant.atoms states i.ports) && is_none (zero_of plant.atoms plant.wires states i)) ≡ true =
            ap (λ o. is_none o && is_none (zero_of plant.atoms plant.wires states i)) idle ∙ ap is_none zero in
            subst (IsRight plant states n i) (same_Some (GivesWay m) r is) (
              possible-there plant states all n i there ∙ sym (possible-known plant.atoms plant.wires states i) ∙ both,
              passes.0,
              (decides_below (active_in plant states) (map named all) n m).0 passes.1,
            )
        each None idle None zero None over r is = absurd (none-some r is)
