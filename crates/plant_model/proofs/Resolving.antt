-- Clauses and transfers with their variables found say what they say as they were written.
use Rattle.std.proofs.Common.{◌≡◌, ℕ, ◌<◌, ◌≤◌, ◌^◌, refl, sym, ◌∙◌, ap, subst, List, [], ◌∷◌, map, arith, Bool, true, false, cond, not, ◌&&◌, ◌||◌, ◌==◌, eqb, ℤ, pos, ⊎_elim, lit<}
use Rattle.std.specs.Prelude.{Option, Some, None, slice_get, option_map, find, bit_and, bit_or, if◌then◌else◌}
use Rattle.std.specs.Int.Bits.{and_lt}
use Rattle.std.specs.List.{list_all}
use Rattle.std.specs.Option.{option_map_or}
use Rattle.std.proofs.lemmas.Bool.{cases_lt, cases_eq, false≢true, and_parts, and_from, or_cases, or_left, or_right, eqb-true, eq-eqb, ne_eqb, lt-ltb, le-ltb, false_from_ne_true}
use Rattle.std.proofs.lemmas.Nat.{or_lt, pow_below}
use Rattle.std.proofs.lemmas.Nat.Bits.{bit_at-pow_same, bit_at-pow_other}
use Rattle.petri_atom.specs.Expression.{Tree, number, variable, negation, operation, all_variables, is_true, operated, truth, value_of}
use Rattle.petri_atom.specs.Local.{Local, has, value_in}
use Rattle.petri_atom.specs.Definition.{AtomDefinition, exported_value, exports_of}
use Rattle.petri_atom.proofs.Markings.{same_answer}
use Rattle.petri_atom.proofs.Sets.{has-and, has-or, has-above, same_set}
use Rattle.connector_tree.specs.Masks.{is_set}
use Rattle.connector_tree.specs.declared.tree.Port.{Port}
use Rattle.plant_model.specs.Exports.{exported_at, value_at, takes_part, guards_hold}
use Rattle.plant_model.specs.Plant.{TransferDefinition}
use Rattle.plant_model.specs.BoundExpressions.{variable_of_port, variable_of, found, leaf_bit, leaves_in, has_all, DeliveryDefinition, clause_by, delivery_by, clause_holds, is_for, value_for, given_for}
use Rattle.plant_model.specs.Values.{value_there}
use Rattle.plant_model.specs.Step.{applies, is_to, value_to, delivered_by}
use Rattle.plant_model.specs.declared.bound_expressions.AtomVariable.{AtomVariable}
use Rattle.plant_model.specs.declared.wire.Export.{Export}
use Rattle.plant_model.proofs.FirstFault.{both}
use Rattle.plant_model.proofs.ValueRows.{four-values}

-- ---- values

module _ (atoms : List AtomDefinition) (ports : List Port) (states : List Local) where
  -- the value of a variable that a port exports
  at-export : (p : Port) (export : ℕ) (o : Option ℕ) (s : Option Local) → slice_get states p.atom ≡ s → option_map_or (value_there states) (option_map (λ v. record { atom = p.atom; variable = v }) o) (pos 0) ≡ option_map_or (λ s. option_map_or (value_in s.values) o (pos 0)) s (pos 0)
  at-export p export None None here = refl
  at-export p export None (Some s) here = refl
  at-export p export (Some v) s here = ap (λ x. option_map_or (λ s. value_in s.values v) x (pos 0)) here

  at-port : (p : Port) (export : ℕ) (o : Option AtomDefinition) → option_map_or (value_there states) (option_map_or (λ a. option_map (λ v. record { atom = p.atom; variable = v }) (slice_get (exports_of a p.port) export)) o None) (pos 0) ≡ option_map_or (λ a. option_map_or (λ s. exported_value a s p.port export) (slice_get states p.atom) (pos 0)) o (pos 0)
  at-port p export None = refl
  at-port p export (Some a) = at-export p export (slice_get (exports_of a p.port) export) (slice_get states p.atom) refl

  at-leaf : (export : ℕ) (o : Option Port) → option_map_or (value_there states) (option_map_or (λ p. variable_of_port atoms p export) o None) (pos 0) ≡ option_map_or (λ p. exported_at atoms states p export) o (pos 0)
  at-leaf export None = refl
  at-leaf export (Some p) = at-port p export (slice_get atoms p.atom)

  -- an expression with its variables found has its value
  pub value-found : (t : Tree Export) → value_of (value_there states) (found atoms ports t) ≡ value_of (value_at atoms states ports) t
  value-found (number n) = refl
  value-found (variable e) = as-value (variable_of atoms ports e) ∙ at-leaf e.export (slice_get ports e.leaf)
    where
      as-value : (o : Option AtomVariable) → value_of (value_there states) (option_map_or variable o (number (pos 0))) ≡ option_map_or (value_there states) o (pos 0)
      as-value None = refl
      as-value (Some v) = refl
  value-found (negation e) = ap (λ v. truth (not (is_true v))) (value-found e)
  value-found (operation op e f) =
      ap (λ v. operated op v (value_of (value_there states) (found atoms ports f))) (value-found e) ∙
      ap (operated op (value_of (value_at atoms states ports) e)) (value-found f)

-- ---- leaves

-- a test that another one implies may be left out beside it
absorbed : (x y : Bool) → (y ≡ true → x ≡ true) → (x && y) ≡ y
absorbed true y implied = refl
absorbed false true implied = implied refl
absorbed false false implied = refl

has-one : (n k : ℕ) → has (2 ^ n) k ≡ eqb k n
has-one n k =
    ⊎_elim (λ same. ap (has (2 ^ n)) same ∙ ap (λ x. eqb x 1) (bit_at-pow_same n) ∙ sym (eq-eqb k n same))
    (λ other. ap (λ x. eqb x 1) (bit_at-pow_other n k other) ∙ sym (ne_eqb k n other)) (cases_eq k n)

-- a set of leaves is a number of 17 bits
leaf_bit-low : (leaf : ℕ) → leaf < 16 → leaf_bit leaf ≡ 2 ^ leaf
leaf_bit-low leaf low = ap (λ b. if b then 2 ^ leaf else 2 ^ 16) (lt-ltb leaf 16 low)

leaf_bit-high : (leaf : ℕ) → 16 ≤ leaf → leaf_bit leaf ≡ 2 ^ 16
leaf_bit-high leaf high = ap (λ b. if b then 2 ^ leaf else 2 ^ 16) (le-ltb leaf 16 high)

leaf_bit-small : (leaf : ℕ) → leaf_bit leaf < 2 ^ 17
leaf_bit-small leaf =
    ⊎_elim (λ low. subst (λ x. x < 2 ^ 17) (sym (leaf_bit-low leaf low)) (pow_below leaf 17 (omega (arith, low))))
    (λ high. subst (λ x. x < 2 ^ 17) (sym (leaf_bit-high leaf high)) (pow_below 16 17 (lit< tt))) (cases_lt leaf 16)

leaves-small : (t : Tree Export) → leaves_in t < 2 ^ 17
leaves-small (number n) = lit< tt
leaves-small (variable e) = leaf_bit-small e.leaf
leaves-small (negation e) = leaves-small e
leaves-small (operation op e f) = or_lt 17 (leaves_in e) (leaves_in f) (leaves-small e) (leaves-small f)

-- all of a set take part exactly where each of it does
part-of : (m a k : ℕ) → has_all m a ≡ true → has a k ≡ true → has m k ≡ true
part-of m a k all inside =
    (and_parts (has m k) (has a k) (sym (has-and m a k) ∙ ap (λ w. has w k) (eqb-true (bit_and m a) a all) ∙ inside)).0

all-from : (m a : ℕ) → m < 2 ^ 17 → a < 2 ^ 17 → ((k : ℕ) → has a k ≡ true → has m k ≡ true) → has_all m a ≡ true
all-from m a small low each =
    eq-eqb (bit_and m a) a (same_set 17 (bit_and m a) a (and_lt 17 m a small low) low (λ k below. has-and m a k ∙ absorbed (has m k) (has a k) (each k)))

module _ (m : ℕ) (small : m < 2 ^ 16) where
  wide : m < 2 ^ 17
  wide = omega (arith, small)

  has_all-or : (a b : ℕ) → a < 2 ^ 17 → b < 2 ^ 17 → has_all m (bit_or a b) ≡ (has_all m a && has_all m b)
  has_all-or a b p q = same_answer (has_all m (bit_or a b)) (has_all m a && has_all m b) forth back
    where
      forth : has_all m (bit_or a b) ≡ true → (has_all m a && has_all m b) ≡ true
      forth all =
          and_from (has_all m a) (has_all m b)
          (all-from m a wide p (λ k inside. part-of m (bit_or a b) k all (has-or a b k ∙ or_left (has a k) (has b k) inside)))
          (all-from m b wide q (λ k inside. part-of m (bit_or a b) k all (has-or a b k ∙ or_right (has a k) (has b k) inside)))

      back : (has_all m a && has_all m b) ≡ true → has_all m (bit_or a b) ≡ true
      back parts =
          let each = and_parts (has_all m a) (has_all m b) parts in
          all-from m (bit_or a b) wide (or_lt 17 a b p q)
          (λ k inside. ⊎_elim (λ one. part-of m a k each.0 one) (λ other. part-of m b k each.1 other)
          (or_cases (has a k) (has b k) (sym (has-or a b k) ∙ inside)))

  has_all-none : has_all m 0 ≡ true
  has_all-none = all-from m 0 wide (lit< tt) (λ k inside. absurd (false≢true (sym (has-above 0 0 k (lit< tt) (omega arith)) ∙ inside)))

  has_all-leaf : (leaf : ℕ) → has_all m (leaf_bit leaf) ≡ is_set m leaf
  has_all-leaf leaf = ⊎_elim low high (cases_lt leaf 16)
    where
      low : leaf < 16 → has_all m (leaf_bit leaf) ≡ is_set m leaf
      low below =
          ap (has_all m) (leaf_bit-low leaf below) ∙
          same_answer (has_all m (2 ^ leaf)) (is_set m leaf)
          (λ all. part-of m (2 ^ leaf) leaf all (has-one leaf leaf ∙ eq-eqb leaf leaf refl))
          (λ inside. all-from m (2 ^ leaf) wide (pow_below leaf 17 (omega (arith, below))) (λ k its. ap (has m) (eqb-true k leaf (sym (has-one leaf k) ∙ its)) ∙ inside))

      high : 16 ≤ leaf → has_all m (leaf_bit leaf) ≡ is_set m leaf
      high above =
          ap (has_all m) (leaf_bit-high leaf above) ∙
          false_from_ne_true (has_all m (2 ^ 16)) (λ all. false≢true (sym (has-above m 16 16 small (omega arith)) ∙ part-of m (2 ^ 16) 16 all (has-one 16 16))) ∙
          sym (has-above m 16 leaf small above)

  -- the leaves of an expression take part exactly where those of its variables do
  pub has_all-leaves : (t : Tree Export) → has_all m (leaves_in t) ≡ all_variables (takes_part m) t
  has_all-leaves (number n) = has_all-none
  has_all-leaves (variable e) = has_all-leaf e.leaf
  has_all-leaves (negation e) = has_all-leaves e
  has_all-leaves (operation op e f) =
      has_all-or (leaves_in e) (leaves_in f) (leaves-small e) (leaves-small f) ∙ both (has_all-leaves e) (has_all-leaves f)

  module _ (atoms : List AtomDefinition) (ports : List Port) (states : List Local) where
    -- the clauses hold exactly where those that were written do
    pub clauses-found : (ts : List (Tree Export)) → list_all (clause_holds states m) (map (clause_by atoms ports) ts) ≡ guards_hold atoms states ports m ts
    clauses-found [] = refl
    clauses-found (t ∷ ts) =
        both (ap (λ b. not b || is_true (value_of (value_there states) (found atoms ports t))) (has_all-leaves t) ∙
        ap (λ v. not (all_variables (takes_part m) t) || is_true v) (value-found atoms ports states t)) (clauses-found ts)

    -- a delivery is to a variable exactly where its transfer is
    module _ (atom export : ℕ) where
      its-target : (t : TransferDefinition) → is_for atom export (delivery_by atoms ports t) ≡ is_to ports atom export t.target
      its-target t = each (slice_get ports t.target.leaf)
        where
          each : (o : Option Port) → (t.target.export == export && option_map_or (λ a. a == atom) (option_map (λ p. p.atom) o) false) ≡ (t.target.export == export && option_map_or (λ p. p.atom == atom) o false)
          each None = refl
          each (Some p) = refl

      its-leaves : (t : TransferDefinition) → has_all m (delivery_by atoms ports t).leaves ≡ applies m t
      its-leaves t =
          has_all-or (leaf_bit t.target.leaf) (leaves_in t.value) (leaf_bit-small t.target.leaf) (leaves-small t.value) ∙
          both (has_all-leaf t.target.leaf) (has_all-leaves t.value)

      pub value_for-found : (ts : List TransferDefinition) → value_for states (map (delivery_by atoms ports) ts) m atom export ≡ value_to atoms states ports ts m atom export
      value_for-found [] = refl
      value_for-found (t ∷ ts) =
          ap (λ b. read (cond b (Some (delivery_by atoms ports t)) (find wanted (map (delivery_by atoms ports) ts)))) (both (its-leaves t) (its-target t)) ∙
          each (value_for-found ts) (applies m t && is_to ports atom export t.target)
        where
          wanted : DeliveryDefinition → Bool
          wanted d = has_all m d.leaves && is_for atom export d

          asked : TransferDefinition → Bool
          asked s = applies m s && is_to ports atom export s.target

          read : Option DeliveryDefinition → Option ℤ
          read o = option_map (λ d. value_of (value_there states) d.value) o

          written : Option TransferDefinition → Option ℤ
          written o = option_map (λ s. value_of (value_at atoms states ports) s.value) o

          each : read (find wanted (map (delivery_by atoms ports) ts)) ≡ written (find asked ts) → (b : Bool) → read (cond b (Some (delivery_by atoms ports t)) (find wanted (map (delivery_by atoms ports) ts))) ≡ written (cond b (Some t) (find asked ts))
          each later true = ap Some (value-found atoms ports states t.value)
          each later false = later

    -- and an atom gets the same
    pub given-found : (ts : List TransferDefinition) (atom : ℕ) → given_for states (map (delivery_by atoms ports) ts) m atom ≡ delivered_by atoms states ports ts m atom
    given-found ts atom =
        four-values (value_for-found atom 0 ts) (value_for-found atom 1 ts) (value_for-found atom 2 ts) (value_for-found atom 3 ts)
