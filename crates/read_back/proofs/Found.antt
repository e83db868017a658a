-- Where a part stands that is sought by its name, or by its number.
use Rattle.std.proofs.Common.{◌≡◌, ◌∙◌, refl, sym, ap, ⊎_elim, ℕ, zero, suc, ◌<◌, Bool, true, false, not, cond, List, [], ◌∷◌, length, get_or, Option, Some, None, position, slice_get, nat_lt, ◌==◌, lt-ltb, eq-eqb, ne_eqb, arith}
use Rattle.std.specs.Cmp.Lexicographic.{nat_list_eq_equiv}
use Rattle.std.specs.List.{list_any, position_or_len}
use Rattle.std.specs.Option.{option_map_or}
use Rattle.std.proofs.lemmas.Bool.{and_parts, or_parts, not-true, cases_order, false≢true}
use Rattle.std.proofs.lemmas.List.Sums.{position_or_len_is}
use Rattle.std.proofs.lemmas.Option.{none-some, same_Some, slice_get-get_or, slice_get_within, get_or_from_slice_get}
use Rattle.std.proofs.lemmas.Slice.Eq.{bytes_eq-Decides}
use Rattle.petri_atom.specs.Definition.{is_each_once}
use Rattle.petri_atom.specs.Name.{is_name, is_same_text}
use Rattle.petri_atom.proofs.Fitting.{all_get}
use Rattle.connector_tree.specs.Faults.{has_repeat, atoms}
use Rattle.connector_tree.specs.declared.tree.Port.{Port}
use Rattle.plant_model.proofs.OfInteractions.{apart as ports_apart}
use Rattle.read_back.specs.Names.{are_named}
use Rattle.read_back.proofs.Bytes.{IsOfName, name_parts}

-- ---- elements

-- there is an element at each place below the length
pub there_at : {X : Type 0} (xs : List X) (k : ℕ) → k < length xs → (x : X) × (slice_get xs k ≡ Some x)
there_at [] k within = absurd (omega (arith, within))
there_at (x ∷ xs) zero within = (x, refl)
there_at (x ∷ xs) (suc k) within = there_at xs k (omega (arith, within))

-- what passes a test is there
pub passing : {X : Type 0} (test : X → Bool) (found : Option X) → option_map_or test found false ≡ true → (x : X) × (found ≡ Some x) × (test x ≡ true)
passing test None passes = absurd (false≢true passes)
passing test (Some x) passes = (x, refl, passes)

-- if none passes, none at a place does
none_at : {X : Type 0} (test : X → Bool) (xs : List X) (k : ℕ) (x : X) → list_any test xs ≡ false → slice_get xs k ≡ Some x → test x ≡ false
none_at test [] k x none there = absurd (none-some x there)
none_at test (y ∷ ys) zero x none there = ap test (sym (same_Some y x there)) ∙ (or_parts (test y) (list_any test ys) none).0
none_at test (y ∷ ys) (suc k) x none there = none_at test ys k x (or_parts (test y) (list_any test ys) none).1 there

-- the first that passes is the one at a place, where it does and none before it
pub first_at : {X : Type 0} (test : X → Bool) (xs : List X) (k : ℕ) (x : X) → slice_get xs k ≡ Some x → test x ≡ true →
    ((j : ℕ) (y : X) → j < k → slice_get xs j ≡ Some y → test y ≡ false) → position test xs ≡ Some k
first_at test xs k x there passes before =
    let within : k < length xs = slice_get_within xs k x there in
    let place : position_or_len test xs ≡ k =
    position_or_len_is test xs k x (omega (arith, within))
    (λ j less. before j (get_or xs j x) less (slice_get-get_or xs j x (omega (arith, less, within))))
    (λ inside. ap test (get_or_from_slice_get xs k x x there) ∙ passes) in
    ap (λ (j : ℕ). cond (nat_lt j (length xs)) (Some j) None) place ∙ ap (λ (b : Bool). cond b (Some k) None) (lt-ltb k (length xs) within)

-- ---- elements of which each stands once

pub differ_at : {X : Type 0} (same : X → X → Bool) (xs : List X) (j k : ℕ) (y x : X) → is_each_once same xs ≡ true → j < k →
    slice_get xs j ≡ Some y → slice_get xs k ≡ Some x → same x y ≡ false
differ_at same [] j k y x once less at there = absurd (none-some y at)
differ_at same (z ∷ zs) zero zero y x once less at there = absurd (omega (arith, less))
differ_at same (z ∷ zs) zero (suc k) y x once less at there =
    let parts = and_parts (not (list_any (λ w. same w z) zs)) (is_each_once same zs) once in
    ap (same x) (sym (same_Some z y at)) ∙ none_at (λ w. same w z) zs k x (not-true (list_any (λ w. same w z) zs) parts.0) there
differ_at same (z ∷ zs) (suc j) zero y x once less at there = absurd (omega (arith, less))
differ_at same (z ∷ zs) (suc j) (suc k) y x once less at there =
    differ_at same zs j k y x (and_parts (not (list_any (λ w. same w z) zs)) (is_each_once same zs) once).1 (omega (arith, less)) at there

-- ---- names

pub same_text_itself : (text : List ℕ) → is_same_text text text ≡ true
same_text_itself text = (bytes_eq-Decides text text).1 refl

module _ {X : Type 0} (name_of : X → List ℕ) (parts : List X) (named : are_named name_of parts ≡ true) where
  -- a part has a name
  pub named_at : (k : ℕ) (x : X) → slice_get parts k ≡ Some x → IsOfName (name_of x)
  named_at k x there = name_parts (name_of x) (all_get (λ y. is_name (name_of y)) parts k x (and_parts _ _ named).0 there)

  -- and another part has another one
  pub other_name : (j k : ℕ) (y x : X) → (j ≡ k → ⊥) → slice_get parts j ≡ Some y → slice_get parts k ≡ Some x → is_same_text (name_of y) (name_of x) ≡ false
  other_name j k y x differ at there =
      let once = (and_parts _ _ named).1 in
      ⊎_elim
      (λ same. absurd (differ same))
      (λ apart. ⊎_elim
      (λ less. nat_list_eq_equiv.symm (name_of y) (name_of x) ∙ differ_at (λ a b. is_same_text (name_of a) (name_of b)) parts j k y x once less at there)
      (λ more. differ_at (λ a b. is_same_text (name_of a) (name_of b)) parts k j x y once more there at)
      apart)
      (cases_order j k)

  -- so it is found by its name
  pub found_by_name : (k : ℕ) (x : X) → slice_get parts k ≡ Some x → position (λ y. is_same_text (name_of y) (name_of x)) parts ≡ Some k
  found_by_name k x there =
      first_at (λ y. is_same_text (name_of y) (name_of x)) parts k x there (same_text_itself (name_of x))
      (λ j y less at. other_name j k y x (λ same. omega (arith, less, same)) at there)

-- ---- ports

-- a leaf is found by its atom, if no other is of that atom
pub leaf_found : (ports : List Port) (k : ℕ) (p : Port) → has_repeat (atoms ports) ≡ false → slice_get ports k ≡ Some p → position (λ q. q.atom == p.atom) ports ≡ Some k
leaf_found ports k p unique there =
    let atom_of : Port → ℕ = λ q. q.atom in
    first_at (λ q. q.atom == p.atom) ports k p there (eq-eqb p.atom p.atom refl)
    (λ j q less at. ne_eqb q.atom p.atom (λ same.
    ports_apart ports unique j k p less (slice_get_within ports k p there)
    (ap atom_of (get_or_from_slice_get ports j q p at) ∙ same ∙ sym (ap atom_of (get_or_from_slice_get ports k p p there)))))
