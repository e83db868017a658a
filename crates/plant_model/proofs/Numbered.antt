-- Expressions with each variable as its place in a list of those that they name.
use Rattle.std.proofs.Common.{◌≡◌, ℕ, suc, ℤ, pos, ◌+◌, ◌<◌, ◌≤◌, refl, sym, ◌∙◌, ap, List, [], ◌∷◌, ◌++◌, length, get_or, Bool, true, false, cond, not, ◌||◌, ◌==◌, ⊎_elim, arith}
use Rattle.std.specs.Prelude.{Option, Some, None, is_some, slice_get, nat_lt}
use Rattle.std.specs.List.{list_any, position, position_or_len}
use Rattle.std.specs.Option.{option_map_or}
use Rattle.std.proofs.lemmas.Bool.{and_from, and_parts, cases_Bool, cases_lt, eqb-true, eq-eqb, false≢true, le-ltb, lt-ltb, or_left, or_right}
use Rattle.std.proofs.lemmas.List.Folds.{list_any-append}
use Rattle.std.proofs.lemmas.List.Quantifiers.{position-Some}
use Rattle.std.proofs.lemmas.Option.{slice_get-get_or}
use Rattle.petri_atom.specs.Expression.{Tree, number, variable, negation, operation, has_variables_below, is_true, operated, truth, value_of, word_count}
use Rattle.plant_model.specs.Numbering.{are_listed, are_same, is_listed, listed, listed_variable, numbered, place_in}
use Rattle.plant_model.specs.declared.bound_expressions.AtomVariable.{AtomVariable}

-- variables that are the same are equal
same-equal : (v w : AtomVariable) → are_same v w ≡ true → v ≡ w
same-equal v w same =
    let parts = and_parts (v.atom == w.atom) (v.variable == w.variable) same in
    ap (λ a. record { atom = a; variable = v.variable }) (eqb-true v.atom w.atom parts.0) ∙
    ap (λ k. record { atom = w.atom; variable = k }) (eqb-true v.variable w.variable parts.1)

same-self : (v : AtomVariable) → are_same v v ≡ true
same-self v = and_from (v.atom == v.atom) (v.variable == v.variable) (eq-eqb v.atom v.atom refl) (eq-eqb v.variable v.variable refl)

-- at the place of a variable stands that variable
pub at-place : (list : List AtomVariable) (v : AtomVariable) (k : ℕ) → place_in list v ≡ Some k → slice_get list k ≡ Some v
at-place list v k at =
    let found = position-Some (are_same v) list k v at in
    slice_get-get_or list k v found.0 ∙ ap Some (sym (same-equal v (get_or list k v) found.1))

pub place-within : (list : List AtomVariable) (v : AtomVariable) (k : ℕ) → place_in list v ≡ Some k → k < length list
place-within list v k at = (position-Some (are_same v) list k v at).0

-- with its variables as their places an expression has the value that it has with those that stand there
pub numbered-value : (list : List AtomVariable) (at : AtomVariable → ℤ) (row : ℕ → ℤ) → ((k : ℕ) (v : AtomVariable) → slice_get list k ≡ Some v → row k ≡ at v)
    → (e : Tree AtomVariable) → are_listed list e ≡ true → value_of row (numbered list e) ≡ value_of at e
numbered-value list at row same (number n) known = refl
numbered-value list at row same (variable v) known = each (place_in list v) refl
  where
    each : (o : Option ℕ) → place_in list v ≡ o → value_of row (numbered list (variable v)) ≡ at v
    each None none = absurd (false≢true (sym (ap is_some none) ∙ known))
    each (Some k) there = ap (λ o. value_of row (option_map_or variable o (number (pos 0)))) there ∙ same k v (at-place list v k there)
numbered-value list at row same (negation e) known = ap (λ z. truth (not (is_true z))) (numbered-value list at row same e known)
numbered-value list at row same (operation op e f) known =
    let parts = and_parts (are_listed list e) (are_listed list f) known in
    ap (λ z. operated op z (value_of row (numbered list f))) (numbered-value list at row same e parts.0) ∙
    ap (operated op (value_of at e)) (numbered-value list at row same f parts.1)

-- it has as many words
pub numbered-words : (list : List AtomVariable) (e : Tree AtomVariable) → word_count (numbered list e) ≡ word_count e
numbered-words list (number n) = refl
numbered-words list (variable v) = each (place_in list v)
  where
    each : (o : Option ℕ) → word_count (option_map_or variable o (number (pos 0))) ≡ 1
    each None = refl
    each (Some k) = refl
numbered-words list (negation e) = ap (λ n. 1 + n) (numbered-words list e)
numbered-words list (operation op e f) = ap (λ n. 1 + n + word_count (numbered list f)) (numbered-words list e) ∙ ap (λ n. 1 + word_count e + n) (numbered-words list f)

-- and no variable from the list's length on
pub numbered-below : (list : List AtomVariable) (bound : ℕ) → length list ≤ bound → (e : Tree AtomVariable) → has_variables_below bound (numbered list e) ≡ true
numbered-below list bound long (number n) = refl
numbered-below list bound long (variable v) = each (place_in list v) refl
  where
    each : (o : Option ℕ) → place_in list v ≡ o → has_variables_below bound (option_map_or variable o (number (pos 0))) ≡ true
    each None none = refl
    each (Some k) there = lt-ltb k bound (omega (arith, long, place-within list v k there))
numbered-below list bound long (negation e) = numbered-below list bound long e
numbered-below list bound long (operation op e f) =
    and_from (has_variables_below bound (numbered list e)) (has_variables_below bound (numbered list f)) (numbered-below list bound long e) (numbered-below list bound long f)

-- ---- the list of the variables of an expression

-- a list has an element that passes a test where there is a place of the first one
module _ {X : Type 0} (p : X → Bool) where
  before-end : (xs : List X) → nat_lt (position_or_len p xs) (length xs) ≡ list_any p xs
  before-end [] = refl
  before-end (x ∷ xs) =
      ⊎_elim
      (λ yes_. ap here yes_ ∙ lt-ltb 0 (suc (length xs)) (omega arith) ∙ sym (ap (λ b. b || list_any p xs) yes_))
      (λ no. ap here no ∙ one-more (position_or_len p xs) (length xs) ∙ before-end xs ∙ sym (ap (λ b. b || list_any p xs) no))
      (cases_Bool (p x))
    where
      here : Bool → Bool
      here b = nat_lt (cond (not b) (1 + position_or_len p xs) 0) (suc (length xs))

      one-more : (m n : ℕ) → nat_lt (1 + m) (suc n) ≡ nat_lt m n
      one-more m n =
          ⊎_elim
          (λ less. lt-ltb (1 + m) (suc n) (omega (arith, less)) ∙ sym (lt-ltb m n less))
          (λ past. le-ltb (1 + m) (suc n) (omega (arith, past)) ∙ sym (le-ltb m n past))
          (cases_lt m n)

  some-place : (xs : List X) → is_some (position p xs) ≡ list_any p xs
  some-place xs = either (nat_lt (position_or_len p xs) (length xs)) (position_or_len p xs) ∙ before-end xs
    where
      either : (b : Bool) (k : ℕ) → is_some (cond b (Some k) None) ≡ b
      either true k = refl
      either false k = refl

-- what is in a list stays in it when more is listed, and each variable of the expression is in it then
stays-behind : (list : List AtomVariable) (w v : AtomVariable) → is_listed list v ≡ true → is_listed (list ++ w ∷ []) v ≡ true
stays-behind list w v there =
    some-place (are_same v) (list ++ w ∷ []) ∙ list_any-append (are_same v) list (w ∷ []) ∙
    or_left (list_any (are_same v) list) (list_any (are_same v) (w ∷ [])) (sym (some-place (are_same v) list) ∙ there)

last-listed : (list : List AtomVariable) (v : AtomVariable) → is_listed (list ++ v ∷ []) v ≡ true
last-listed list v =
    some-place (are_same v) (list ++ v ∷ []) ∙ list_any-append (are_same v) list (v ∷ []) ∙
    or_right (list_any (are_same v) list) (list_any (are_same v) (v ∷ [])) (or_left (are_same v v) false (same-self v))

stays-one : (list : List AtomVariable) (w v : AtomVariable) → is_listed list v ≡ true → is_listed (listed_variable list w) v ≡ true
stays-one list w v there =
    ⊎_elim
    (λ yes_. ap (λ b. is_listed (cond b list (list ++ w ∷ [])) v) yes_ ∙ there)
    (λ no. ap (λ b. is_listed (cond b list (list ++ w ∷ [])) v) no ∙ stays-behind list w v there)
    (cases_Bool (is_listed list w))

stays-listed : (e : Tree AtomVariable) (list : List AtomVariable) (v : AtomVariable) → is_listed list v ≡ true → is_listed (listed list e) v ≡ true
stays-listed (number n) list v there = there
stays-listed (variable w) list v there = stays-one list w v there
stays-listed (negation e) list v there = stays-listed e list v there
stays-listed (operation op e f) list v there = stays-listed f (listed list e) v (stays-listed e list v there)

-- an expression whose variables are in a list has them in each list that has all of that
more-listed : (small large : List AtomVariable) → ((v : AtomVariable) → is_listed small v ≡ true → is_listed large v ≡ true) → (e : Tree AtomVariable) → are_listed small e ≡ true → are_listed large e ≡ true
more-listed small large more (number n) known = refl
more-listed small large more (variable v) known = more v known
more-listed small large more (negation e) known = more-listed small large more e known
more-listed small large more (operation op e f) known =
    let parts = and_parts (are_listed small e) (are_listed small f) known in
    and_from (are_listed large e) (are_listed large f) (more-listed small large more e parts.0) (more-listed small large more f parts.1)

pub all-listed : (e : Tree AtomVariable) (list : List AtomVariable) → are_listed (listed list e) e ≡ true
all-listed (number n) list = refl
all-listed (variable v) list =
    ⊎_elim
    (λ yes_. ap (λ b. is_listed (cond b list (list ++ v ∷ [])) v) yes_ ∙ yes_)
    (λ no. ap (λ b. is_listed (cond b list (list ++ v ∷ [])) v) no ∙ last-listed list v)
    (cases_Bool (is_listed list v))
all-listed (negation e) list = all-listed e list
all-listed (operation op e f) list =
    and_from (are_listed (listed (listed list e) f) e) (are_listed (listed (listed list e) f) f)
    (more-listed (listed list e) (listed (listed list e) f) (stays-listed f (listed list e)) e (all-listed e list))
    (all-listed f (listed list e))
