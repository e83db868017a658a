-- Code beside what it is the code of, one by one: how such a list grows, what its updates leave, and which expressions have code.
use Rattle.std.proofs.Common.{◌≡◌, ℕ, zero, suc, ℤ, ◌+◌, ◌<◌, ◌≤◌, Bool, true, ◌&&◌, leb, refl, sym, ◌∙◌, ap, arith, List, [], ◌∷◌, ◌++◌, length, drop, Some, subst, ◌⊎◌, inl, inr, ⊎_elim, add-one}
use Rattle.std.specs.Prelude.{slice_get, slice_set}
use Rattle.std.specs.List.{list_all}
use Rattle.std.proofs.lemmas.Bool.{and_parts, and_from, ltb-true, lt-ltb, leb-true}
use Rattle.std.proofs.lemmas.List.{length-append}
use Rattle.std.proofs.lemmas.Option.{same_Some, none-some}
use Rattle.petri_atom.specs.Definition.{AtomDefinition, TransitionDefinition, UpdateDefinition, updated, is_well_formed, is_within_limits, is_small_transition, is_small_value, has_each_once, has_known_numbers, has_known_numbers_in, has_known_variables, has_sources_and_targets}
use Rattle.petri_atom.specs.Expression.{Tree, number, variable, negation, operation, value_of, word_count, has_variables_below}
use Rattle.petri_atom.specs.StraightCode.{is_codable, is_codable_update, is_codable_transition}
use Rattle.petri_atom.proofs.Fitting.{known_numbers}
use Rattle.petri_atom.specs.Local.{value_in}

-- a list has what is related to the first so many of another one, one by one
abbrev pub AreFirst : {X Y : Type 0} → (X → Y → Type 0) → ℕ → List X → List Y → Type 0
AreFirst {X} {Y} related count xs ys =
    (length xs ≡ count) ×
    ((n : ℕ) (x : X) (y : Y) → slice_get xs n ≡ Some x → slice_get ys n ≡ Some y → related x y)

length-snoc : {X : Type 0} (xs : List X) (x : X) → length (xs ++ x ∷ []) ≡ length xs + 1
length-snoc xs x = length-append xs (x ∷ [])

get-snoc : {X : Type 0} (xs : List X) (x : X) (n : ℕ) (y : X) → slice_get (xs ++ x ∷ []) n ≡ Some y → (slice_get xs n ≡ Some y) ⊎ ((n ≡ length xs) × (x ≡ y))
get-snoc [] x zero y at = inr (refl, same_Some x y at)
get-snoc [] x (suc n) y at = absurd (none-some y at)
get-snoc (z ∷ zs) x zero y at = inl at
get-snoc (z ∷ zs) x (suc n) y at = ⊎_elim (λ here. inl here) (λ last. inr (ap suc last.0, last.1)) (get-snoc zs x n y at)

-- one more is related to the next one
pub first-more : {X Y : Type 0} (related : X → Y → Type 0) (count : ℕ) (xs : List X) (ys : List Y) (x : X) → AreFirst related count xs ys → ((y : Y) → slice_get ys count ≡ Some y → related x y) → AreFirst related (count + 1) (xs ++ x ∷ []) ys
first-more related count xs ys x first next = (
  length-snoc xs x ∙ ap (λ n. n + 1) first.0,
  λ n z y there here. ⊎_elim
      (λ before. first.1 n z y before here)
      (λ last. subst (λ w. related w y) last.1 (next y (subst (λ k. slice_get ys k ≡ Some y) (last.0 ∙ first.0) here)))
      (get-snoc xs x n z there),
)

-- what stands at a number of a list stands before the rest
drop-front : {X : Type 0} (xs : List X) (n : ℕ) (x : X) → slice_get xs n ≡ Some x → drop n xs ≡ x ∷ drop (suc n) xs
drop-front [] n x at = absurd (none-some x at)
drop-front (y ∷ ys) zero x at = ap (λ z. z ∷ ys) (same_Some y x at)
drop-front (y ∷ ys) (suc n) x at = drop-front ys n x at

-- after one update, the others lead to the same values
pub after_one : (us : List UpdateDefinition) (n : ℕ) (u : UpdateDefinition) (values next end : List ℤ) → slice_get us n ≡ Some u → next ≡ slice_set values u.variable (value_of (value_in values) u.value) → updated (drop n us) values ≡ end → updated (drop (n + 1) us) next ≡ end
after_one us n u values next end at made leads =
    rw add-one (ap (updated (drop (suc n) us)) made ∙ ap (λ vs. updated vs values) (sym (drop-front us n u at)) ∙ leads)

-- a number below the length has an element
pub element-at : {X : Type 0} (xs : List X) (n : ℕ) → n < length xs → {P : Type 0} → ((x : X) → slice_get xs n ≡ Some x → P) → P
element-at [] n within go = absurd (omega (arith, within))
element-at (x ∷ xs) zero within go = go x refl
element-at (x ∷ xs) (suc n) within go = element-at xs n (omega (arith, within)) go

-- ---- which expressions have code

-- what passes two tests passes a third one that these make sure of
all_from : {X : Type 0} (f g h : X → Bool) → ((x : X) → f x ≡ true → g x ≡ true → h x ≡ true) → (xs : List X) → list_all f xs ≡ true → list_all g xs ≡ true → list_all h xs ≡ true
all_from f g h sure [] one other = refl
all_from f g h sure (x ∷ xs) one other =
    let a = and_parts (f x) (list_all f xs) one in
    let b = and_parts (g x) (list_all g xs) other in
    and_from (h x) (list_all h xs) (sure x a.0 b.0) (all_from f g h sure xs a.1 b.1)

-- numbers below a bound are below a greater one
below-more : (low high : ℕ) → low ≤ high → (e : Tree ℕ) → has_variables_below low e ≡ true → has_variables_below high e ≡ true
below-more low high less (number n) below = refl
below-more low high less (variable v) below = lt-ltb v high (omega (arith, ltb-true v low below, less))
below-more low high less (negation e) below = below-more low high less e below
below-more low high less (operation op e f) below =
    let parts = and_parts (has_variables_below low e) (has_variables_below low f) below in
    and_from _ _ (below-more low high less e parts.0) (below-more low high less f parts.1)

codable : (variables : ℕ) (e : Tree ℕ) → variables ≤ 16 → leb (word_count e) 64 ≡ true → has_variables_below variables e ≡ true → is_codable e ≡ true
codable variables e few small known =
    and_from (leb (word_count e) 64) (has_variables_below 16 e) small (below-more variables 16 few e known)

codable_transition : (ports places variables : ℕ) (t : TransitionDefinition) → variables ≤ 16 → is_small_transition t ≡ true → has_known_numbers_in ports places variables t ≡ true → is_codable_transition t ≡ true
codable_transition ports places variables t few small known =
    let sizes = and_parts _ (list_all is_small_value t.updates) small in
    let numbers = and_parts _ (list_all (has_known_variables variables) t.updates) known in
    and_from (is_codable t.guard) (list_all is_codable_update t.updates)
    (codable variables t.guard few (and_parts _ _ sizes.0).1 (and_parts _ _ numbers.0).1)
    (all_from is_small_value (has_known_variables variables) is_codable_update
    (λ u words there. codable variables u.value few words (and_parts _ _ there).1) t.updates sizes.1 numbers.1)

-- all expressions of a well-formed atom have
pub codable-when-formed : (a : AtomDefinition) → is_well_formed a ≡ true → list_all is_codable_transition a.transitions ≡ true
codable-when-formed a formed =
    let known = and_parts (is_within_limits a && has_each_once a && has_known_numbers a) (has_sources_and_targets a) formed in
    let once = and_parts (is_within_limits a && has_each_once a) (has_known_numbers a) known.0 in
    let limits = and_parts (is_within_limits a) (has_each_once a) once.0 in
    let sizes = and_parts _ (list_all is_small_transition a.transitions) limits.0 in
    let few = leb-true (length a.variables) 16 (and_parts _ _ (and_parts _ _ (and_parts _ _ (and_parts _ _ sizes.0).0).0).0).1 in
    all_from is_small_transition (has_known_numbers_in (length a.ports) (length a.places) (length a.variables)) is_codable_transition
    (λ t small numbers. codable_transition (length a.ports) (length a.places) (length a.variables) t few small numbers) a.transitions sizes.1 (known_numbers a formed)
