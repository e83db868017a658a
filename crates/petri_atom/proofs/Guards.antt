-- Guards without the `!` before them: what they tell of the guards, and that one tells of all transitions that have the same.
use Rattle.std.proofs.Common.{◌≡◌, ℕ, ℤ, ◌^◌, ◌<◌, ◌≤◌, Bool, true, false, not, ◌&&◌, ◌||◌, leb, refl, sym, ◌∙◌, ap, arith, List, length, Option, Some, None, ⊎_elim}
use Rattle.std.specs.Prelude.{bit_and, bit_or, bit_xor, slice_get}
use Rattle.std.specs.Int.{bit_not, w64}
use Rattle.std.specs.List.{list_all}
use Rattle.std.specs.Option.{option_map_or}
use Rattle.std.proofs.lemmas.Bool.{and_from, and_left, and_parts, and_right, both_ways, cases_lt, false≢true, le-leb, leb-true}
use Rattle.std.proofs.lemmas.Nat.{and_le_l, pow_pos}
use Rattle.petri_atom.specs.Expression.{Tree, number, variable, negation, operation, bare, has_variables_below, is_same_tree, is_true, is_turned, truth, value_of, word_count}
use Rattle.petri_atom.specs.Local.{Local, has, set_below, value_in}
use Rattle.petri_atom.specs.Definition.{TransitionDefinition}
use Rattle.petri_atom.specs.Groups.{alike_set, has_bare_guard, is_turned_number, passes_bare, passes_guard, turned_set}
use Rattle.petri_atom.specs.StraightCode.{is_codable, is_codable_transition, is_codable_update}
use Rattle.petri_atom.proofs.Judging.{not_there}
use Rattle.petri_atom.proofs.Lists.{both, either}
use Rattle.petri_atom.proofs.Sameness.{same_tree}
use Rattle.petri_atom.proofs.Sets.{differs, has-above, has-and, has-or, has-xor, has-minus, has-passing, has-set_below, same_numbers, set_below-is}

-- ---- one guard

is_true-truth : (b : Bool) → is_true (truth b) ≡ b
is_true-truth true = refl
is_true-truth false = refl

differs-false : (a : Bool) → a ≡ differs a false
differs-false true = refl
differs-false false = refl

not-differs : (a b : Bool) → not (differs a b) ≡ differs a (not b)
not-differs a b = grind arith

-- a guard is true where it is without its `!`, or, if their number is odd, where it is not
truth-bare : (at : ℕ → ℤ) (e : Tree ℕ) → is_true (value_of at e) ≡ differs (is_true (value_of at (bare e))) (is_turned e)
truth-bare at (number n) = differs-false _
truth-bare at (variable v) = differs-false _
truth-bare at (negation e) =
    is_true-truth (not (is_true (value_of at e))) ∙ ap not (truth-bare at e) ∙
    not-differs (is_true (value_of at (bare e))) (is_turned e)
truth-bare at (operation op e f) = differs-false _

-- if it has code, it has without them
words-bare : (e : Tree ℕ) → word_count (bare e) ≤ word_count e
words-bare (number n) = omega arith
words-bare (variable v) = omega arith
words-bare (negation e) = omega (arith, words-bare e)
words-bare (operation op e f) = omega arith

below-bare : (bound : ℕ) (e : Tree ℕ) → has_variables_below bound (bare e) ≡ has_variables_below bound e
below-bare bound (number n) = refl
below-bare bound (variable v) = refl
below-bare bound (negation e) = below-bare bound e
below-bare bound (operation op e f) = refl

codable-bare : (e : Tree ℕ) → is_codable e ≡ true → is_codable (bare e) ≡ true
codable-bare e codable =
    let parts = and_parts (leb (word_count e) 64) (has_variables_below 16 e) codable in
    and_from _ _ (le-leb _ _ (omega (arith, words-bare e, leb-true (word_count e) 64 parts.0)))
    (below-bare 16 e ∙ parts.1)

pub codable-guard : (t : TransitionDefinition) (guard lent : Tree ℕ) → is_codable_transition t ≡ true → lent ≡ t.guard → guard ≡ bare lent → is_codable guard ≡ true
codable-guard t guard lent codable read is =
    ap is_codable (is ∙ ap bare read) ∙
    codable-bare t.guard (and_parts (is_codable t.guard) (list_all is_codable_update t.updates) codable).0

-- ---- transitions that have the same guard but for these
module _ (ts : List TransitionDefinition) (state : Local) (alike n : ℕ) (t : TransitionDefinition) (there : slice_get ts n ≡ Some t) (are : alike ≡ alike_set t.guard ts) where
  has-alike : (k : ℕ) → has alike k ≡ has_bare_guard t.guard ts k
  has-alike k =
      ap (λ w. has w k) are ∙
      has-passing (length ts) (has_bare_guard t.guard ts) k (not_there (λ u. is_same_tree (bare t.guard) (bare u.guard)) ts k)

  -- the transition itself is one
  pub alike-own : has alike n ≡ true
  alike-own =
      has-alike n ∙ ap (λ o. option_map_or (λ u. is_same_tree (bare t.guard) (bare u.guard)) o false) there ∙
      (same_tree (bare t.guard) (bare t.guard)).1 refl

  -- and all pass if it does
  pub alike-passes : (k : ℕ) → has alike k ≡ true → passes_bare ts state k ≡ passes_bare ts state n
  alike-passes k inside = each (slice_get ts k) (sym (has-alike k) ∙ inside) ∙ sym (at_own)
    where
      test : TransitionDefinition → Bool
      test u = is_true (value_of (value_in state.values) (bare u.guard))

      at_own : passes_bare ts state n ≡ test t
      at_own = ap (λ o. option_map_or test o false) there

      each : (o : Option TransitionDefinition) → option_map_or (λ u. is_same_tree (bare t.guard) (bare u.guard)) o false ≡ true → option_map_or test o false ≡ test t
      each None same = absurd (false≢true same)
      each (Some u) same =
          ap (λ e. is_true (value_of (value_in state.values) e)) (sym ((same_tree (bare t.guard) (bare u.guard)).0 same))

-- ---- all that have the same guard as one that is left are judged at once

all-hold : (done left alike passes : Bool) → (alike ≡ true → passes ≡ true) → ((done || left && alike) || (left && not alike) && passes) ≡ (done || left && passes)
all-hold done left alike passes holds = grind arith

all-fail : (done left alike passes : Bool) → (alike ≡ true → passes ≡ false) → (done || (left && not alike) && passes) ≡ (done || left && passes)
all-fail done left alike passes fails = grind arith

minus : (left alike : Bool) → differs left (left && alike) ≡ (left && not alike)
minus left alike = grind arith

module _ (passes : ℕ → Bool) (set done left alike n : ℕ) (told : (k : ℕ) → has alike k ≡ true → passes k ≡ passes n) (so_far : (k : ℕ) → (has done k || has left k && passes k) ≡ (has set k && passes k)) where
  abbrev here : ℕ
  here = bit_and left alike

  abbrev rest : ℕ
  rest = bit_xor left here

  pub has-rest : (k : ℕ) → has rest k ≡ (has left k && not (has alike k))
  has-rest k =
      has-xor left here k ∙ ap (differs (has left k)) (has-and left alike k) ∙ minus (has left k) (has alike k)

  pub alike-more : passes n ≡ true → (k : ℕ) → (has (bit_or done here) k || has rest k && passes k) ≡ (has set k && passes k)
  alike-more holds k =
      either (has-or done here k ∙ either refl (has-and left alike k)) (both (has-rest k) refl) ∙
      all-hold (has done k) (has left k) (has alike k) (passes k) (λ inside. told k inside ∙ holds) ∙
      so_far k

  pub alike-fewer : passes n ≡ false → (k : ℕ) → (has done k || has rest k && passes k) ≡ (has set k && passes k)
  alike-fewer fails k =
      either refl (both (has-rest k) refl) ∙
      all-fail (has done k) (has left k) (has alike k) (passes k) (λ inside. told k inside ∙ fails) ∙ so_far k

  pub alike-within : ((k : ℕ) → has left k ≡ true → has set k ≡ true) → (k : ℕ) → has rest k ≡ true → has set k ≡ true
  alike-within within k inside =
      within k (and_parts (has left k) (not (has alike k)) (sym (has-rest k) ∙ inside)).0

  -- so fewer are left
  pub alike-smaller : left < 2 ^ 64 → alike < 2 ^ 64 → has left n ≡ true → has alike n ≡ true → rest < left
  alike-smaller small few inside own =
      let cleared : rest ≡ bit_and left (bit_not w64 alike) = same_numbers _ _ (λ k. has-rest k ∙ sym (has-minus w64 left alike k small few)) in
      ⊎_elim (λ less. less)
      (λ past. let same : rest ≡ left = omega (arith, past, cleared, and_le_l left (bit_not w64 alike)) in absurd (both_ways _ (sym (ap (λ w. has w n) same) ∙ has-rest n ∙ and_right (has left n) _ (ap not own)) inside))
      (cases_lt rest left)

-- ---- the guards of a set from those without `!`

and-differs : (inside passes turned : Bool) → (inside && differs (inside && passes) turned) ≡ (inside && differs passes turned)
and-differs inside passes turned = grind arith

guard-bare : (ts : List TransitionDefinition) (state : Local) (k : ℕ) → differs (passes_bare ts state k) (is_turned_number ts k) ≡ passes_guard ts state k
guard-bare ts state k = elim (slice_get ts k) as (λ o. differs (option_map_or (λ t. is_true (value_of (value_in state.values) (bare t.guard))) o false) (option_map_or (λ t. is_turned t.guard) o false) ≡ option_map_or (λ t. is_true (value_of (value_in state.values) t.guard)) o false) [
  | None ↦ refl
  | Some t ↦ sym (truth-bare (value_in state.values) t.guard)
]

pub unguarded-is : (ts : List TransitionDefinition) (state : Local) (bound set holding turned : ℕ) → length ts ≤ bound → set < 2 ^ bound → holding ≡ set_below bound (λ n. has set n && passes_bare ts state n) → turned ≡ turned_set ts → bit_and set (bit_xor holding turned) ≡ set_below bound (λ n. has set n && passes_guard ts state n)
unguarded-is ts state bound set holding turned few small hold turn =
    set_below-is bound _ (λ n. has set n && passes_guard ts state n)
    (omega (arith, small, and_le_l set (bit_xor holding turned)))
    (λ k below. has-and set (bit_xor holding turned) k ∙ both refl (has-xor holding turned k ∙ ap (λ b. differs b (has turned k)) (ap (λ w. has w k) hold ∙ has-set_below bound (λ n. has set n && passes_bare ts state n) k below) ∙ ap (differs (has set k && passes_bare ts state k)) (ap (λ w. has w k) turn ∙ has-passing (length ts) (is_turned_number ts) k (not_there (λ t. is_turned t.guard) ts k))) ∙ and-differs (has set k) (passes_bare ts state k) (is_turned_number ts k) ∙ both refl (guard-bare ts state k))

-- of no transitions none passes
pub none-passes : (passes : ℕ → Bool) (set : ℕ) → set ≡ 0 → 0 ≡ set_below 128 (λ n. has set n && passes n)
none-passes passes set none =
    set_below-is 128 0 (λ n. has set n && passes n) (pow_pos 128)
    (λ k below. empty k ∙ sym (and_left (has set k) (passes k) (ap (λ w. has w k) none ∙ empty k)))
  where
    empty : (k : ℕ) → has 0 k ≡ false
    empty k = has-above 0 0 k (pow_pos 0) (omega arith)
