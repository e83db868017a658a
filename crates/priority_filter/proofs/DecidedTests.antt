-- Tests that tell facts, alone and joined, and searches through numbers and lists.
use Rattle.std.proofs.Common.{◌≡◌, ◌⊎◌, ◌↔◌, ℕ, zero, suc, ◌+◌, ◌<◌, ◌≤◌, Bool, true, false, not, cond, ◌&&◌, eqb, ltb, List, [], ◌∷◌, length, get_or, Option, Some, None, inl, inr, ⊎_elim, sym, ap, ◌∙◌, subst, arith, IsTrue}
use Rattle.std.specs.List.{find, list_any, range_with_len}
use Rattle.std.proofs.lemmas.Bool.{cases_Bool, cases_eq, cases_order, and_parts, and_from, or_cases, or_left, or_right, both_ways, not-true, not_from_false, eqb-true, eq-eqb, ltb-true, lt-ltb, false≢true, false_from_ne_true}
use Rattle.std.proofs.lemmas.List.Folds.{list_any_at}
use Rattle.priority_filter.specs.Decided.{least_below}

-- ---- single tests

-- a fact or its denial
abbrev pub Decided : Type 0 → Type 0
Decided P = P ⊎ ¬ P

-- what a test tells is decided
pub decided_by : (t : Bool) (P : Type 0) → (IsTrue t ↔ P) → Decided P
decided_by t P decides = ⊎_elim (λ yes. inl (decides.0 yes)) (λ no. inr (λ fact. both_ways t no (decides.1 fact))) (cases_Bool t)

-- two tests that tell the same fact
pub same_answer : (s t : Bool) (P : Type 0) → (IsTrue s ↔ P) → (IsTrue t ↔ P) → s ≡ t
same_answer s t P one other =
    ⊎_elim
    (λ yes. yes ∙ sym (other.1 (one.0 yes)))
    (λ no. no ∙ sym (false_from_ne_true t (λ yes. both_ways s no (one.1 (other.0 yes)))))
    (cases_Bool s)

pub decides_eq : (a b : ℕ) → IsTrue (eqb a b) ↔ (a ≡ b)
decides_eq a b = (eqb-true a b, eq-eqb a b)

pub decides_lt : (a b : ℕ) → IsTrue (ltb a b) ↔ (a < b)
decides_lt a b = (ltb-true a b, lt-ltb a b)

pub decides_and : (s t : Bool) (P Q : Type 0) → (IsTrue s ↔ P) → (IsTrue t ↔ Q) → IsTrue (s && t) ↔ (P × Q)
decides_and s t P Q one other = (
  λ yes. let both = and_parts s t yes in (one.0 both.0, other.0 both.1),
  λ facts. and_from s t (one.1 facts.0) (other.1 facts.1),
)

pub decides_not : (t : Bool) (P : Type 0) → (IsTrue t ↔ P) → IsTrue (not t) ↔ ¬ P
decides_not t P decides = (
  λ denied fact. both_ways t (not-true t denied) (decides.1 fact),
  λ denied. not_from_false t (false_from_ne_true t (λ yes. denied (decides.0 yes))),
)

-- ---- some entry passes

place_of : {X : Type 0} (p : X → Bool) (xs : List X) (d : X) → IsTrue (list_any p xs) → (k : ℕ) × (k < length xs) × IsTrue (p (get_or xs k d))
place_of p [] d some = absurd (false≢true some)
place_of p (x ∷ xs) d some =
    ⊎_elim
    (λ here. (0, omega arith, here))
    (λ later. let rest = place_of p xs d later in (suc rest.0, omega (arith, rest.1), rest.2))
    (or_cases (p x) (list_any p xs) some)

-- some entry passes, said by its place
pub decides_any : {X : Type 0} (p : X → Bool) (P : X → Type 0) → ((x : X) → IsTrue (p x) ↔ P x)
    → (xs : List X) (d : X) → IsTrue (list_any p xs) ↔ ((k : ℕ) × (k < length xs) × P (get_or xs k d))
decides_any p P decides xs d = (
  λ yes. let found = place_of p xs d yes in (found.0, found.1, (decides (get_or xs found.0 d)).0 found.2),
  λ some. list_any_at p xs some.0 d some.1 ((decides (get_or xs some.0 d)).1 some.2),
)

pub any_in_range : (p : ℕ → Bool) (from n : ℕ) → IsTrue (list_any p (range_with_len from n)) → (b : ℕ) × (b < from + n) × IsTrue (p b)
any_in_range p from zero some = absurd (false≢true some)
any_in_range p from (suc n) some =
    ⊎_elim
    (λ here. (from, omega arith, here))
    (λ later. let rest = any_in_range p (from + 1) n later in (rest.0, omega (arith, rest.1), rest.2))
    (or_cases (p from) (list_any p (range_with_len (from + 1) n)) some)

in_range_any : (p : ℕ → Bool) (from n b : ℕ) → from ≤ b → b < from + n → IsTrue (p b) → IsTrue (list_any p (range_with_len from n))
in_range_any p from zero b low high passes = absurd (omega arith)
in_range_any p from (suc n) b low high passes =
    ⊎_elim
    (λ here. or_left (p from) (list_any p (range_with_len (from + 1) n)) (subst (λ x. IsTrue (p x)) here passes))
    (λ other. or_right (p from) (list_any p (range_with_len (from + 1) n)) (in_range_any p (from + 1) n b (omega arith) (omega arith) passes))
    (cases_eq b from)

-- some number below n passes
pub decides_any_below : (p : ℕ → Bool) (n : ℕ) → IsTrue (list_any p (range_with_len 0 n)) ↔ ((b : ℕ) × (b < n) × IsTrue (p b))
decides_any_below p n = (
  λ yes. let found = any_in_range p 0 n yes in (found.0, omega (arith, found.1), found.2),
  λ some. in_range_any p 0 n some.0 (omega arith) (omega (arith, some.1)) some.2,
)

-- ---- the least number that passes

-- what was found is the first of the numbers from .. from + n - 1 that passes, or none does
abbrev IsFirst : (ℕ → Bool) → ℕ → ℕ → Option ℕ → Type 0
IsFirst p from n None = (b : ℕ) → from ≤ b → b < from + n → p b ≡ false
IsFirst p from n (Some x) = (from ≤ x) × (x < from + n) × (p x ≡ true) × ((b : ℕ) → from ≤ b → b < x → p b ≡ false)

first_later : (p : ℕ → Bool) (from n : ℕ) (found : Option ℕ) → p from ≡ false → IsFirst p (from + 1) n found → IsFirst p from (suc n) found
first_later p from n None fails rest = λ b low high.
    ⊎_elim (λ here. ap p here ∙ fails) (λ other. rest b (omega arith) (omega arith)) (cases_eq b from)
first_later p from n (Some x) fails rest = (
  omega (arith, rest.0),
  omega (arith, rest.1),
  rest.2,
  λ b low high. ⊎_elim (λ here. ap p here ∙ fails) (λ other. rest.3 b (omega arith) high) (cases_eq b from),
)

find_is_first : (p : ℕ → Bool) (from n : ℕ) → IsFirst p from n (find p (range_with_len from n))
find_is_first p from zero = λ b low high. absurd (omega arith)
find_is_first p from (suc n) =
    let rest : Option ℕ = find p (range_with_len (from + 1) n) in
    ⊎_elim
    (λ here. subst (λ t. IsFirst p from (suc n) (cond t (Some from) rest)) (sym here) (omega arith, omega arith, here, λ b low high. absurd (omega arith)))
    (λ fails. subst (λ t. IsFirst p from (suc n) (cond t (Some from) rest)) (sym fails) (first_later p from n rest fails (find_is_first p (from + 1) n)))
    (cases_Bool (p from))

first_is_one : (p : ℕ → Bool) (n : ℕ) (one other : Option ℕ) → IsFirst p 0 n one → IsFirst p 0 n other → one ≡ other
first_is_one p n None None is is_too = λ _. None
first_is_one p n None (Some y) is is_too = absurd (both_ways (p y) (is y (omega arith) (omega (arith, is_too.1))) is_too.2)
first_is_one p n (Some x) None is is_too = absurd (both_ways (p x) (is_too x (omega arith) (omega (arith, is.1))) is.2)
first_is_one p n (Some x) (Some y) is is_too =
    ⊎_elim
    (λ same. ap (λ z. Some z) same)
    (λ differ. ⊎_elim
    (λ lower. absurd (both_ways (p x) (is_too.3 x (omega arith) lower) is.2))
    (λ higher. absurd (both_ways (p y) (is.3 y (omega arith) higher) is_too.2))
    differ)
    (cases_order x y)

-- the least number below n that passes, and that there is none
pub decides_least : (p : ℕ → Bool) (n x : ℕ) → (least_below n p ≡ Some x) ↔ ((x < n) × IsTrue (p x) × ((b : ℕ) → b < x → p b ≡ false))
decides_least p n x = (
  λ same. let first : IsFirst p 0 n (Some x) = subst (IsFirst p 0 n) same (find_is_first p 0 n) in (omega (arith, first.1), first.2, λ b less. first.3 b (omega arith) less),
  λ facts. first_is_one p n (least_below n p) (Some x) (find_is_first p 0 n) (omega arith, omega (arith, facts.0), facts.1, λ b low less. facts.2 b less),
)

pub decides_none : (p : ℕ → Bool) (n : ℕ) → (least_below n p ≡ None) ↔ ((b : ℕ) → b < n → p b ≡ false)
decides_none p n = (
  λ same b less. let none : IsFirst p 0 n None = subst (IsFirst p 0 n) same (find_is_first p 0 n) in none b (omega arith) (omega arith),
  λ fails. first_is_one p n (least_below n p) None (find_is_first p 0 n) (λ b low less. fails b (omega arith)),
)
