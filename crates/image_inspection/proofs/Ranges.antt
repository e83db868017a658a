-- What is said, asked and found of numbers in a row, one after another.
use Rattle.std.proofs.Common.{◌≡◌, ◌∙◌, sym, ℕ, suc, ◌+◌, ◌-◌, ◌<◌, ◌||◌, Bool, true, false, refl, ap, arith, List, [], ◌∷◌, ◌++◌, Option, Some, None, map, length, drop, get_or}
use Rattle.std.proofs.lemmas.List.{drop_more}
use Rattle.std.specs.Prelude.{find, flat_map, cond}
use Rattle.std.specs.List.{list_any, range_with_len}
use Rattle.std.specs.Option.{some_prefix}
use Rattle.std.specs.Io.KnownBytes.{Appends}
use Rattle.text_io.proofs.Leading.{Leads, leads-more, leads-same}
use Rattle.plant_image.specs.Faults.{first_fault}
use Rattle.plant_image.specs.declared.fault.ImageFault.{ImageFault}

-- the first of the numbers that are left, and the others
pub first-left : (i n : ℕ) → i < n → range_with_len i (n - i) ≡ range_with_len i (suc (n - (i + 1)))
first-left i n within = let is : n - i ≡ suc (n - (i + 1)) = omega arith in ap (range_with_len i) is

-- the first of the numbers that are left is said next
pub leads-number : (say : ℕ → List ℕ) (i n : ℕ) (start now next : Option (List ℕ)) (all : List ℕ) → i < n
    → Leads start now (flat_map say (range_with_len i (n - i))) all → Appends now next (say i)
    → Leads start next (flat_map say (range_with_len (i + 1) (n - (i + 1)))) all
leads-number say i n start now next all within l p =
    leads-more start now next (say i) (flat_map say (range_with_len (i + 1) (n - (i + 1)))) all
    (leads-same l (ap (flat_map say) (first-left i n within))) p

-- a row goes on as long as there is something at each number
pub prefix-first : {X : Type 0} (at : ℕ → Option X) (i n : ℕ) (x : X) → i < n → at i ≡ Some x
    → some_prefix (map at (range_with_len i (n - i))) ≡ x ∷ some_prefix (map at (range_with_len (i + 1) (n - (i + 1))))
prefix-first {X} at i n x within is =
    ap (λ numbers. some_prefix (map at numbers)) (first-left i n within)
    ∙ ap (λ (o : Option X). some_prefix (o ∷ map at (range_with_len (i + 1) (n - (i + 1))))) is

-- and ends where there is nothing
pub prefix-ends : {X : Type 0} (at : ℕ → Option X) (i n : ℕ) → i < n → at i ≡ None → some_prefix (map at (range_with_len i (n - i))) ≡ []
prefix-ends {X} at i n within is =
    ap (λ numbers. some_prefix (map at numbers)) (first-left i n within)
    ∙ ap (λ (o : Option X). some_prefix (o ∷ map at (range_with_len (i + 1) (n - (i + 1))))) is

-- one of the numbers that are left passes a test if the first does or one of the others
any-first : (test : ℕ → Bool) (i n : ℕ) → i < n → list_any test (range_with_len i (n - i)) ≡ (test i || list_any test (range_with_len (i + 1) (n - (i + 1))))
any-first test i n within = ap (list_any test) (first-left i n within)

-- three tests may be taken together either way
or-assoc : (x y z : Bool) → (x || (y || z)) ≡ ((x || y) || z)
or-assoc true y z = refl
or-assoc false y z = refl

-- the first of the numbers that are left is tested next
pub any-more : (test : ℕ → Bool) (i n : ℕ) (whole before here : Bool) → i < n → whole ≡ (before || list_any test (range_with_len i (n - i))) → here ≡ test i
    → whole ≡ ((before || here) || list_any test (range_with_len (i + 1) (n - (i + 1))))
any-more test i n whole before here within is tested =
    let rest : Bool = list_any test (range_with_len (i + 1) (n - (i + 1))) in
    is
    ∙ ap (λ (b : Bool). before || b) (any-first test i n within)
    ∙ or-assoc before (test i) rest
    ∙ ap (λ (t : Bool). (before || t) || rest) (sym tested)

-- the first number that passes a test is one of the others, if the first of those that are left does not pass it
pub find-later : (test : ℕ → Bool) (i n : ℕ) → i < n → test i ≡ false → find test (range_with_len i (n - i)) ≡ find test (range_with_len (i + 1) (n - (i + 1)))
find-later test i n within is =
    ap (find test) (first-left i n within) ∙ ap (λ t. cond t (Some i) (find test (range_with_len (i + 1) (n - (i + 1))))) is

-- the first fault is that of the first number that is left, if it has one
pub fault-here : (at : ℕ → Option ImageFault) (i n : ℕ) (fault : ImageFault) → i < n → at i ≡ Some fault → first_fault (map at (range_with_len i (n - i))) ≡ Some fault
fault-here at i n fault within is =
    ap (λ numbers. first_fault (map at numbers)) (first-left i n within)
    ∙ ap (λ (o : Option ImageFault). first_fault (o ∷ map at (range_with_len (i + 1) (n - (i + 1))))) is

-- and else that of the others
pub fault-later : (at : ℕ → Option ImageFault) (i n : ℕ) → i < n → at i ≡ None
    → first_fault (map at (range_with_len i (n - i))) ≡ first_fault (map at (range_with_len (i + 1) (n - (i + 1))))
fault-later at i n within is =
    ap (λ numbers. first_fault (map at numbers)) (first-left i n within)
    ∙ ap (λ (o : Option ImageFault). first_fault (o ∷ map at (range_with_len (i + 1) (n - (i + 1))))) is

-- the first of the elements that are left is said next
pub leads-item : {X : Type 0} (say : X → List ℕ) (xs : List X) (i : ℕ) (x : X) (start now next : Option (List ℕ)) (all : List ℕ) → i < length xs → x ≡ get_or xs i x
    → Leads start now (flat_map say (drop i xs)) all → Appends now next (say x) → Leads start next (flat_map say (drop (i + 1) xs)) all
leads-item say xs i x start now next all within here l p =
    leads-more start now next (say x) (flat_map say (drop (i + 1) xs)) all
    (leads-same l (ap (flat_map say) (drop_more xs i x within) ∙ ap (λ y. say y ++ flat_map say (drop (i + 1) xs)) (sym here))) p
