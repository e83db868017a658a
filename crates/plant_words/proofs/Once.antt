-- What each of a list passes with one more, and lists in which nothing stands twice.
use Rattle.std.proofs.Common.{◌≡◌, ◌∙◌, refl, sym, ℕ, Bool, true, false, not, List, [], ◌∷◌, ◌++◌, None, position}
use Rattle.std.specs.Prelude.{nat_eq}
use Rattle.std.specs.List.{list_all, list_any}
use Rattle.std.proofs.lemmas.Bool.{and_parts, and_from, or_from, or_parts, not-true, not_from_false}
use Rattle.std.proofs.lemmas.Bool.Decides.{same_from_decides, Decides-like, Decides-eqb}
use Rattle.std.proofs.lemmas.List.Folds.{list_all-append, list_any-append}
use Rattle.std.proofs.lemmas.Slice.Eq.{slice_eq-Decides}
use Rattle.petri_atom.specs.Name.{is_same_text}
use Rattle.petri_atom.specs.Definition.{is_each_once}
use Rattle.plant_words.proofs.Positions.{none-passes}

-- what each passes, and one more
pub all_and_one : {X : Type 0} (f : X → Bool) (xs : List X) (x : X) → list_all f xs ≡ true → f x ≡ true → list_all f (xs ++ x ∷ []) ≡ true
all_and_one f xs x all one = list_all-append f xs (x ∷ []) ∙ and_from _ _ all (and_from (f x) true one refl)

-- one more that is not there yet
pub once_more : {X : Type 0} (same : X → X → Bool) (xs : List X) (y : X) → is_each_once same xs ≡ true → list_any (λ x. same y x) xs ≡ false → is_each_once same (xs ++ y ∷ []) ≡ true
once_more same [] y once new = refl
once_more same (x ∷ xs) y once new =
    let parts = and_parts (not (list_any (λ z. same z x) xs)) (is_each_once same xs) once in
    let others = or_parts (same y x) (list_any (λ z. same y z) xs) new in
    let last : list_any (λ z. same z x) (xs ++ y ∷ []) ≡ false =
    list_any-append (λ z. same z x) xs (y ∷ []) ∙ or_from _ _ (not-true _ parts.0) (or_from (same y x) false others.0 refl) in
    and_from _ _ (not_from_false _ last) (once_more same xs y parts.1 others.1)

-- the test of two texts is the same in either order
same_text-either_way : (xs ys : List ℕ) → is_same_text xs ys ≡ is_same_text ys xs
same_text-either_way xs ys =
    same_from_decides _ _ (slice_eq-Decides Decides-eqb xs ys _ refl) (Decides-like _ sym sym (slice_eq-Decides Decides-eqb ys xs _ refl))

-- a name that none of the parts has, by either order of the test
none-named : {X : Type 0} (name_of : X → List ℕ) (name : List ℕ) (xs : List X) → list_any (λ x. is_same_text (name_of x) name) xs ≡ false → list_any (λ x. is_same_text name (name_of x)) xs ≡ false
none-named name_of name [] none = refl
none-named name_of name (x ∷ xs) none =
    let parts = or_parts (is_same_text (name_of x) name) (list_any (λ y. is_same_text (name_of y) name) xs) none in
    or_from _ _ (same_text-either_way name (name_of x) ∙ parts.0) (none-named name_of name xs parts.1)

-- one more part, of a name that none has
pub named_once : {X : Type 0} (name_of : X → List ℕ) (xs : List X) (y : X) → is_each_once (λ a b. is_same_text (name_of a) (name_of b)) xs ≡ true → position (λ x. is_same_text (name_of x) (name_of y)) xs ≡ None →
    is_each_once (λ a b. is_same_text (name_of a) (name_of b)) (xs ++ y ∷ []) ≡ true
named_once name_of xs y once none =
    once_more (λ a b. is_same_text (name_of a) (name_of b)) xs y once
    (none-named name_of (name_of y) xs (none-passes (λ x. is_same_text (name_of x) (name_of y)) xs none))

-- the test of two numbers is the same in either order
pub same_number-either_way : (m n : ℕ) → nat_eq m n ≡ nat_eq n m
same_number-either_way m n = same_from_decides _ _ (Decides-eqb m n) (Decides-like _ sym sym (Decides-eqb n m))

none-number : (n : ℕ) (ks : List ℕ) → list_any (λ k. nat_eq k n) ks ≡ false → list_any (λ k. nat_eq n k) ks ≡ false
none-number n [] none = refl
none-number n (k ∷ ks) none =
    let parts = or_parts (nat_eq k n) (list_any (λ j. nat_eq j n) ks) none in
    or_from _ _ (same_number-either_way n k ∙ parts.0) (none-number n ks parts.1)

-- one more number that is not there yet
pub listed_once : (ks : List ℕ) (n : ℕ) → is_each_once nat_eq ks ≡ true → list_any (λ k. nat_eq k n) ks ≡ false → is_each_once nat_eq (ks ++ n ∷ []) ≡ true
listed_once ks n once new = once_more nat_eq ks n once (none-number n ks new)
