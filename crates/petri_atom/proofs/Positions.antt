-- Where the first element of a list that passes a test stands.
use Rattle.std.proofs.Common.{◌≡◌, refl, ◌∙◌, ap, ℕ, Bool, List, [], ◌∷◌, Option, map, position}
use Rattle.std.specs.List.{position_or_len}
use Rattle.std.proofs.Math.ListN.{length-map}

-- where the first of mapped elements that passes a test stands
position_or_len_of_mapped : {X Y : Type 0} (f : X → Y) (test : Y → Bool) (xs : List X) → position_or_len (λ x. test (f x)) xs ≡ position_or_len test (map f xs)
position_or_len_of_mapped f test [] = refl
position_or_len_of_mapped f test (x ∷ xs) = simp (position_or_len_of_mapped f test xs)

-- the first of mapped elements that passes a test
position_of_mapped : {X Y : Type 0} (f : X → Y) (test : Y → Bool) (xs : List X) → position (λ x. test (f x)) xs ≡ position test (map f xs)
position_of_mapped f test xs = simp (position_or_len_of_mapped f test xs, length-map)

-- the first of the elements whose image passes a test is the first that passes it among the images
pub first_of_images : {X Y : Type 0} (f : X → Y) (test : Y → Bool) (xs : List X) (ys : List Y) (found : Option ℕ) → map f xs ≡ ys
    → found ≡ position (λ x. test (f x)) xs → found ≡ position test ys
first_of_images f test xs ys found images first = first ∙ position_of_mapped f test xs ∙ ap (position test) images
