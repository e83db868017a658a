-- The first element of a list that tells something, from an element on.
use Rattle.std.proofs.Common.{◌≡◌, ℕ, zero, suc, ◌+◌, ◌<◌, List, [], ◌∷◌, length, map, drop, get_or, slice_get, Option, Some, None, option_map, sym, ◌∙◌, ap, add-one}
use Rattle.std.proofs.lemmas.Option.{slice_get-map, slice_get-get_or}
use Rattle.plant_model.specs.Rules.{first_of, first_fault_in}
use Rattle.plant_image.specs.Reading.{IsFault}
use Rattle.plant_image.specs.declared.fault.ImageFault.{ImageFault}
use Rattle.plant_image.specs.declared.fault.ImageFault.TheVariants.{Memory}

-- a list from an element on
drop_at : {X : Type 0} (xs : List X) (i : ℕ) (x : X) → slice_get xs i ≡ Some x → drop i xs ≡ x ∷ drop (suc i) xs
drop_at [] i x at = absurd (let at = at in cc)
drop_at {X} (y ∷ ys) zero x at = let same : y ≡ x = let at = at in cc in ap (λ (z : X). z ∷ ys) same
drop_at (y ∷ ys) (suc i) x at = drop_at ys i x at

-- what is told from an element on
pub told_at : {X F : Type 0} (tell : ℕ → X → Option F) (xs : List X) (i : ℕ) (x : X) → slice_get xs i ≡ Some x
    → first_fault_in tell i (drop i xs) ≡ first_of (tell i x) (first_fault_in tell (i + 1) (drop (i + 1) xs))
told_at tell xs i x at = ap (first_fault_in tell i) (drop_at xs i x at) ∙ ap (λ (k : ℕ). first_of (tell i x) (first_fault_in tell k (drop k xs))) (sym (add-one i))

-- an element of a list that is mapped
pub mapped_at : {X Y : Type 0} (f : X → Y) (xs : List X) (i : ℕ) (x : X) → x ≡ get_or xs i x → i < length xs → slice_get (map f xs) i ≡ Some (f x)
mapped_at f xs i x is within = slice_get-map f xs i ∙ ap (option_map f) (slice_get-get_or xs i x within ∙ ap (λ y. Some y) (sym is))

-- and the same of it
pub told_from : {X Y F : Type 0} (f : X → Y) (tell : ℕ → Y → Option F) (xs : List X) (i : ℕ) (x : X) → x ≡ get_or xs i x → i < length xs
    → first_fault_in tell i (drop i (map f xs)) ≡ first_of (tell i (f x)) (first_fault_in tell (i + 1) (drop (i + 1) (map f xs)))
told_from f tell xs i x is within = told_at tell (map f xs) i (f x) (mapped_at f xs i x is within)

-- the fault of the first of two parts is that of both
pub told_first : (found rest whole : Option ImageFault) (fault : ImageFault) → whole ≡ first_of found rest → IsFault found fault → IsFault whole fault
told_first found rest whole Memory is told = tt
told_first found rest whole fault is told = is ∙ ap (λ (o : Option ImageFault). first_of o rest) told

-- and if the first has none, it is that of the rest
pub none_first : {F : Type 0} (found rest whole : Option F) → whole ≡ first_of found rest → found ≡ None → whole ≡ rest
none_first {F} found rest whole is none = is ∙ ap (λ (o : Option F). first_of o rest) none
