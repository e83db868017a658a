-- A row that is made, entry by entry, over the beginning of another one.
use Rattle.std.proofs.Common.{◌≡◌, refl, ap, ℕ, zero, suc, ◌<◌, ◌≤◌, List, [], ◌∷◌, ◌++◌, length, map, take, drop, slice_index_or, slice_set, arith}

pub set_next : {X Y : Type 0} (f : X → Y) (xs : List X) (ys : List Y) (n : ℕ) (d : X) → n < length xs → length xs ≤ length ys
    → slice_set (map f (take n xs) ++ drop n ys) n (f (slice_index_or xs n d)) ≡ map f (take (suc n) xs) ++ drop (suc n) ys
set_next f [] ys n d within fits = absurd (omega (arith, within))
set_next f (x ∷ xs) [] n d within fits = absurd (omega (arith, fits))
set_next f (x ∷ xs) (y ∷ ys) zero d within fits = refl
set_next f (x ∷ xs) (y ∷ ys) (suc n) d within fits = ap (λ zs. f x ∷ zs) (set_next f xs ys n d (omega (arith, within)) (omega (arith, fits)))
