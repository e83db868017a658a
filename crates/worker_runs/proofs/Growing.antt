-- A list that has one more at its end.
use Rattle.std.proofs.Common.{◌≡◌, ◌∙◌, ap, sym, subst, ℕ, ◌+◌, ◌<◌, List, [], ◌∷◌, ◌++◌, get_or, length, arith, below_more}
use Rattle.std.proofs.lemmas.List.{get_or_append_left}
use Rattle.std.proofs.Math.Seq.{get_or-append_seam}

-- what holds of each and of the one more at its place holds of each then
pub pushed : {X : Type 0} (P : ℕ → X → Type 0) (xs new : List X) (x : X) → new ≡ xs ++ x ∷ [] → ((k : ℕ) (d : X) → k < length xs → P k (get_or xs k d)) → P (length xs) x
    → (k : ℕ) (d : X) → k < length xs + 1 → P k (get_or new k d)
pushed {X} P xs new x is before last k d within =
    below_more (λ i. P i (get_or new i d)) (length xs)
    (λ i low. subst (λ (y : X). P i y) (sym (ap (λ zs. get_or zs i d) is ∙ get_or_append_left xs (x ∷ []) d i low)) (before i d low))
    (subst (λ (y : X). P (length xs) y) (sym (ap (λ zs. get_or zs (length xs) d) is ∙ get_or-append_seam xs x [] d)) last)
    k (omega (arith, within))
