-- The first element of a list that passes a test, as a walk over the list finds it.
use Rattle.std.proofs.Common.{◌≡◌, ℕ, ◌+◌, ◌<◌, sym, ◌∙◌, ap, List, ◌∷◌, length, map, drop, get_or, Bool, true, false, cond}
use Rattle.std.specs.Prelude.{Some, find}
use Rattle.std.proofs.lemmas.List.{drop_more}

module _ {X Y : Type 0} (p : Y → Bool) (g : X → Y) (xs : List X) (i : ℕ) (x : X) (within : i < length xs) (here : x ≡ get_or xs i x) where
  split : find p (map g (drop i xs)) ≡ cond (p (g x)) (Some (g x)) (find p (map g (drop (i + 1) xs)))
  split =
      ap (λ ys. find p (map g ys)) (drop_more xs i x within) ∙
      ap (λ y. find p (g y ∷ map g (drop (i + 1) xs))) (sym here)

  pub found-now : p (g x) ≡ true → find p (map g (drop i xs)) ≡ Some (g x)
  found-now yes_ = split ∙ ap (λ b. cond b (Some (g x)) (find p (map g (drop (i + 1) xs)))) yes_

  pub found-later : p (g x) ≡ false → find p (map g (drop (i + 1) xs)) ≡ find p (map g (drop i xs))
  found-later no_ = sym (split ∙ ap (λ b. cond b (Some (g x)) (find p (map g (drop (i + 1) xs)))) no_)
