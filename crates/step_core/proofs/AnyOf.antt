-- Some entry of a list passes a test.
use Rattle.std.proofs.Common.{◌≡◌, ℕ, zero, suc, refl, sym, ◌∙◌, ap, List, [], ◌∷◌, Bool, true, ◌||◌, ⊎_elim}
use Rattle.std.specs.Prelude.{Some, slice_get}
use Rattle.std.specs.List.{list_any}
use Rattle.std.proofs.lemmas.Bool.{cases_Bool, false≢true, or_left, or_right}
use Rattle.std.proofs.lemmas.Option.{none-some, same_Some}

pub any-at : {X : Type 0} (f : X → Bool) (xs : List X) (k : ℕ) (x : X) → slice_get xs k ≡ Some x → f x ≡ true → list_any f xs ≡ true
any-at f [] k x at passes = absurd (none-some x at)
any-at f (y ∷ ys) zero x at passes = or_left (f y) (list_any f ys) (ap f (same_Some y x at) ∙ passes)
any-at f (y ∷ ys) (suc k) x at passes = or_right (f y) (list_any f ys) (any-at f ys k x at passes)

pub any-found : {X : Type 0} (f : X → Bool) (xs : List X) → list_any f xs ≡ true → (k : ℕ) × (x : X) × (slice_get xs k ≡ Some x) × (f x ≡ true)
any-found f [] some = absurd (false≢true some)
any-found f (y ∷ ys) some =
    ⊎_elim
    (λ yes_. (zero, y, refl, yes_))
    (λ no. let found = any-found f ys (sym (ap (λ b. b || list_any f ys) no) ∙ some) in (suc found.0, found.1, found.2, found.3))
    (cases_Bool (f y))
