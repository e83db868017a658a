-- Lists that are copied entry by entry.
use Rattle.std.proofs.Common.{◌≡◌, ℕ, zero, suc, ◌+◌, ◌<◌, refl, sym, ◌∙◌, ap, List, [], ◌∷◌, ◌++◌, length, take, set, true}
use Rattle.std.specs.Prelude.{Option, Some, None, slice_get}
use Rattle.std.proofs.lemmas.Bool.{false≢true}
use Rattle.std.proofs.lemmas.List.{take_more, take_more_set}
use Rattle.std.proofs.lemmas.Option.{get_or_from_slice_get}
use Rattle.petri_atom.specs.Local.{Local}
use Rattle.step_executor.specs.Outstanding.{is_part_away}

-- what is copied up to a number, and one more
pub one-more-copied : {X : Type 0} (xs ys : List X) (i : ℕ) (x : X) → i < length xs → i < length ys → slice_get ys i ≡ Some x → take i xs ≡ take i ys → take (i + 1) (set xs i x) ≡ take (i + 1) ys
one-more-copied xs ys i x inside within there so_far =
    take_more_set xs i x inside ∙
    ap (λ zs. zs ++ x ∷ []) so_far ∙
    ap (λ y. take i ys ++ y ∷ []) (sym (get_or_from_slice_get ys i x x there)) ∙
    sym (take_more ys i x within)

-- a part that is away is nothing
pub away-same : (parts : List (Option Local)) (n : ℕ) → is_part_away parts n ≡ true → parts ≡ set parts n None
away-same [] n away = refl
away-same (None ∷ ps) zero away = refl
away-same (Some s ∷ ps) zero away = absurd (false≢true away)
away-same (p ∷ ps) (suc n) away = ap (λ qs. p ∷ qs) (away-same ps n away)
