-- The entry of a list, and that of what a function makes of the list, by a number that stands in a machine word.
use Rattle.std.proofs.Common.{◌≡◌, ℕ, ◌<◌, ◌≤◌, refl, ◌∙◌, ap, sym, subst, List, [], map, length, get_or, arith}
use Rattle.std.specs.Prelude.{Option, Some, None, Result, OnOk, slice_get, option_map}
use Rattle.std.specs.Io.KnownBytes.{Appends}
use Rattle.std.specs.Option.{option_map_or}
use Rattle.std.proofs.KnownBytes.{Appends-nil}
use Rattle.std.proofs.lemmas.List.{length-map}
use Rattle.std.proofs.lemmas.Option.{slice_get-map, slice_get_read, slice_get_past}

-- an entry
pub entry-at : {X : Type 0} (xs : List X) (n k : ℕ) (x : X) → n ≡ k → n < length xs → x ≡ get_or xs n x → slice_get xs k ≡ Some x
entry-at xs n k x same within here = ap (slice_get xs) (sym same) ∙ slice_get_read xs (length xs) n x refl within here

-- none from the length on
pub entry-past : {X : Type 0} (xs : List X) (n k : ℕ) → n ≡ k → length xs ≤ n → slice_get xs k ≡ None
entry-past xs n k same past = slice_get_past xs k (omega (arith, same))

module _ {X Y : Type 0} (g : X → Y) (xs : List X) (ys : List Y) (made : map g xs ≡ ys) (n k : ℕ) (same : n ≡ k) where
  -- the same of what is made
  pub made-at : (x : X) → n < length xs → x ≡ get_or xs n x → slice_get ys k ≡ Some (g x)
  made-at x within here =
      ap (λ zs. slice_get zs k) (sym made) ∙ slice_get-map g xs k ∙ ap (option_map g) (entry-at xs n k x same within here)

  pub made-past : length xs ≤ n → slice_get ys k ≡ None
  made-past past = slice_get_past ys k (omega (arith, same, length-map xs g, ap length made))

-- ---- what is said of an entry

-- what is printed of an entry that is there
pub printed-entry : {X T E : Type 0} (say : X → List ℕ) (o : Option X) (x : X) (result : Result T E) (start after : Option (List ℕ))
    → o ≡ Some x → OnOk result (Appends start after (say x)) → OnOk result (Appends start after (option_map_or say o []))
printed-entry say o x result start after there printed = subst (λ p. OnOk result (Appends start after (option_map_or say p []))) (sym there) printed

-- nothing is printed of one that is not
pub printed-no-entry : {X : Type 0} (say : X → List ℕ) (o : Option X) (now : Option (List ℕ)) → o ≡ None → Appends now now (option_map_or say o [])
printed-no-entry say o now none = subst (λ p. Appends now now (option_map_or say p [])) (sym none) (Appends-nil now)
