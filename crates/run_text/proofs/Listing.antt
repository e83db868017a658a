-- Printing the parts of a list one by one.
use Rattle.std.proofs.Common.{◌≡◌, ℕ, ◌+◌, ◌<◌, ◌∙◌, ap, sym, subst, arith, List, [], ◌∷◌, ◌++◌, map, length, drop, get_or}
use Rattle.std.specs.Prelude.{Option, flat_map}
use Rattle.std.specs.Io.KnownBytes.{Appends}
use Rattle.std.proofs.lemmas.List.{drop_more, get_or-map, length-map}
use Rattle.text_io.specs.Numbered.{numbered}
use Rattle.text_io.proofs.Leading.{Leads, leads-element, leads-more, leads-same}

-- the next element is printed, and those after it are left
pub leads-item : {X : Type 0} (say : X → List ℕ) (xs : List X) (i : ℕ) (x : X) (start now next : Option (List ℕ)) (all : List ℕ)
    → i < length xs → x ≡ get_or xs i x → Leads start now (flat_map say (drop i xs)) all → Appends now next (say x)
    → Leads start next (flat_map say (drop (i + 1) xs)) all
leads-item say xs i x start now next all within here l shown =
    leads-more _ _ _ _ _ _ (leads-same l (ap (flat_map say) (drop_more xs i x within))) (subst (λ y. Appends now next (say y)) here shown)

-- where elements are printed by their numbers alone, the first that is left is printed next
number-left : {X : Type 0} (say : ℕ → List ℕ) (xs : List X) (i n : ℕ) → i < length xs
    → numbered (λ k x. say k) n (drop i xs) ≡ say n ++ numbered (λ k x. say k) (n + 1) (drop (i + 1) xs)
number-left say [] i n within = absurd (omega arith)
number-left say (x ∷ xs) i n within = ap (numbered (λ k y. say k) n) (drop_more (x ∷ xs) i x within)

-- and those after it are left
pub leads-number : {X : Type 0} (say : ℕ → List ℕ) (xs : List X) (i : ℕ) (start now next : Option (List ℕ)) (all : List ℕ)
    → i < length xs → Leads start now (numbered (λ k x. say k) i (drop i xs)) all → Appends now next (say i)
    → Leads start next (numbered (λ k x. say k) (i + 1) (drop (i + 1) xs)) all
leads-number say xs i start now next all within l shown = leads-more _ _ _ _ _ _ (leads-same l (number-left say xs i i within)) shown

module _ {X D : Type 0} (f : X → D) (xs : List X) (i : ℕ) (x : X) (within : i < length xs) (here : x ≡ get_or xs i x) where
  -- what a function makes of an element is within what it makes of the list
  pub mapped-within : i < length (map f xs)
  mapped-within = subst (λ n. i < n) (sym (length-map xs f)) within

  -- and is there by the element's number
  pub mapped-here : f x ≡ get_or (map f xs) i (f x)
  mapped-here = ap f here ∙ sym (get_or-map f xs i x (f x) within)

  -- it is printed by its number
  pub leads-mapped : (say : ℕ → D → List ℕ) (start now next : Option (List ℕ)) (all : List ℕ)
      → Leads start now (numbered say i (drop i (map f xs))) all → Appends now next (say i (f x))
      → Leads start next (numbered say (i + 1) (drop (i + 1) (map f xs))) all
  leads-mapped say start now next all l shown = leads-element say (map f xs) i (f x) start now next all mapped-within mapped-here l shown
