-- Tests of the wires and transfers as they are kept are tests of them as they were written.
use Rattle.std.proofs.Common.{◌≡◌, add-one, ◌+◌, drop, ℕ, refl, sym, ◌∙◌, ap, List, [], ◌∷◌, map, take, get_or, length, ◌<◌, arith, Bool, ◌||◌, ◌&&◌}
use Rattle.std.specs.List.{list_any}
use Rattle.std.specs.Option.{option_or}
use Rattle.std.proofs.lemmas.List.{take-map, length-map, drop_more}
use Rattle.std.proofs.lemmas.Option.{same_Some, slice_get_read, slice_get-map}
use Rattle.std.specs.Prelude.{Option, Some, None, option_map, slice_get}
use Rattle.plant_model.specs.Rules.{first_of, first_fault_in}
use Rattle.plant_model.specs.Wire.{transfer_of}
use Rattle.plant_model.specs.declared.wire.Transfer.{Transfer}

-- a test of some that a function makes of a list is a test of the list
pub list_any-map : {X Y : Type 0} (f : Y → Bool) (v : X → Y) (xs : List X) → list_any f (map v xs) ≡ list_any (λ x. f (v x)) xs
list_any-map f v [] = refl
list_any-map f v (x ∷ xs) = ap (λ b. f (v x) || b) (list_any-map f v xs)

-- the same of the first elements of a list
pub any-of-first : {X Y : Type 0} (f : Y → Bool) (v : X → Y) (n : ℕ) (xs : List X) → list_any f (take n (map v xs)) ≡ list_any (λ x. f (v x)) (take n xs)
any-of-first f v n xs = ap (list_any f) (take-map v n xs) ∙ list_any-map f v (take n xs)

-- the targets of transfers as they are kept and as they were written
pub same_targets : (ts : List Transfer) → map (λ t. t.target) ts ≡ map (λ t. t.target) (map transfer_of ts)
same_targets [] = refl
same_targets (t ∷ ts) = ap (λ es. t.target ∷ es) (same_targets ts)

-- a function of four truth values that are the same
pub four : {X : Type 0} (f : Bool → Bool → Bool → Bool → X) {a b c d e g h i : Bool} → a ≡ e → b ≡ g → c ≡ h → d ≡ i → f a b c d ≡ f e g h i
four f {b = b} {c = c} {d = d} {e = e} {g = g} {h = h} p q r s =
    ap (λ x. f x b c d) p ∙ ap (λ x. f e x c d) q ∙ ap (λ x. f e g x d) r ∙ ap (λ x. f e g h x) s

-- of five
pub five : {X : Type 0} (f : Bool → Bool → Bool → Bool → Bool → X) {a b c d j e h i g k : Bool} → a ≡ e → b ≡ g → c ≡ h → d ≡ i → j ≡ k → f a b c d j ≡ f e g h i k
five f {b = b} {c = c} {d = d} {j = j} {e = e} {h = h} {i = i} {g = g} p q r s t =
    ap (λ x. f x b c d j) p ∙ ap (λ x. f e x c d j) q ∙ ap (λ x. f e g x d j) r ∙ ap (λ x. f e g h x j) s ∙ ap (λ x. f e g h i x) t

-- two lists that are the same, each element seen in its way, at a number
pub same_at : {X Y Z : Type 0} (f : X → Z) (g : Y → Z) (xs : List X) (ys : List Y) → map f xs ≡ map g ys → (n : ℕ) (x : X) (y : Y) → n < length ys → x ≡ get_or xs n x → y ≡ get_or ys n y → f x ≡ g y
same_at f g xs ys same n x y within here there =
    let as_many : length xs ≡ length ys = sym (length-map xs f) ∙ ap length same ∙ length-map ys g in
    same_Some (f x) (g y)
    (ap (option_map f) (sym (slice_get_read xs (length xs) n x refl (omega (arith, within, as_many)) here)) ∙ sym (slice_get-map f xs n) ∙ ap (λ zs. slice_get zs n) same ∙ slice_get-map g ys n ∙ ap (option_map g) (slice_get_read ys (length ys) n y refl within there))

-- two truth values that are the same, each beside another that is
pub both : {a b c d : Bool} → a ≡ c → b ≡ d → (a && b) ≡ (c && d)
both {b = b} {c = c} p q = ap (λ x. x && b) p ∙ ap (λ x. c && x) q

-- what is told from an element of a list on, each element seen as something else
module _ {X Y F : Type 0} (tell : ℕ → Y → Option F) (v : X → Y) (xs : List X) (i : ℕ) (x : X) (within : i < length xs) (here : x ≡ get_or xs i x) (all : Option F) (so_far : first_fault_in tell i (map v (drop i xs)) ≡ all) where
  from-here : first_of (tell i (v x)) (first_fault_in tell (i + 1) (map v (drop (i + 1) xs))) ≡ all
  from-here =
      sym (ap (λ ys. first_fault_in tell i (map v ys)) (drop_more xs i x within ∙ ap (λ y. y ∷ drop (i + 1) xs) (sym here)) ∙
      ap (λ n. first_of (tell i (v x)) (first_fault_in tell n (map v (drop (i + 1) xs)))) (sym (add-one i))) ∙
      so_far

  -- it tells something
  pub told-now : (fault : F) → tell i (v x) ≡ Some fault → Some fault ≡ all
  told-now fault told = ap (λ o. first_of o (first_fault_in tell (i + 1) (map v (drop (i + 1) xs)))) (sym told) ∙ from-here

  -- or nothing
  pub told-later : tell i (v x) ≡ None → first_fault_in tell (i + 1) (map v (drop (i + 1) xs)) ≡ all
  told-later told = ap (λ o. first_of o (first_fault_in tell (i + 1) (map v (drop (i + 1) xs)))) (sym told) ∙ from-here

-- an option, or else nothing
pub or_none : {X : Type 0} (o : Option X) → option_or o None ≡ o
or_none None = refl
or_none (Some x) = refl
