-- Fronts: what a function gives for numbers in a row, up to the first number for which it gives nothing.
use Rattle.std.proofs.Common.{◌≡◌, ℕ, zero, suc, ◌+◌, ◌-◌, ◌<◌, ◌≤◌, List, [], ◌∷◌, ◌++◌, length, map, drop, Option, Some, None, refl, ◌∙◌, ap, arith, append-nil}
use Rattle.std.specs.List.{range_with_len}
use Rattle.std.specs.Option.{some_prefix}

-- the values from number b on, of at most n numbers
abbrev pub front : {X : Type 0} → (ℕ → Option X) → ℕ → ℕ → List X
front h b n = some_prefix (map h (range_with_len b n))

-- the front of n + 1 numbers, where this is the value of the first
abbrev first_then : {X : Type 0} → (ℕ → Option X) → ℕ → ℕ → Option X → List X
first_then h b n o = some_prefix (o ∷ map h (range_with_len (b + 1) n))

pub first_is : {X : Type 0} (h : ℕ → Option X) (b n : ℕ) (o : Option X) → h b ≡ o → front h b (suc n) ≡ first_then h b n o
first_is h b n o is = ap (first_then h b n) is

pub front_length : {X : Type 0} (h : ℕ → Option X) (b n : ℕ) → length (front h b n) ≤ n
front_length h b zero = omega arith
front_length h b (suc n) = elim (h b) as (λ o. length (first_then h b n o) ≤ suc n) [
  | None ↦ omega arith
  | Some x ↦ omega (arith, front_length h (b + 1) n)
]

-- a front whose first number has no value is empty
pub front_stops : {X : Type 0} (h : ℕ → Option X) (b n : ℕ) → (0 < n → h b ≡ None) → front h b n ≡ []
front_stops h b zero none = refl
front_stops h b (suc n) none = first_is h b n None (none (omega arith))

-- Where g agrees with h along the front of h, of c numbers, its own front goes on after it.
pub front_splits : {X : Type 0} (g h : ℕ → Option X) (b n p c e m : ℕ) → length (front h b n) ≡ c → b + c ≡ e → p ≡ c + m → ((i : ℕ) → b ≤ i → i < e → g i ≡ h i) → front g b p ≡ front h b n ++ front g e m
front_splits g h b zero p c e m long end rest agrees =
    let here : b ≡ e = omega arith in
    let all : p ≡ m = omega arith in
    ap (λ (k : ℕ). front g k p) here ∙ ap (front g e) all
front_splits {X} g h b (suc n) p c e m long end rest agrees =
    elim (h b) as (λ o. h b ≡ o → length (first_then h b n o) ≡ c → front g b p ≡ first_then h b n o ++ front g e m) [
      | None ↦ λ is empty.
          let here : b ≡ e = omega arith in
          let all : p ≡ m = omega arith in
          ap (λ (k : ℕ). front g k p) here ∙ ap (front g e) all
      | Some x ↦ λ is more.
          let l : ℕ = length (front h (b + 1) n) in
          let q : ℕ = l + m in
          let one : l + 1 ≡ c = omega (arith, more) in
          let p_is : p ≡ suc q = omega (arith, one, rest) in
          let e_is : (b + 1) + l ≡ e = omega (arith, one, end) in
          let same : g b ≡ Some x = agrees b (omega arith) (omega (arith, one, end)) ∙ is in
          ap (front g b) p_is ∙ first_is g b q (Some x) same ∙ ap (λ (xs : List X). x ∷ xs) (front_splits g h (b + 1) n q l e m refl e_is refl (λ i from to. agrees i (omega (arith, from)) to))
    ] refl long

-- Where g also has no value after it, the two fronts are one.
pub front_same : {X : Type 0} (g h : ℕ → Option X) (b n p c e : ℕ) → length (front h b n) ≡ c → c ≤ p → b + c ≡ e → ((i : ℕ) → b ≤ i → i < e → g i ≡ h i) → (e < b + p → g e ≡ None) → front g b p ≡ front h b n
front_same {X} g h b n p c e long short end agrees none =
    let m : ℕ = p - c in
    let rest : p ≡ c + m = omega (arith, short) in
    front_splits g h b n p c e m long end rest agrees ∙ ap (λ (xs : List X). front h b n ++ xs) (front_stops g e m (λ some. none (omega (arith, some, rest, end)))) ∙ append-nil (front h b n)

-- a front without its first k values
pub front_drops : {X : Type 0} (h : ℕ → Option X) (b n k e m : ℕ) → k ≤ length (front h b n) → b + k ≡ e → n ≡ k + m → front h e m ≡ drop k (front h b n)
front_drops h b n zero e m short from rest =
    let here : e ≡ b = omega arith in
    let all : m ≡ n = omega arith in
    ap (λ (i : ℕ). front h i m) here ∙ ap (front h b) all
front_drops h b zero (suc k) e m short from rest = absurd (omega arith)
front_drops h b (suc n) (suc k) e m short from rest =
    elim (h b) as (λ o. suc k ≤ length (first_then h b n o) → front h e m ≡ drop (suc k) (first_then h b n o)) [
      | None ↦ λ none. absurd (omega (arith, none))
      | Some x ↦ λ shorter. front_drops h (b + 1) n k e m (omega (arith, shorter)) (omega (arith, from)) (omega (arith, rest))
    ] short

-- each number along the front has a value
pub front_some : {X : Type 0} (h : ℕ → Option X) (b n i e : ℕ) → i < length (front h b n) → b + i ≡ e → (x : X) × (h e ≡ Some x)
front_some h b zero i e within at = absurd (omega arith)
front_some {X} h b (suc n) zero e within at =
    let here : e ≡ b = omega arith in
    elim (h b) as (λ o. h b ≡ o → 0 < length (first_then h b n o) → (x : X) × (h e ≡ Some x)) [
      | None ↦ λ is none. absurd (omega (arith, none))
      | Some x ↦ λ is some. (x, ap h here ∙ is)
    ] refl within
front_some {X} h b (suc n) (suc i) e within at =
    elim (h b) as (λ o. suc i < length (first_then h b n o) → (x : X) × (h e ≡ Some x)) [
      | None ↦ λ none. absurd (omega (arith, none))
      | Some x ↦ λ shorter. front_some h (b + 1) n i e (omega (arith, shorter)) (omega (arith, at))
    ] within

-- and the one after it has none
pub front_ends : {X : Type 0} (h : ℕ → Option X) (b n c e : ℕ) → length (front h b n) ≡ c → c < n → b + c ≡ e → h e ≡ None
front_ends h b zero c e long short at = absurd (omega arith)
front_ends h b (suc n) c e long short at =
    elim (h b) as (λ o. h b ≡ o → length (first_then h b n o) ≡ c → h e ≡ None) [
      | None ↦ λ is empty. let here : e ≡ b = omega (arith, empty, at) in ap h here ∙ is
      | Some x ↦ λ is more.
          let l : ℕ = length (front h (b + 1) n) in
          let one : l + 1 ≡ c = omega (arith, more) in
          front_ends h (b + 1) n l e refl (omega (arith, one, short)) (omega (arith, one, at))
    ] refl long
