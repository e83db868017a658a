-- Beginnings of one list.
use Rattle.std.proofs.Common.{true, false, if◌then◌else◌, nat_le, List, [], ◌++◌, length, All, refl, ap, sym, ◌∙◌, append_assoc}
use mathlib.Core.List.{IsPrefix}
use Rattle.std.proofs.lemmas.List.{append-nil}
use Rattle.std.proofs.lemmas.List.Elements.{All-weaker}
use Rattle.front_word.specs.Rules.{longer}

-- each list begins with itself
pub prefix_self : {A : Type 0} (xs : List A) → IsPrefix xs xs
prefix_self xs = ([], append-nil xs)

pub prefix_more : {A : Type 0} (xs ys : List A) → IsPrefix xs (xs ++ ys)
prefix_more xs ys = (ys, refl)

pub prefix_trans : {A : Type 0} (xs ys zs : List A) → IsPrefix xs ys → IsPrefix ys zs → IsPrefix xs zs
prefix_trans xs ys zs p q = (p.0 ++ q.0, sym (append_assoc xs p.0 q.0) ∙ (ap (λ w. w ++ q.0) p.1 ∙ q.1))

-- the longer of two beginnings of one list is one
pub prefix_longer : {A : Type 0} (xs ys zs : List A) → IsPrefix xs zs → IsPrefix ys zs → IsPrefix (longer xs ys) zs
prefix_longer xs ys zs p q = elim (nat_le (length xs) (length ys)) as (λ b. IsPrefix (if b then ys else xs) zs) [ true ↦ q | false ↦ p ]

pub all_prefixes : {A : Type 0} (xss : List (List A)) (ys zs : List A) → IsPrefix ys zs → All (λ xs. IsPrefix xs ys) xss → All (λ xs. IsPrefix xs zs) xss
all_prefixes xss ys zs p h = All-weaker (λ xs. IsPrefix xs ys) (λ xs. IsPrefix xs zs) (λ xs q. prefix_trans xs ys zs q p) xss h
