-- The ports of an interaction, as the walk over the leaves of its connector finds them, atom by atom.
use Rattle.std.proofs.Common.{◌≡◌, ℕ, zero, suc, arith, eqb, ltb, filter, ◌≤◌, ◌+◌, ◌<◌, Bool, true, false, cond, sym, ◌∙◌, ap, add-one, List, [], ◌∷◌, ◌++◌, drop, get_or, length}
use Rattle.std.proofs.Math.Seq.{drop-cons}
use Rattle.std.proofs.lemmas.Bool.{le-ltb}
use Rattle.std.proofs.lemmas.Bool.Decides.{nat_tests}
use Rattle.std.proofs.lemmas.List.{append_assoc, length-append}
use Rattle.plant_model.specs.Choice.{by_atom}
use Rattle.connector_tree.specs.Masks.{chosen, is_set}
use Rattle.connector_tree.specs.declared.tree.Port.{Port}

module _ (mask i : ℕ) (leaves : List Port) (d : Port) (within : i < length leaves) where
  -- the ports of a mask from a leaf on
  chosen-at : (b : Bool) → is_set mask i ≡ b → chosen mask i (drop i leaves) ≡ cond b (get_or leaves i d ∷ chosen mask (i + 1) (drop (i + 1) leaves)) (chosen mask (i + 1) (drop (i + 1) leaves))
  chosen-at b told =
      ap (chosen mask i) (drop-cons leaves i d within ∙ ap (λ k. get_or leaves i d ∷ drop k leaves) (sym (add-one i))) ∙
      ap (λ x. cond x (get_or leaves i d ∷ chosen mask (i + 1) (drop (i + 1) leaves)) (chosen mask (i + 1) (drop (i + 1) leaves))) told

  -- a leaf that the mask has adds its port
  pub chosen-taken : (so_far now all : List Port) → is_set mask i ≡ true → now ≡ so_far ++ get_or leaves i d ∷ [] → so_far ++ chosen mask i (drop i leaves) ≡ all → now ++ chosen mask (i + 1) (drop (i + 1) leaves) ≡ all
  chosen-taken so_far now all told added before =
      ap (λ xs. xs ++ chosen mask (i + 1) (drop (i + 1) leaves)) added ∙
      append_assoc so_far (get_or leaves i d ∷ []) (chosen mask (i + 1) (drop (i + 1) leaves)) ∙
      ap (λ xs. so_far ++ xs) (sym (chosen-at true told)) ∙ before

  -- and another one adds none
  pub chosen-passed : (so_far all : List Port) → is_set mask i ≡ false → so_far ++ chosen mask i (drop i leaves) ≡ all → so_far ++ chosen mask (i + 1) (drop (i + 1) leaves) ≡ all
  chosen-passed so_far all told before = ap (λ xs. so_far ++ xs) (sym (chosen-at false told)) ∙ before

length-kept : {X : Type 0} (b : Bool) (x : X) (xs : List X) → length (cond b (x ∷ xs) xs) ≡ cond b 1 0 + length xs
length-kept true x xs = omega arith
length-kept false x xs = omega arith

-- below one more is below, or the one itself
one_more : (n k : ℕ) → cond (ltb k n) 1 0 + cond (eqb k n) 1 0 ≡ cond (ltb k (suc n)) 1 0
one_more n k = grind (arith, nat_tests)

abbrev is_below : ℕ → Port → Bool
is_below n p = ltb p.atom n

split_at : (n : ℕ) (ps : List Port) → length (filter (is_below n) ps) + length (filter (λ p. eqb p.atom n) ps) ≡ length (filter (is_below (suc n)) ps)
split_at n [] = omega arith
split_at n (p ∷ ps) =
    omega (arith, length-kept (is_below n p) p (filter (is_below n) ps), length-kept (eqb p.atom n) p (filter (λ q. eqb q.atom n) ps), length-kept (is_below (suc n) p) p (filter (is_below (suc n)) ps), one_more n p.atom, split_at n ps)

length-by_atom : (n : ℕ) (ps : List Port) → length (by_atom n ps) ≡ length (filter (is_below n) ps)
length-by_atom zero ps = omega (arith, none_below ps)
  where
    none_below : (qs : List Port) → length (filter (is_below 0) qs) ≡ 0
    none_below [] = omega arith
    none_below (q ∷ qs) =
        ap (λ b. length (cond b (q ∷ filter (is_below 0) qs) (filter (is_below 0) qs))) (le-ltb q.atom 0 (omega arith)) ∙ none_below qs
length-by_atom (suc n) ps =
    length-append (by_atom n ps) (filter (λ p. eqb p.atom n) ps) ∙ omega (arith, length-by_atom n ps, split_at n ps)

length-filtered : {X : Type 0} (f : X → Bool) (xs : List X) → length (filter f xs) ≤ length xs
length-filtered f [] = omega arith
length-filtered f (x ∷ xs) =
    elim (f x) as (λ b. length (cond b (x ∷ filter f xs) (filter f xs)) ≤ suc (length xs)) [
      | true ↦ omega (arith, length-filtered f xs)
      | false ↦ omega (arith, length-filtered f xs)
    ]

length-chosen : (mask j : ℕ) (ps : List Port) → length (chosen mask j ps) ≤ length ps
length-chosen mask j [] = omega arith
length-chosen mask j (p ∷ ps) =
    elim (is_set mask j) as (λ b. length (cond b (p ∷ chosen mask (j + 1) ps) (chosen mask (j + 1) ps)) ≤ suc (length ps)) [
      | true ↦ omega (arith, length-chosen mask (j + 1) ps)
      | false ↦ omega (arith, length-chosen mask (j + 1) ps)
    ]

-- an interaction has no more ports than its connector has leaves
pub few_ports : (atoms mask : ℕ) (ports : List Port) → length (by_atom atoms (chosen mask 0 ports)) ≤ length ports
few_ports atoms mask ports =
    omega (arith, length-by_atom atoms (chosen mask 0 ports), length-filtered (is_below atoms) (chosen mask 0 ports), length-chosen mask 0 ports)
