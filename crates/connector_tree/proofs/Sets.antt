-- Sets of ports as lists: what a union, a product and a sum hold, and how a choice of leaves agrees with a set.
use Rattle.std.proofs.Common.{◌≡◌, ◌+◌, ◌==◌, ◌⊎◌, ℕ, Bool, true, false, ◌||◌, List, [], ◌∷◌, ◌++◌, map, length, refl, ap, sym, ◌∙◌, subst, inl, inr, arith}
use Rattle.std.specs.List.{list_any}
use Rattle.std.proofs.lemmas.Bool.{or_cases, or_parts, or_left, or_right, or_from, and_parts, and_from, both_ways, eqb-true, eq-eqb}
use Rattle.std.proofs.lemmas.List.Folds.{list_any-append}
use Rattle.std.proofs.lemmas.List.{map-append}
use Rattle.connector_tree.specs.declared.tree.Port.{Port}
use Rattle.connector_tree.specs.PortSets.{Sets, same_port, holds_port, unions}
use Rattle.connector_tree.specs.Faults.{has_repeat, atoms}

-- the set stands in the list
abbrev pub Among : List Port → Sets → Type 0
Among t [] = ⊥
Among t (x ∷ xs) = (t ≡ x) ⊎ Among t xs

pub among_left : (t : List Port) (xs ys : Sets) → Among t xs → Among t (xs ++ ys)
among_left t [] ys m = absurd m
among_left t (x ∷ xs) ys (inl e) = inl e
among_left t (x ∷ xs) ys (inr m) = inr (among_left t xs ys m)

pub among_right : (t : List Port) (xs ys : Sets) → Among t ys → Among t (xs ++ ys)
among_right t [] ys m = m
among_right t (x ∷ xs) ys m = inr (among_right t xs ys m)

pub among_cases : (t : List Port) (xs ys : Sets) → Among t (xs ++ ys) → Among t xs ⊎ Among t ys
among_cases t [] ys m = inr m
among_cases t (x ∷ xs) ys (inl e) = inl (inl e)
among_cases t (x ∷ xs) ys (inr m) = elim (among_cases t xs ys m) [ inl k ↦ inl (inr k) | inr k ↦ inr k ]

among_map : (a b : List Port) (ys : Sets) → Among b ys → Among (a ++ b) (map (λ y. a ++ y) ys)
among_map a b [] m = absurd m
among_map a b (y ∷ ys) (inl e) = inl (ap (λ z. a ++ z) e)
among_map a b (y ∷ ys) (inr m) = inr (among_map a b ys m)

among_map_back : (t a : List Port) (ys : Sets) → Among t (map (λ y. a ++ y) ys) → (b : List Port) × Among b ys × (t ≡ a ++ b)
among_map_back t a [] m = absurd m
among_map_back t a (y ∷ ys) (inl e) = (y, inl refl, e)
among_map_back t a (y ∷ ys) (inr m) = let r = among_map_back t a ys m in (r.0, inr r.1, r.2)

-- a union of one set from each is among the unions
pub among_unions : (a b : List Port) (xs ys : Sets) → Among a xs → Among b ys → Among (a ++ b) (unions xs ys)
among_unions a b [] ys m k = absurd m
among_unions a b (x ∷ xs) ys (inl e) k = among_left _ _ _ (subst (λ z. Among (a ++ b) (map (λ y. z ++ y) ys)) e (among_map a b ys k))
among_unions a b (x ∷ xs) ys (inr m) k = among_right _ _ _ (among_unions a b xs ys m k)

-- the set is a union of one set from each
abbrev pub Union : List Port → Sets → Sets → Type 0
Union t xs ys = (a : List Port) × (b : List Port) × Among a xs × Among b ys × (t ≡ a ++ b)

-- each of the unions is
pub among_unions_back : (t : List Port) (xs ys : Sets) → Among t (unions xs ys) → Union t xs ys
among_unions_back t [] ys m = absurd m
among_unions_back t (x ∷ xs) ys m = elim (among_cases t (map (λ y. x ++ y) ys) (unions xs ys) m) [
  | inl k ↦ let r = among_map_back t x ys k in (x, r.0, inl refl, r.1, r.2)
  | inr k ↦ let r = among_unions_back t xs ys k in (r.0, r.1, inr r.2, r.3, r.4)
]

pub same_port-refl : (p : Port) → same_port p p ≡ true
same_port-refl p = and_from _ _ (eq-eqb p.atom p.atom refl) (eq-eqb p.port p.port refl)

pub same_port-true : (p q : Port) → same_port p q ≡ true → p ≡ q
same_port-true p q h =
    let parts = and_parts _ _ h in
    λ i. record { atom = eqb-true p.atom q.atom parts.0 i; port = eqb-true p.port q.port parts.1 i }

pub has-append : (xs ys : List Port) (p : Port) → holds_port (xs ++ ys) p ≡ (holds_port xs p || holds_port ys p)
has-append xs ys p = list_any-append (same_port p) xs ys

-- each port of the first is one of the second
abbrev pub Inside : List Port → List Port → Type 0
Inside s t = (p : Port) → holds_port s p ≡ true → holds_port t p ≡ true

-- no port is in both
abbrev pub Apart : List Port → List Port → Type 0
Apart s t = (p : Port) → holds_port s p ≡ true → holds_port t p ≡ true → ⊥

-- the choice of leaf numbers from `at` on is that of the test on their ports
abbrev pub Agrees : (ℕ → Bool) → ℕ → List Port → (Port → Bool) → Type 0
Agrees f at [] test = Unit {0}
Agrees f at (p ∷ ps) test = (f at ≡ test p) × Agrees f (at + 1) ps test

pub agrees_left : (f : ℕ → Bool) (at : ℕ) (ps qs : List Port) (test : Port → Bool) → Agrees f at (ps ++ qs) test → Agrees f at ps test
agrees_left f at [] qs test h = tt
agrees_left f at (p ∷ ps) qs test h = (h.0, agrees_left f (at + 1) ps qs test h.1)

pub agrees_right : (f : ℕ → Bool) (at : ℕ) (ps qs : List Port) (test : Port → Bool) → Agrees f at (ps ++ qs) test → Agrees f (at + length ps) qs test
agrees_right f at [] qs test h = let e : at + 0 ≡ at = omega arith in subst (λ n. Agrees f n qs test) (sym e) h
agrees_right f at (p ∷ ps) qs test h =
    let e : at + length (p ∷ ps) ≡ (at + 1) + length ps = omega arith in
    subst (λ n. Agrees f n qs test) (sym e) (agrees_right f (at + 1) ps qs test h.1)

pub agrees_both : (f : ℕ → Bool) (at : ℕ) (ps qs : List Port) (test : Port → Bool) → Agrees f at ps test → Agrees f (at + length ps) qs test → Agrees f at (ps ++ qs) test
agrees_both f at [] qs test h k = let e : at + 0 ≡ at = omega arith in subst (λ n. Agrees f n qs test) e k
agrees_both f at (p ∷ ps) qs test h k =
    let e : at + length (p ∷ ps) ≡ (at + 1) + length ps = omega arith in
    (h.0, agrees_both f (at + 1) ps qs test h.1 (subst (λ n. Agrees f n qs test) e k))

-- tests that give one answer on the leaves are alike
pub agrees_by : (f : ℕ → Bool) (at : ℕ) (ps : List Port) (test other : Port → Bool) → ((p : Port) → holds_port ps p ≡ true → test p ≡ other p) → Agrees f at ps test → Agrees f at ps other
agrees_by f at [] test other same h = tt
agrees_by f at (p ∷ ps) test other same h =
    (h.0 ∙ same p (or_left _ _ (same_port-refl p)), agrees_by f (at + 1) ps test other (λ q k. same q (or_right _ _ k)) h.1)

-- two tests that one choice agrees with give one answer on the leaves
pub agrees_same : (f : ℕ → Bool) (at : ℕ) (ps : List Port) (test other : Port → Bool) → Agrees f at ps test → Agrees f at ps other → (p : Port) → holds_port ps p ≡ true → test p ≡ other p
agrees_same f at [] test other h k p m = absurd (both_ways false refl m)
agrees_same f at (q ∷ ps) test other h k p m = elim (or_cases _ _ m) [
  | inl e ↦ let is = same_port-true p q e in ap test is ∙ sym h.0 ∙ k.0 ∙ ap other (sym is)
  | inr e ↦ agrees_same f (at + 1) ps test other h.1 k.1 p e
]

-- the atom of a port among them is among their atoms
has_atom : (ps : List Port) (p : Port) → holds_port ps p ≡ true → list_any (λ n. p.atom == n) (atoms ps) ≡ true
has_atom [] p m = m
has_atom (q ∷ ps) p m = elim (or_cases _ _ m) [
  | inl e ↦ or_left (p.atom == q.atom) (list_any (λ n. p.atom == n) (atoms ps)) (and_parts (p.atom == q.atom) (p.port == q.port) e).0
  | inr e ↦ or_right _ _ (has_atom ps p e)
]

-- no number stands twice in the two lists together: none twice in either, and none in both
pub record NoRepeats (xs ys : List ℕ) : Type 0 where
  pub left : has_repeat xs ≡ false
  pub right : has_repeat ys ≡ false
  pub apart : (n : ℕ) → list_any (λ m. n == m) xs ≡ true → list_any (λ m. n == m) ys ≡ true → ⊥

pub has_repeat-append : (xs ys : List ℕ) → has_repeat (xs ++ ys) ≡ false → NoRepeats xs ys
has_repeat-append [] ys h = record { left = refl; right = h; apart = λ n m. absurd (both_ways false refl m) }
has_repeat-append (x ∷ xs) ys h =
    let here = or_parts _ _ h in
    let rest = has_repeat-append xs ys here.1 in
    let parts = or_parts _ _ (sym (list_any-append (λ m. x == m) xs ys) ∙ here.0) in
    record {
      left = or_from _ _ parts.0 rest.left;
      right = rest.right;
      apart = λ n m k. elim (or_cases _ _ m) [
        | inl e ↦ both_ways _ parts.1 (subst (λ z. list_any (λ m. z == m) ys ≡ true) (eqb-true n x e) k)
        | inr e ↦ rest.apart n e k
      ];
    }

-- the same of ports and their atoms
pub record Distinct (ps qs : List Port) : Type 0 where
  pub left : has_repeat (atoms ps) ≡ false
  pub right : has_repeat (atoms qs) ≡ false
  pub apart : Apart ps qs

pub distinct : (ps qs : List Port) → has_repeat (atoms (ps ++ qs)) ≡ false → Distinct ps qs
distinct ps qs h =
    let split = has_repeat-append (atoms ps) (atoms qs) (ap has_repeat (sym (map-append (λ port. port.atom) ps qs)) ∙ h) in
    record { left = split.left; right = split.right; apart = λ p m k. split.apart p.atom (has_atom ps p m) (has_atom qs p k) }
