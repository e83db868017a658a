-- Masks of a connector that stand for the same ports are one mask.
use Rattle.std.proofs.Common.{◌≡◌, ⊎_elim, ℕ, zero, suc, ◌+◌, ◌<◌, ◌^◌, sym, refl, ◌∙◌, ap, subst, List, [], ◌∷◌, length, Contains, arith, Bool, true, false, cond}
use Rattle.std.proofs.lemmas.Bool.{or_left, or_right}
use Rattle.petri_atom.proofs.Sets.{same_set}
use Rattle.connector_tree.specs.Faults.{atoms, has_repeat}
use Rattle.connector_tree.specs.Masks.{chosen, interactions_of, is_set, ports_of}
use Rattle.connector_tree.specs.PortSets.{holds_port, is_port_set, same_port}
use Rattle.connector_tree.specs.Tree.{Tree, leaves}
use Rattle.connector_tree.specs.declared.tree.Port.{Port}
use Rattle.connector_tree.proofs.Filtered.{passing_is}
use Rattle.connector_tree.proofs.Sets.{distinct, same_port-refl}
use Rattle.plant_model.proofs.Membership.{here, here-or-later, later}

in-holds : (ps : List Port) (p : Port) → Contains ps p → holds_port ps p ≡ true
in-holds [] p at = absurd (omega (arith, at.1))
in-holds (q ∷ qs) p at = ⊎_elim
    (λ is. or_left (same_port p q) (holds_port qs p) (ap (λ r. same_port r q) (sym is) ∙ same_port-refl q))
    (λ more. or_right (same_port p q) (holds_port qs p) (in-holds qs p more))
    (here-or-later q qs p at)

-- a port that no other of a connector's leaves is
not-again : (p : Port) (ps : List Port) → has_repeat (atoms (p ∷ ps)) ≡ false → Contains ps p → ⊥
not-again p ps apart again = (distinct (p ∷ []) ps apart).apart p (or_left (same_port p p) (holds_port [] p) (same_port-refl p)) (in-holds ps p again)

-- chosen leaves are leaves
chosen-in : (mask j : ℕ) (ps : List Port) (p : Port) → Contains (chosen mask j ps) p → Contains ps p
chosen-in mask j [] p at = at
chosen-in mask j (q ∷ qs) p at = each (chosen-in mask (j + 1) qs p) (is_set mask j) at
  where
    each : (Contains (chosen mask (j + 1) qs) p → Contains qs p) → (b : Bool) → Contains (cond b (q ∷ chosen mask (j + 1) qs) (chosen mask (j + 1) qs)) p → Contains (q ∷ qs) p
    each behind true held = ⊎_elim (λ is. subst (Contains (q ∷ qs)) is (here q qs)) (λ more. later q qs p (behind more)) (here-or-later q (chosen mask (j + 1) qs) p held)
    each behind false held = later q qs p (behind held)

-- the first leaf is chosen exactly where its bit is set
module _ (mask j : ℕ) (p : Port) (ps : List Port) where
  set-first : is_set mask j ≡ true → Contains (chosen mask j (p ∷ ps)) p
  set-first is = subst (λ b. Contains (cond b (p ∷ chosen mask (j + 1) ps) (chosen mask (j + 1) ps)) p) (sym is) (here p (chosen mask (j + 1) ps))

  first-set : has_repeat (atoms (p ∷ ps)) ≡ false → Contains (chosen mask j (p ∷ ps)) p → is_set mask j ≡ true
  first-set apart = each (is_set mask j)
    where
      each : (b : Bool) → Contains (cond b (p ∷ chosen mask (j + 1) ps) (chosen mask (j + 1) ps)) p → b ≡ true
      each true held = refl
      each false held = absurd (not-again p ps apart (chosen-in mask (j + 1) ps p held))

  -- a chosen one of the others is chosen of all
  behind-first : (q : Port) → Contains (chosen mask (j + 1) ps) q → Contains (chosen mask j (p ∷ ps)) q
  behind-first q held = elim (is_set mask j) as (λ b. Contains (cond b (p ∷ chosen mask (j + 1) ps) (chosen mask (j + 1) ps)) q) [
    | true ↦ later p (chosen mask (j + 1) ps) q held
    | false ↦ held
  ]

  -- and the other way round
  chosen-behind : has_repeat (atoms (p ∷ ps)) ≡ false → (q : Port) → Contains ps q → Contains (chosen mask j (p ∷ ps)) q → Contains (chosen mask (j + 1) ps) q
  chosen-behind apart q other = each (is_set mask j)
    where
      each : (b : Bool) → Contains (cond b (p ∷ chosen mask (j + 1) ps) (chosen mask (j + 1) ps)) q → Contains (chosen mask (j + 1) ps) q
      each true held = ⊎_elim (λ is. absurd (not-again p ps apart (subst (Contains ps) (sym is) other))) (λ more. more) (here-or-later p (chosen mask (j + 1) ps) q held)
      each false held = held

-- where each leaf that one mask chooses is chosen by another, so is each bit
set-in : (m n j : ℕ) (ps : List Port) → has_repeat (atoms ps) ≡ false → ((p : Port) → Contains (chosen m j ps) p → Contains (chosen n j ps) p)
    → (k : ℕ) → k < length ps → is_set m (j + k) ≡ true → is_set n (j + k) ≡ true
set-in m n j [] apart to k less is = absurd (omega (arith, less))
set-in m n j (p ∷ ps) apart to zero less is =
    let e : j + zero ≡ j = omega arith in
    ap (is_set n) e ∙ first-set n j p ps apart (to p (set-first m j p ps (ap (is_set m) (sym e) ∙ is)))
set-in m n j (p ∷ ps) apart to (suc k) less is =
    let e : j + suc k ≡ (j + 1) + k = omega arith in
    ap (is_set n) e
    ∙ set-in m n (j + 1) ps (distinct (p ∷ []) ps apart).right
    (λ q held. chosen-behind n j p ps apart q (chosen-in m (j + 1) ps q held) (to q (behind-first m j p ps q held)))
    k (omega (arith, less)) (ap (is_set m) (sym e) ∙ is)

same-test : (a b : Bool) → (a ≡ true → b ≡ true) → (b ≡ true → a ≡ true) → a ≡ b
same-test true b to from = sym (to refl)
same-test false true to from = from refl
same-test false false to from = refl

-- two masks of a connector's interactions, with the same ports
pub same-mask : (t : Tree) (m n : ℕ) → has_repeat (atoms (leaves t)) ≡ false → Contains (interactions_of t) m → Contains (interactions_of t) n
    → ((p : Port) → Contains (ports_of t m) p → Contains (ports_of t n) p) → ((p : Port) → Contains (ports_of t n) p → Contains (ports_of t m) p) → m ≡ n
same-mask t m n apart first second to from =
    let ps = leaves t in
    let test = λ (mask : ℕ). is_port_set t (ports_of t mask) in
    same_set (length ps) m n (passing_is test (2 ^ length ps) m first).0 (passing_is test (2 ^ length ps) n second).0 (λ k less.
    let e : 0 + k ≡ k = omega arith in
    same-test (is_set m k) (is_set n k)
    (λ is. ap (is_set n) (sym e) ∙ set-in m n 0 ps apart to k less (ap (is_set m) e ∙ is))
    (λ is. ap (is_set m) (sym e) ∙ set-in n m 0 ps apart from k less (ap (is_set n) e ∙ is)))
