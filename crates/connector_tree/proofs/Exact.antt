-- The walk over a mask answers whether the mask's ports are a port set.
use Rattle.std.proofs.Common.{◌↔◌, ◌≡◌, ◌+◌, ◌^◌, ℕ, Bool, true, false, cond, List, [], ◌∷◌, length, refl, sym, ◌∙◌, subst, inl, inr}
use Rattle.std.specs.List.{list_any, list_all, Contains}
use Rattle.std.specs.List.Sorted.{IsStrictlyIncreasing}
use Rattle.std.proofs.lemmas.Bool.{or_cases, or_left, or_right, and_parts, and_from, both_ways, false_from_ne_true}
use Rattle.connector_tree.specs.declared.tree.Port.{Port}
use Rattle.connector_tree.specs.Tree.{Tree, bracket, leaves}
use Rattle.connector_tree.specs.PortSets.{Sets, same_port, holds_port, same_set, port_sets, is_port_set}
use Rattle.connector_tree.specs.Masks.{is_set, chosen, ports_of, interactions_of, IsInteraction}
use Rattle.connector_tree.specs.Faults.{has_repeat, atoms}
use Rattle.connector_tree.specs.Walk.{seen_children, takes_all, takes}
use Rattle.connector_tree.proofs.Sets.{Among, Inside, Agrees, agrees_by, agrees_same, same_port-refl, same_port-true, distinct}
use Rattle.connector_tree.proofs.Filtered.{passing, passing_is, is_passing, passing_rises}
use Rattle.connector_tree.proofs.Gives.{Tells}
use Rattle.connector_tree.proofs.Walks.{is_seen}

inside_tail : (q : Port) (s t : List Port) → Inside (q ∷ s) t → Inside s t
inside_tail q s t h p m = h p (or_right (same_port p q) _ m)

pub all_has : (s t : List Port) → Inside s t → list_all (holds_port t) s ≡ true
all_has [] t h = refl
all_has (q ∷ s) t h = and_from _ _ (h q (or_left _ _ (same_port-refl q))) (all_has s t (inside_tail q s t h))

has_all : (s t : List Port) → list_all (holds_port t) s ≡ true → Inside s t
has_all [] t h p m = absurd (both_ways false refl m)
has_all (q ∷ s) t h p m =
    let parts = and_parts (holds_port t q) (list_all (holds_port t) s) h in
    elim (or_cases (same_port p q) (holds_port s p) m) [
      | inl e ↦ subst (λ z. holds_port t z ≡ true) (sym (same_port-true p q e)) parts.0
      | inr e ↦ has_all s t parts.1 p e
    ]

same_bool : (a b : Bool) → (a ≡ true → b ≡ true) → (b ≡ true → a ≡ true) → a ≡ b
same_bool true b f g = sym (f refl)
same_bool false true f g = g refl
same_bool false false f g = refl

-- sets that are the same have the same ports
same_set_has : (s t : List Port) → same_set s t ≡ true → (p : Port) → holds_port s p ≡ holds_port t p
same_set_has s t h p =
    let parts = and_parts (list_all (holds_port t) s) (list_all (holds_port s) t) h in
    same_bool (holds_port s p) (holds_port t p) (has_all s t parts.0 p) (has_all t s parts.1 p)

-- a set of the list that is the same as this one
pub found : (s : List Port) (sets : Sets) → list_any (same_set s) sets ≡ true → (t : List Port) × Among t sets × (same_set s t ≡ true)
found s [] h = absurd (both_ways false refl h)
found s (t ∷ sets) h = elim (or_cases (same_set s t) (list_any (same_set s) sets) h) [
  | inl e ↦ (t, inl refl, e)
  | inr e ↦ let r = found s sets e in (r.0, inr r.1, r.2)
]

pub finds : (s t : List Port) (sets : Sets) → Among t sets → same_set s t ≡ true → list_any (same_set s) sets ≡ true
finds s t [] m e = absurd m
finds s t (x ∷ sets) (inl is) e = or_left _ _ (subst (λ z. same_set s z ≡ true) is e)
finds s t (x ∷ sets) (inr m) e = or_right (same_set s x) _ (finds s t sets m e)

inside_more : (b : Bool) (p : Port) (rest ps : List Port) → Inside rest ps → Inside (cond b (p ∷ rest) rest) (p ∷ ps)
inside_more true p rest ps h q m = elim (or_cases (same_port q p) (holds_port rest q) m) [
  | inl e ↦ or_left _ _ e
  | inr e ↦ or_right (same_port q p) _ (h q e)
]
inside_more false p rest ps h q m = or_right (same_port q p) _ (h q m)

-- the chosen ports are leaves
chosen_inside : (mask j : ℕ) (ps : List Port) → Inside (chosen mask j ps) ps
chosen_inside mask j [] q m = m
chosen_inside mask j (p ∷ ps) q m = inside_more (is_set mask j) p (chosen mask (j + 1) ps) ps (chosen_inside mask (j + 1) ps) q m

-- a port more that is none of the others: the choice of the others stays
agrees_more : (f : ℕ → Bool) (at : ℕ) (b : Bool) (p : Port) (rest ps : List Port) → (holds_port ps p ≡ true → ⊥) → Inside rest ps → f at ≡ b → Agrees f (at + 1) ps (holds_port rest) → Agrees f at (p ∷ ps) (holds_port (cond b (p ∷ rest) rest))
agrees_more f at true p rest ps apart inside e h = (
  e ∙ sym (or_left _ _ (same_port-refl p)),
  agrees_by f (at + 1) ps (holds_port rest) (holds_port (p ∷ rest)) (λ q m. same_bool _ _ (or_right (same_port q p) (holds_port rest q)) (λ k. elim (or_cases (same_port q p) (holds_port rest q) k) [
    | inl w ↦ absurd (apart (subst (λ z. holds_port ps z ≡ true) (same_port-true q p w) m))
    | inr w ↦ w
  ])) h,
)
agrees_more f at false p rest ps apart inside e h = (e ∙ sym (false_from_ne_true _ (λ m. apart (inside p m))), h)

-- the bits of a mask agree with the ports that it stands for
chosen_agrees : (mask j : ℕ) (ps : List Port) → has_repeat (atoms ps) ≡ false → Agrees (is_set mask) j ps (holds_port (chosen mask j ps))
chosen_agrees mask j [] h = tt
chosen_agrees mask j (p ∷ ps) h =
    let d = distinct (p ∷ []) ps h in
    agrees_more (is_set mask) j (is_set mask j) p (chosen mask (j + 1) ps) ps (d.apart p (or_left _ _ (same_port-refl p))) (chosen_inside mask (j + 1) ps) refl (chosen_agrees mask (j + 1) ps d.right)

-- the walk takes exactly the masks whose ports are a port set
pub takes_is : (tree : Tree) → has_repeat (atoms (leaves tree)) ≡ false → (mask : ℕ) → is_port_set tree (ports_of tree mask) ≡ takes tree mask
takes_is tree h mask = same_bool _ _
    (λ e.
    let r = found set (port_sets tree) e in
    tells.sound (is_set mask) 0 r.0 r.1 (agrees_by (is_set mask) 0 ps (holds_port set) (holds_port r.0) (λ p m. same_set_has set r.0 r.2 p) agrees))
    (λ e.
    let r = tells.complete (is_set mask) 0 e in
    let on_leaves = agrees_same (is_set mask) 0 ps (holds_port set) (holds_port r.0) agrees r.2 in
    let there : Inside set r.0 = λ p m. sym (on_leaves p (chosen_inside mask 0 ps p m)) ∙ m in
    let back : Inside r.0 set = λ p m. on_leaves p (tells.inside r.0 r.1 p m) ∙ m in
    finds set r.0 (port_sets tree) r.1 (and_from _ _ (all_has set r.0 there) (all_has r.0 set back)))
  where
    ps : List Port
    ps = leaves tree

    set : List Port
    set = ports_of tree mask

    tells : Tells (port_sets tree) ps (λ f at. takes_all f at (seen_children tree))
    tells = (is_seen (bracket tree)).takes h

    agrees : Agrees (is_set mask) 0 ps (holds_port set)
    agrees = chosen_agrees mask 0 ps h

-- the interactions are the masks that the walk takes
pub interactions_are : (tree : Tree) → has_repeat (atoms (leaves tree)) ≡ false → interactions_of tree ≡ passing (takes tree) (2 ^ length (leaves tree))
interactions_are tree h = λ i. passing (λ mask. takes_is tree h mask i) (2 ^ length (leaves tree))

-- a list of the interactions holds each mask that is one
pub interactions_exact : (tree : Tree) (masks : List ℕ) → masks ≡ interactions_of tree → (mask : ℕ) → Contains masks mask ↔ IsInteraction tree mask
interactions_exact tree masks same mask =
    let test : ℕ → Bool = λ m. is_port_set tree (ports_of tree m) in
    let n = 2 ^ length (leaves tree) in (
      (λ h. passing_is test n mask (subst (λ ms. Contains ms mask) same h)),
      (λ h. subst (λ ms. Contains ms mask) (sym same) (is_passing test n mask h.0 h.1)),
    )

-- and it rises
pub interactions_rise : (tree : Tree) (masks : List ℕ) → masks ≡ interactions_of tree → IsStrictlyIncreasing masks
interactions_rise tree masks same =
    subst IsStrictlyIncreasing (sym same) (passing_rises (λ m. is_port_set tree (ports_of tree m)) (2 ^ length (leaves tree)))
