-- The laws of the algebra.
use Rattle.std.proofs.Common.{◌≡◌, ◌+◌, ◌-◌, ◌^◌, ◌<◌, ℕ, Bool, true, false, ◌||◌, ◌&&◌, not, cond, List, [], ◌∷◌, ◌++◌, map, length, refl, ap, sym, ◌∙◌, subst, inl, inr, arith, append_assoc}
use Rattle.std.specs.List.{list_any}
use Rattle.std.proofs.lemmas.Bool.{or_cases, or_parts, or_right, or_from, and_parts, and_from, both_ways, not-true, false_from_ne_true, cases_Bool, eq-eqb}
use Rattle.std.proofs.Math.Bool.{or-false}
use Rattle.std.proofs.lemmas.Nat.{pow_pos}
use Rattle.std.proofs.lemmas.Nat.Bits.{bit_at_ones}
use Rattle.std.proofs.lemmas.List.{map-append, append-nil}
use Rattle.connector_tree.specs.declared.tree.Port.{Port}
use Rattle.connector_tree.specs.Tree.{Tree, no_child, child, Branch, leaf, bracket, leaves, branch_leaves, has_empty_bracket, is_empty_inside, has_empty}
use Rattle.connector_tree.specs.PortSets.{Sets, Part, same_set, one, unions, product, optional, sum_after, fused, parts, branch_sets, port_sets, is_port_set}
use Rattle.connector_tree.specs.Masks.{is_set, chosen, ports_of, IsInteraction}
use Rattle.connector_tree.specs.Faults.{has_repeat, atoms}
use Rattle.connector_tree.specs.Walk.{seen, seen_children, every_takes, every_may, some_leads}
use Rattle.connector_tree.specs.Ports.{beside, are_synchrons, is_port, are_ports}
use Rattle.connector_tree.proofs.Sets.{Among, among_left, among_right, among_cases, among_unions, among_unions_back}
use Rattle.connector_tree.proofs.Trees.{beside_assoc, parts-beside, Each}
use Rattle.connector_tree.proofs.Exact.{takes_is, all_has, found, finds}

-- ---- synchrons act together
no_trigger : (tree : Tree) → are_synchrons tree ≡ true → list_any (λ part. part.trigger) (parts tree) ≡ false
no_trigger no_child h = refl
no_trigger (child trigger branch rest) h = let both = and_parts _ _ h in or_from _ _ (not-true trigger both.0) (no_trigger rest both.1)

-- the sets of each child
abbrev all_sets : Tree → List Sets
all_sets tree = map (λ part. part.sets) (parts tree)

-- the sets of synchrons are their product
synchrons-product : (tree : Tree) → are_synchrons tree ≡ true → port_sets tree ≡ product (all_sets tree)
synchrons-product tree h = ap (λ b. cond b (sum_after [] (parts tree)) (product (all_sets tree))) (no_trigger tree h)

product_of_ports : (tree : Tree) → are_ports tree ≡ true → product (all_sets tree) ≡ leaves tree ∷ []
product_of_ports no_child h = refl
product_of_ports (child trigger (leaf atom port) rest) h = ap (unions ((record { atom = atom; port = port } ∷ []) ∷ [])) (product_of_ports rest h)
product_of_ports (child trigger (bracket tree) rest) h = absurd (both_ways false refl h)

pub synchrons_together : (tree : Tree) → are_synchrons tree ≡ true → are_ports tree ≡ true → port_sets tree ≡ leaves tree ∷ []
synchrons_together tree h ports = synchrons-product tree h ∙ product_of_ports tree ports

-- ---- a bracket of synchrons among synchrons
unions-append : (xs ys zs : Sets) → unions (xs ++ ys) zs ≡ unions xs zs ++ unions ys zs
unions-append [] ys zs = refl
unions-append (x ∷ xs) ys zs = ap (λ r. map (λ z. x ++ z) zs ++ r) (unions-append xs ys zs) ∙ sym (append_assoc (map (λ z. x ++ z) zs) (unions xs zs) (unions ys zs))

map-twice : (x y : List Port) (zs : Sets) → map (λ z. (x ++ y) ++ z) zs ≡ map (λ z. x ++ z) (map (λ z. y ++ z) zs)
map-twice x y [] = refl
map-twice x y (z ∷ zs) = λ i. append_assoc x y z i ∷ map-twice x y zs i

unions-map : (x : List Port) (ys zs : Sets) → unions (map (λ y. x ++ y) ys) zs ≡ map (λ t. x ++ t) (unions ys zs)
unions-map x [] zs = refl
unions-map x (y ∷ ys) zs =
    ap (λ r. map (λ z. (x ++ y) ++ z) zs ++ r) (unions-map x ys zs)
    ∙ ap (λ r. r ++ map (λ t. x ++ t) (unions ys zs)) (map-twice x y zs)
    ∙ sym (map-append (λ t. x ++ t) (map (λ z. y ++ z) zs) (unions ys zs))

unions_assoc : (xs ys zs : Sets) → unions (unions xs ys) zs ≡ unions xs (unions ys zs)
unions_assoc [] ys zs = refl
unions_assoc (x ∷ xs) ys zs =
    unions-append (map (λ y. x ++ y) ys) (unions xs ys) zs
    ∙ ap (λ r. r ++ unions (unions xs ys) zs) (unions-map x ys zs)
    ∙ ap (λ r. map (λ t. x ++ t) (unions ys zs) ++ r) (unions_assoc xs ys zs)

one-unions : (ys : Sets) → unions one ys ≡ ys
one-unions ys = append-nil (map (λ y. y) ys) ∙ map_self ys
  where
    map_self : (zs : Sets) → map (λ z. z) zs ≡ zs
    map_self [] = refl
    map_self (z ∷ zs) = ap (λ r. z ∷ r) (map_self zs)

product-append : (xs ys : List Sets) → product (xs ++ ys) ≡ unions (product xs) (product ys)
product-append [] ys = sym (one-unions (product ys))
product-append (x ∷ xs) ys = ap (unions x) (product-append xs ys) ∙ sym (unions_assoc x (product xs) (product ys))

all_sets-beside : (one other : Tree) → all_sets (beside one other) ≡ all_sets one ++ all_sets other
all_sets-beside one other = ap (map (λ part. part.sets)) (parts-beside one other) ∙ map-append (λ part. part.sets) (parts one) (parts other)

product-beside : (one other : Tree) → product (all_sets (beside one other)) ≡ unions (product (all_sets one)) (product (all_sets other))
product-beside one other = ap product (all_sets-beside one other) ∙ product-append (all_sets one) (all_sets other)

synchrons_both : (one other : Tree) → are_synchrons one ≡ true → are_synchrons other ≡ true → are_synchrons (beside one other) ≡ true
synchrons_both no_child other h k = k
synchrons_both (child trigger branch rest) other h k = let both = and_parts _ _ h in and_from _ _ both.0 (synchrons_both rest other both.1 k)

pub flatten : (before inner after : Tree) → are_synchrons before ≡ true → are_synchrons inner ≡ true → are_synchrons after ≡ true → port_sets (beside before (child false (bracket inner) after)) ≡ port_sets (beside before (beside inner after))
flatten before inner after b i a =
    synchrons-product (beside before (child false (bracket inner) after)) (synchrons_both before (child false (bracket inner) after) b a)
    ∙ product-beside before (child false (bracket inner) after)
    ∙ ap (λ x. unions (product (all_sets before)) (unions x (product (all_sets after)))) (synchrons-product inner i)
    ∙ ap (unions (product (all_sets before))) (sym (product-beside inner after))
    ∙ sym (product-beside before (beside inner after))
    ∙ sym (synchrons-product (beside before (beside inner after)) (synchrons_both before (beside inner after) b (synchrons_both inner after i a)))

-- ---- a bracket round one child
unions-one : (xs : Sets) → unions xs one ≡ xs
unions-one [] = refl
unions-one (x ∷ xs) = λ i. append-nil x i ∷ unions-one xs i

one_part : (part : Part) → fused (part ∷ []) ≡ part.sets
one_part part = by_trigger part.trigger
  where
    by_trigger : (b : Bool) → cond (b || false) (cond b (unions part.sets one) [] ++ []) (unions part.sets one) ≡ part.sets
    by_trigger true = append-nil (unions part.sets one) ∙ unions-one part.sets
    by_trigger false = unions-one part.sets

pub bracket_of_one : (trigger : Bool) (branch : Branch) → branch_sets (bracket (child trigger branch no_child)) ≡ branch_sets branch
bracket_of_one trigger branch = one_part (record { trigger = trigger; sets = branch_sets branch })

-- ---- all ports together
abbrev IsFull : Branch → Type 0
IsFull branch = Among (branch_leaves branch) (branch_sets branch)

full_product : (tree : Tree) → Each IsFull tree → Among (leaves tree) (product (all_sets tree))
full_product no_child h = inl refl
full_product (child trigger branch rest) h = among_unions (branch_leaves branch) (leaves rest) (branch_sets branch) _ h.0 (full_product rest h.1)

full_optional : (tree : Tree) → Each IsFull tree → Among (leaves tree) (product (map optional (parts tree)))
full_optional no_child h = inl refl
full_optional (child trigger branch rest) h = among_unions (branch_leaves branch) (leaves rest) (one ++ branch_sets branch) _ (inr h.0) (full_optional rest h.1)

full_led : (before : Tree) (trigger : Bool) (branch : Branch) (after : Tree) → Each IsFull (beside before (child trigger branch after)) → Among (leaves (beside before (child trigger branch after))) (product (map optional (parts before) ++ (branch_sets branch ∷ map optional (parts after))))
full_led no_child trigger branch after h = among_unions (branch_leaves branch) (leaves after) (branch_sets branch) _ h.0 (full_optional after h.1)
full_led (child t b before) trigger branch after h = among_unions (branch_leaves b) (leaves (beside before (child trigger branch after))) (one ++ branch_sets b) _ (inr h.0) (full_led before trigger branch after h.1)

full_sum : (before after : Tree) → Each IsFull (beside before after) → list_any (λ part. part.trigger) (parts after) ≡ true → Among (leaves (beside before after)) (sum_after (parts before) (parts after))
full_sum before no_child h t = absurd (both_ways false refl t)
full_sum before (child trigger branch after) h t = elim (cases_Bool trigger) [
  | inl e ↦ among_left _ _ _ (subst (λ b. Among (leaves whole) (cond b led [])) (sym e) (full_led before trigger branch after h))
  | inr e ↦
      let shift = beside_assoc before after trigger branch in
      let later = elim (or_cases trigger _ t) as (λ _. list_any (λ part. part.trigger) (parts after) ≡ true) [ inl k ↦ absurd (both_ways trigger e k) | inr k ↦ k ] in
      let there = full_sum (beside before (child trigger branch no_child)) after (subst (Each IsFull) (sym shift) h) later in
      let moved = subst (λ tree. Among (leaves tree) (sum_after (parts (beside before (child trigger branch no_child))) (parts after))) shift there in
      among_right _ (cond trigger led []) _ (subst (λ ps. Among (leaves whole) (sum_after ps (parts after))) (parts-beside before (child trigger branch no_child)) moved)
]
  where
    whole : Tree
    whole = beside before (child trigger branch after)

    led : Sets
    led = product (map optional (parts before) ++ (branch_sets branch ∷ map optional (parts after)))

full_fused : (tree : Tree) → Each IsFull tree → Among (leaves tree) (port_sets tree)
full_fused tree h = by_trigger (list_any (λ part. part.trigger) (parts tree)) (full_sum no_child tree h)
  where
    by_trigger : (b : Bool) → (b ≡ true → Among (leaves tree) (sum_after [] (parts tree))) → Among (leaves tree) (cond b (sum_after [] (parts tree)) (product (all_sets tree)))
    by_trigger true f = f refl
    by_trigger false f = full_product tree h

mutual
  full_branch : (branch : Branch) → IsFull branch
  full_branch (leaf atom port) = inl refl
  full_branch (bracket tree) = full_fused tree (full_each tree)

  full_each : (tree : Tree) → Each IsFull tree
  full_each no_child = tt
  full_each (child trigger branch rest) = (full_branch branch, full_each rest)

same_set-refl : (s : List Port) → same_set s s ≡ true
same_set-refl s = and_from _ _ (all_has s s (λ p m. m)) (all_has s s (λ p m. m))

pub full_among : (tree : Tree) → is_port_set tree (leaves tree) ≡ true
full_among tree = finds (leaves tree) (leaves tree) (port_sets tree) (full_fused tree (full_each tree)) (same_set-refl (leaves tree))

-- ---- the full mask
chosen_all : (mask j : ℕ) (ps : List Port) → ((k : ℕ) → k < j + length ps → is_set mask k ≡ true) → chosen mask j ps ≡ ps
chosen_all mask j [] h = refl
chosen_all mask j (p ∷ ps) h =
    ap (λ b. cond b (p ∷ chosen mask (j + 1) ps) (chosen mask (j + 1) ps)) (h j (omega arith))
    ∙ ap (λ rest. p ∷ rest) (chosen_all mask (j + 1) ps (λ k below. h k (omega arith)))

full_mask : (tree : Tree) → ports_of tree (2 ^ length (leaves tree) - 1) ≡ leaves tree
full_mask tree =
    let n = length (leaves tree) in
    chosen_all (2 ^ n - 1) 0 (leaves tree) (λ k below. eq-eqb _ _ (bit_at_ones n k (omega arith)))

pub full_interaction : (tree : Tree) → IsInteraction tree (2 ^ length (leaves tree) - 1)
full_interaction tree =
    (let positive = pow_pos (length (leaves tree)) in omega arith, ap (is_port_set tree) (full_mask tree) ∙ full_among tree)

-- ---- one trigger leads
not_or : (b : Bool) → (b || not b) ≡ true
not_or true = refl
not_or false = refl

ports_may : (tree : Tree) → are_ports tree ≡ true → (f : ℕ → Bool) (at : ℕ) → every_may f at (seen_children tree) ≡ true
ports_may no_child h f at = refl
ports_may (child trigger (leaf atom port) rest) h f at = and_from _ _ (not_or (f at)) (ports_may rest h f (at + 1))
ports_may (child trigger (bracket tree) rest) h f at = absurd (both_ways false refl h)

synchrons_lead_none : (tree : Tree) → are_synchrons tree ≡ true → (f : ℕ → Bool) (at : ℕ) → some_leads f at (seen_children tree) ≡ false
synchrons_lead_none no_child h f at = refl
synchrons_lead_none (child trigger branch rest) h f at =
    let both = and_parts _ _ h in
    ap (λ t. (t && (seen branch).takes f at) || some_leads f (at + (seen branch).count) (seen_children rest)) (not-true trigger both.0)
    ∙ synchrons_lead_none rest both.1 f (at + (seen branch).count)

port_leads : (leader : Branch) (after : Tree) → is_port leader ≡ true → are_synchrons after ≡ true → (f : ℕ → Bool) (at : ℕ) → some_leads f at (seen_children (child true leader after)) ≡ f at
port_leads (leaf atom port) after l a f at = ap (λ x. f at || x) (synchrons_lead_none after a f (at + 1)) ∙ or-false (f at)
port_leads (bracket tree) after l a f at = absurd (both_ways false refl l)

leader_leads : (before : Tree) (leader : Branch) (after : Tree) → are_synchrons before ≡ true → are_ports before ≡ true → is_port leader ≡ true → are_synchrons after ≡ true → (f : ℕ → Bool) (at : ℕ) → some_leads f at (seen_children (beside before (child true leader after))) ≡ f (at + length (leaves before))
leader_leads no_child leader after b p l a f at =
    let e : at ≡ at + 0 = omega arith in
    port_leads leader after l a f at ∙ ap f e
leader_leads (child trigger (leaf atom port) before) leader after b p l a f at =
    let e : (at + 1) + length (leaves before) ≡ at + length (leaves (child trigger (leaf atom port) before)) = omega arith in
    let both = and_parts _ _ b in
    ap (λ t. (t && f at) || some_leads f (at + 1) (seen_children (beside before (child true leader after)))) (not-true trigger both.0)
    ∙ leader_leads before leader after both.1 p l a f (at + 1)
    ∙ ap f e
leader_leads (child trigger (bracket tree) before) leader after b p l a f at = absurd (both_ways false refl p)

leader_triggers : (before : Tree) (leader : Branch) (after : Tree) → list_any (λ c. c.trigger) (seen_children (beside before (child true leader after))) ≡ true
leader_triggers no_child leader after = refl
leader_triggers (child trigger branch before) leader after = or_right trigger _ (leader_triggers before leader after)

all_ports : (before : Tree) (leader : Branch) (after : Tree) → are_ports before ≡ true → is_port leader ≡ true → are_ports after ≡ true → are_ports (beside before (child true leader after)) ≡ true
all_ports no_child leader after b l a = and_from _ _ l a
all_ports (child trigger branch before) leader after b l a = let both = and_parts _ _ b in and_from _ _ both.0 (all_ports before leader after both.1 l a)

pub one_trigger : (before after : Tree) (leader : Branch) → are_synchrons before ≡ true → are_ports before ≡ true → is_port leader ≡ true → are_synchrons after ≡ true → are_ports after ≡ true → has_repeat (atoms (leaves (beside before (child true leader after)))) ≡ false → (mask : ℕ) → is_port_set (beside before (child true leader after)) (ports_of (beside before (child true leader after)) mask) ≡ is_set mask (length (leaves before))
one_trigger before after leader b p l a q apart mask =
    let f = is_set mask in
    let tree = beside before (child true leader after) in
    let z : 0 + length (leaves before) ≡ length (leaves before) = omega arith in
    takes_is tree apart mask
    ∙ ap (λ t. cond t (every_may f 0 (seen_children tree) && some_leads f 0 (seen_children tree)) (every_takes f 0 (seen_children tree))) (leader_triggers before leader after)
    ∙ ap (λ x. x && some_leads f 0 (seen_children tree)) (ports_may tree (all_ports before leader after p l q) f 0)
    ∙ leader_leads before leader after b p l a f 0
    ∙ ap f z

-- ---- some port acts
-- the empty set is none of these
abbrev LacksEmpty : Sets → Type 0
LacksEmpty sets = Among [] sets → ⊥

append_empty : (a b : List Port) → [] ≡ a ++ b → ([] ≡ a) × ([] ≡ b)
append_empty [] b e = (refl, e)
append_empty (x ∷ a) b e = absurd (cc e)

lacks_left : (xs ys : Sets) → LacksEmpty xs → LacksEmpty (unions xs ys)
lacks_left xs ys h m = let r = among_unions_back [] xs ys m in h (subst (λ t. Among t xs) (sym (append_empty r.0 r.1 r.4).0) r.2)

lacks_right : (xs ys : Sets) → LacksEmpty ys → LacksEmpty (unions xs ys)
lacks_right xs ys h m = let r = among_unions_back [] xs ys m in h (subst (λ t. Among t ys) (sym (append_empty r.0 r.1 r.4).1) r.3)

lacks_led : (before : List Sets) (sets : Sets) (after : List Sets) → LacksEmpty sets → LacksEmpty (product (before ++ (sets ∷ after)))
lacks_led [] sets after h = lacks_left sets (product after) h
lacks_led (x ∷ before) sets after h = lacks_right x (product (before ++ (sets ∷ after))) (lacks_led before sets after h)

lacks_both : (xs ys : Sets) → LacksEmpty xs → LacksEmpty ys → LacksEmpty (xs ++ ys)
lacks_both xs ys h k m = elim (among_cases [] xs ys m) [ inl a ↦ h a | inr b ↦ k b ]

lacks_if : (b : Bool) (xs : Sets) → LacksEmpty xs → LacksEmpty (cond b xs [])
lacks_if true xs h = h
lacks_if false xs h = λ m. m

-- none of a branch's sets is empty, if no bracket of it is
abbrev Lacks : Branch → Type 0
Lacks branch = is_empty_inside branch ≡ false → LacksEmpty (branch_sets branch)

lacks_sum : (before : List Part) (after : Tree) → Each Lacks after → has_empty_bracket after ≡ false → LacksEmpty (sum_after before (parts after))
lacks_sum before no_child h e = λ m. m
lacks_sum before (child trigger branch after) h e =
    let here = or_parts _ _ e in
    lacks_both _ _
    (lacks_if trigger _ (lacks_led (map optional before) (branch_sets branch) (map optional (parts after)) (h.0 here.0)))
    (lacks_sum (before ++ (record { trigger = trigger; sets = branch_sets branch } ∷ [])) after h.1 here.1)

lacks_fused : (tree : Tree) → Each Lacks tree → has_empty tree ≡ false → LacksEmpty (port_sets tree)
lacks_fused no_child h e = absurd (both_ways true e refl)
lacks_fused (child trigger branch rest) h e = by_trigger (list_any (λ part. part.trigger) (parts (child trigger branch rest)))
  where
    by_trigger : (b : Bool) → LacksEmpty (cond b (sum_after [] (parts (child trigger branch rest))) (product (all_sets (child trigger branch rest))))
    by_trigger true = lacks_sum [] (child trigger branch rest) h e
    by_trigger false = lacks_left (branch_sets branch) _ (h.0 (or_parts _ _ e).0)

mutual
  lacks_branch : (branch : Branch) → Lacks branch
  lacks_branch (leaf atom port) e = λ m. elim m [ inl is ↦ absurd (cc is) | inr k ↦ k ]
  lacks_branch (bracket tree) e = lacks_fused tree (lacks_each tree) e

  lacks_each : (tree : Tree) → Each Lacks tree
  lacks_each no_child = tt
  lacks_each (child trigger branch rest) = (lacks_branch branch, lacks_each rest)

same_as_empty : (t : List Port) → same_set [] t ≡ true → [] ≡ t
same_as_empty [] h = refl
same_as_empty (p ∷ t) h = absurd (both_ways false refl h)

pub never_empty : (tree : Tree) → has_empty tree ≡ false → is_port_set tree [] ≡ false
never_empty tree e = false_from_ne_true _ (λ h.
    let r = found [] (port_sets tree) h in
    lacks_fused tree (lacks_each tree) e (subst (λ t. Among t (port_sets tree)) (sym (same_as_empty r.0 r.2)) r.1))
