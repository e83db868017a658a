-- The walk down a tree tells its port sets, if no atom stands twice.
use Rattle.std.proofs.Common.{◌≡◌, ◌+◌, ℕ, Bool, true, false, ◌||◌, ◌&&◌, not, cond, List, [], ◌∷◌, ◌++◌, map, length, refl, ap, sym, ◌∙◌, subst, arith, append_assoc}
use Rattle.std.specs.List.{list_any}
use Rattle.std.proofs.lemmas.List.{length-append}
use Rattle.connector_tree.specs.declared.tree.Port.{Port}
use Rattle.connector_tree.specs.Tree.{Tree, no_child, child, Branch, leaf, bracket, leaves, branch_leaves}
use Rattle.connector_tree.specs.PortSets.{Sets, one, unions, product, optional, sum_after, parts, branch_sets, port_sets}
use Rattle.connector_tree.specs.Faults.{has_repeat, atoms}
use Rattle.connector_tree.specs.Walk.{Seen, SeenChild, seen, seen_children, count_all, some_all, every_takes, every_may, some_leads, takes_all}
use Rattle.connector_tree.proofs.Sets.{distinct}
use Rattle.connector_tree.proofs.Gives.{Test, Tells, TellsSome, tells_port, tells_optional, tells_one, tells_none, tells_unions, tells_sum, tells_by, tells_some_both}
use Rattle.connector_tree.specs.Ports.{beside}
use Rattle.connector_tree.proofs.Trees.{beside_assoc, parts-beside, seen-beside, Each}

-- what a walk sees of a part of a tree with these leaves and these sets
pub record Sees (walk : Seen) (ps : List Port) (sets : Sets) : Type 0 where
  pub count : walk.count ≡ length ps
  pub some : TellsSome ps walk.some
  pub takes : has_repeat (atoms ps) ≡ false → Tells sets ps walk.takes

-- what a walk sees of a branch is right
abbrev pub IsSeen : Branch → Type 0
IsSeen branch = Sees (seen branch) (branch_leaves branch) (branch_sets branch)

-- the same of each child
abbrev pub AreSeen : Tree → Type 0
AreSeen = Each IsSeen

count_leaves : (tree : Tree) → AreSeen tree → count_all (seen_children tree) ≡ length (leaves tree)
count_leaves no_child s = refl
count_leaves (child trigger branch rest) s =
    simp length-append (omega (arith, s.0.count, count_leaves rest s.1))

some_tells : (tree : Tree) → AreSeen tree → TellsSome (leaves tree) (λ f at. some_all f at (seen_children tree))
some_tells no_child s = record { none = λ f at h. refl; back = λ f at h. tt }
some_tells (child trigger branch rest) s = subst
    (λ n. TellsSome (leaves (child trigger branch rest)) (λ f at. (seen branch).some f at || some_all f (at + n) (seen_children rest)))
    (sym s.0.count)
    (tells_some_both (branch_leaves branch) (leaves rest) (seen branch).some (λ f at. some_all f at (seen_children rest)) s.0.some (some_tells rest s.1))

-- one more factor of a product
more_tells : (branch : Branch) (rest : Tree) (sets more_sets : Sets) (takes more : Test) → IsSeen branch → has_repeat (atoms (branch_leaves branch ++ leaves rest)) ≡ false → (has_repeat (atoms (branch_leaves branch)) ≡ false → Tells sets (branch_leaves branch) takes) → (has_repeat (atoms (leaves rest)) ≡ false → Tells more_sets (leaves rest) more) → Tells (unions sets more_sets) (branch_leaves branch ++ leaves rest) (λ f at. takes f at && more f (at + (seen branch).count))
more_tells branch rest sets more_sets takes more s h first then =
    let d = distinct (branch_leaves branch) (leaves rest) h in
    subst (λ n. Tells (unions sets more_sets) (branch_leaves branch ++ leaves rest) (λ f at. takes f at && more f (at + n))) (sym s.count)
    (tells_unions sets more_sets (branch_leaves branch) (leaves rest) takes more d.apart (first d.left) (then d.right))

-- the product of all
product_tells : (tree : Tree) → AreSeen tree → has_repeat (atoms (leaves tree)) ≡ false → Tells (product (map (λ part. part.sets) (parts tree))) (leaves tree) (λ f at. every_takes f at (seen_children tree))
product_tells no_child s h = tells_one
product_tells (child trigger branch rest) s h = more_tells branch rest (branch_sets branch) _ (seen branch).takes (λ f at. every_takes f at (seen_children rest)) s.0 h s.0.takes (product_tells rest s.1)

-- whether a child has one of its sets, or none of its leaves
abbrev may : Seen → Test
may seen f at = seen.takes f at || not (seen.some f at)

may_tells : (branch : Branch) → IsSeen branch → has_repeat (atoms (branch_leaves branch)) ≡ false → Tells (one ++ branch_sets branch) (branch_leaves branch) (may (seen branch))
may_tells branch s h = tells_optional (branch_sets branch) (branch_leaves branch) (seen branch).some (seen branch).takes s.some (s.takes h)

-- the product of (1 + |x|) of all
optional_tells : (tree : Tree) → AreSeen tree → has_repeat (atoms (leaves tree)) ≡ false → Tells (product (map optional (parts tree))) (leaves tree) (λ f at. every_may f at (seen_children tree))
optional_tells no_child s h = tells_one
optional_tells (child trigger branch rest) s h = more_tells branch rest (one ++ branch_sets branch) _ (may (seen branch)) (λ f at. every_may f at (seen_children rest)) s.0 h (may_tells branch s.0) (optional_tells rest s.1)

-- one child has one of its sets, and all others may stay away
abbrev leads : (ℕ → Bool) → ℕ → List SeenChild → Seen → List SeenChild → Bool
leads f at [] seen after = seen.takes f at && every_may f (at + seen.count) after
leads f at (b ∷ before) seen after = may b.seen f at && leads f (at + b.seen.count) before seen after

leads_tells : (before : Tree) (trigger : Bool) (branch : Branch) (after : Tree) → AreSeen (beside before (child trigger branch after)) → has_repeat (atoms (leaves (beside before (child trigger branch after)))) ≡ false → Tells (product (map optional (parts before) ++ (branch_sets branch ∷ map optional (parts after)))) (leaves (beside before (child trigger branch after))) (λ f at. leads f at (seen_children before) (seen branch) (seen_children after))
leads_tells no_child trigger branch after s h = more_tells branch after (branch_sets branch) _ (seen branch).takes (λ f at. every_may f at (seen_children after)) s.0 h s.0.takes (optional_tells after s.1)
leads_tells (child t b before) trigger branch after s h = more_tells b (beside before (child trigger branch after)) (one ++ branch_sets b) _ (may (seen b)) (λ f at. leads f at (seen_children before) (seen branch) (seen_children after)) s.0 h (may_tells b s.0) (leads_tells before trigger branch after s.1)

-- some trigger after `before` leads
abbrev some_after : (ℕ → Bool) → ℕ → List SeenChild → List SeenChild → Bool
some_after f at before [] = false
some_after f at before (c ∷ after) = (c.trigger && leads f at before c.seen after) || some_after f at (before ++ (c ∷ [])) after

if_tells : (b : Bool) (sets : Sets) (ps : List Port) (takes : Test) → Tells sets ps takes → Tells (cond b sets []) ps (λ f at. b && takes f at)
if_tells true sets ps takes t = t
if_tells false sets ps takes t = tells_none ps

sum_tells : (before after : Tree) → AreSeen (beside before after) → has_repeat (atoms (leaves (beside before after))) ≡ false → Tells (sum_after (parts before) (parts after)) (leaves (beside before after)) (λ f at. some_after f at (seen_children before) (seen_children after))
sum_tells before no_child s h = tells_none (leaves (beside before no_child))
sum_tells before (child trigger branch after) s h =
    let alone = child trigger branch no_child in
    let whole = beside before (child trigger branch after) in
    let shift = beside_assoc before after trigger branch in
    let later = sum_tells (beside before alone) after (subst AreSeen (sym shift) s) (subst (λ tree. has_repeat (atoms (leaves tree)) ≡ false) (sym shift) h) in
    let moved = subst (λ tree. Tells (sum_after (parts (beside before alone)) (parts after)) (leaves tree) (λ f at. some_after f at (seen_children (beside before alone)) (seen_children after))) shift later in
    let by_parts = subst (λ ps. Tells (sum_after ps (parts after)) (leaves whole) (λ f at. some_after f at (seen_children (beside before alone)) (seen_children after))) (parts-beside before alone) moved in
    let by_walks = subst (λ ws. Tells (sum_after (parts before ++ parts alone) (parts after)) (leaves whole) (λ f at. some_after f at ws (seen_children after))) (seen-beside before alone) by_parts in
    tells_sum _ _ (leaves whole) (λ f at. trigger && leads f at (seen_children before) (seen branch) (seen_children after)) (λ f at. some_after f at (seen_children before ++ seen_children alone) (seen_children after))
    (if_tells trigger _ _ _ (leads_tells before trigger branch after s h)) by_walks

-- ---- the walk's own way to the same answer
count_all-append : (xs ys : List SeenChild) → count_all (xs ++ ys) ≡ count_all xs + count_all ys
count_all-append [] ys = omega arith
count_all-append (c ∷ xs) ys = omega (arith, count_all-append xs ys)

and_assoc : (a b c : Bool) → (a && (b && c)) ≡ ((a && b) && c)
and_assoc true b c = refl
and_assoc false b c = refl

and_false : (a : Bool) → (a && false) ≡ false
and_false true = refl
and_false false = refl

may-append : (f : ℕ → Bool) (at : ℕ) (xs ys : List SeenChild) → every_may f at (xs ++ ys) ≡ (every_may f at xs && every_may f (at + count_all xs) ys)
may-append f at [] ys = let e : at ≡ at + 0 = omega arith in ap (λ n. every_may f n ys) e
may-append f at (c ∷ xs) ys =
    let e : (at + c.seen.count) + count_all xs ≡ at + count_all (c ∷ xs) = omega arith in
    ap (λ b. may c.seen f at && b) (may-append f (at + c.seen.count) xs ys)
    ∙ and_assoc (may c.seen f at) (every_may f (at + c.seen.count) xs) (every_may f ((at + c.seen.count) + count_all xs) ys)
    ∙ ap (λ n. every_may f at (c ∷ xs) && every_may f n ys) e

-- one child leads if all before it may and it leads those from it on
abbrev leads_from : (ℕ → Bool) → ℕ → Seen → List SeenChild → Bool
leads_from f at seen after = seen.takes f at && every_may f (at + seen.count) after

leads_split : (f : ℕ → Bool) (at : ℕ) (before : List SeenChild) (seen : Seen) (after : List SeenChild) → leads f at before seen after ≡ (every_may f at before && leads_from f (at + count_all before) seen after)
leads_split f at [] seen after = let e : at ≡ at + 0 = omega arith in ap (λ n. leads_from f n seen after) e
leads_split f at (b ∷ before) seen after =
    let e : (at + b.seen.count) + count_all before ≡ at + count_all (b ∷ before) = omega arith in
    ap (λ x. may b.seen f at && x) (leads_split f (at + b.seen.count) before seen after)
    ∙ and_assoc (may b.seen f at) (every_may f (at + b.seen.count) before) (leads_from f ((at + b.seen.count) + count_all before) seen after)
    ∙ ap (λ n. every_may f at (b ∷ before) && leads_from f n seen after) e

-- a trigger that leads is one that may
absorb : (t before k s after later : Bool) → ((t && (before && (k && after))) || ((before && ((k || not s) && after)) && later)) ≡ ((before && ((k || not s) && after)) && ((t && k) || later))
absorb false before k s after later = refl
absorb true false k s after later = refl
absorb true true false s after later = refl
absorb true true true s true later = refl
absorb true true true s false later = refl

-- some trigger leads if all may and some trigger has one of its sets
some_after_is : (f : ℕ → Bool) (at : ℕ) (before after : List SeenChild) → some_after f at before after ≡ (every_may f at (before ++ after) && some_leads f (at + count_all before) after)
some_after_is f at before [] = sym (and_false (every_may f at (before ++ [])))
some_after_is f at before (c ∷ after) =
    let here = at + count_all before in
    let e : at + count_all (before ++ (c ∷ [])) ≡ here + c.seen.count = omega (arith, count_all-append before (c ∷ [])) in
    let later = some_leads f (here + c.seen.count) after in
    let tail = every_may f (here + c.seen.count) after in
    let all = may-append f at before (c ∷ after) in
    let ih = some_after_is f at (before ++ (c ∷ [])) after
    ∙ ap (λ ws. every_may f at ws && some_leads f (at + count_all (before ++ (c ∷ []))) after) (append_assoc before (c ∷ []) after)
    ∙ ap (λ n. every_may f at (before ++ (c ∷ after)) && some_leads f n after) e
    ∙ ap (λ b. b && later) all in
    ap (λ x. (c.trigger && x) || some_after f at (before ++ (c ∷ [])) after) (leads_split f at before c.seen after)
    ∙ ap (λ x. (c.trigger && (every_may f at before && leads_from f here c.seen after)) || x) ih
    ∙ absorb c.trigger (every_may f at before) (c.seen.takes f here) (c.seen.some f here) tail later
    ∙ ap (λ x. x && ((c.trigger && c.seen.takes f here) || later)) (sym all)

cond_tells : (b : Bool) (xs ys : Sets) (ps : List Port) (takes other : Test) → Tells xs ps takes → Tells ys ps other → Tells (cond b xs ys) ps (λ f at. cond b (takes f at) (other f at))
cond_tells true xs ys ps takes other s t = s
cond_tells false xs ys ps takes other s t = t

same_triggers : (tree : Tree) → list_any (λ part. part.trigger) (parts tree) ≡ list_any (λ c. c.trigger) (seen_children tree)
same_triggers no_child = refl
same_triggers (child trigger branch rest) = ap (λ b. trigger || b) (same_triggers rest)

-- the walk tells the sets of a fusion
fused_tells : (tree : Tree) → AreSeen tree → has_repeat (atoms (leaves tree)) ≡ false → Tells (port_sets tree) (leaves tree) (λ f at. takes_all f at (seen_children tree))
fused_tells tree s h =
    let ws = seen_children tree in
    let b = list_any (λ part. part.trigger) (parts tree) in
    let led : Test = λ f at. every_may f at ws && some_leads f at ws in
    let every : Test = λ f at. every_takes f at ws in
    let sum = tells_by _ (leaves tree) (λ f at. some_after f at [] ws) led (λ f at. let e : at + 0 ≡ at = omega arith in some_after_is f at [] ws ∙ ap (λ n. every_may f at ws && some_leads f n ws) e) (sum_tells no_child tree s h) in
    tells_by (port_sets tree) (leaves tree) (λ f at. cond b (led f at) (every f at)) (λ f at. takes_all f at ws) (λ f at. ap (λ t. cond t (led f at) (every f at)) (same_triggers tree))
    (cond_tells b (sum_after [] (parts tree)) _ (leaves tree) led every sum (product_tells tree s h))

-- the walk sees each branch as it is
mutual
  pub is_seen : (branch : Branch) → IsSeen branch
  is_seen (leaf atom port) = record {
    count = refl;
    some = record { none = λ f at h. h.0; back = λ f at h. (h, tt) };
    takes = λ _. tells_port (record { atom = atom; port = port });
  }
  is_seen (bracket tree) = record {
    count = count_leaves tree (each_seen tree);
    some = some_tells tree (each_seen tree);
    takes = fused_tells tree (each_seen tree);
  }

  each_seen : (tree : Tree) → AreSeen tree
  each_seen no_child = tt
  each_seen (child trigger branch rest) = (is_seen branch, each_seen rest)
