-- The masks of a bracket are made of those of its children, one child after another.
use Rattle.std.proofs.Common.{◌≡◌, ◌+◌, ◌-◌, ◌*◌, ◌^◌, ◌<◌, ◌≤◌, ℕ, zero, suc, Bool, true, false, cond, ◌||◌, ◌&&◌, not, eqb, List, [], ◌∷◌, ◌++◌, length, refl, ap, sym, ◌∙◌, inl, inr, arith, add_assoc, pow_mono}
use Rattle.std.specs.Int.{bit_at}
use Rattle.std.specs.List.{list_any, range_with_len, All}
use Rattle.std.proofs.lemmas.List.Elements.{All-map, All-weaker}
use Rattle.std.proofs.lemmas.Bool.{cases_Bool, eqb-false}
use Rattle.std.proofs.lemmas.Nat.{pow_pos, pow-add}
use Rattle.std.proofs.lemmas.Nat.Bits.{bit_at-zero, bit_at-lt, bit_at_cat_low, bit_at_cat_high, same_from_bits_below}
use Rattle.connector_tree.specs.declared.tree.Port.{Port}
use Rattle.connector_tree.specs.declared.walk.Candidate.{Candidate}
use Rattle.connector_tree.specs.Tree.{Tree, no_child, child, Branch, leaf, bracket, branch_leaves}
use Rattle.connector_tree.specs.Masks.{is_set}
use Rattle.connector_tree.specs.Walk.{Seen, SeenChild, seen, seen_children, seen_all, count_all, some_all, every_takes, every_may, some_leads, takes_all}
use Rattle.connector_tree.specs.MaskLists.{masks_seen, tagged, choices, joined, masks_taken}
use Rattle.connector_tree.proofs.Sets.{Agrees}
use Rattle.connector_tree.proofs.Filtered.{passing}
use Rattle.connector_tree.proofs.Joined.{passing_below, filter_both, masks_taken-tagged, choices-must, choices-may, tagged-joined}
use Rattle.connector_tree.proofs.Walks.{is_seen}

-- two choices are alike on so many leaves, from these numbers on
abbrev AreAlike : (ℕ → Bool) → ℕ → (ℕ → Bool) → ℕ → ℕ → Type 0
AreAlike f a g b n = (j : ℕ) → j < n → f (a + j) ≡ g (b + j)

-- what a walk sees of a part depends on the part's own leaves alone
pub record IsLocal (part : Seen) : Type 0 where
  pub some : (f g : ℕ → Bool) (a b : ℕ) → AreAlike f a g b part.count → part.some f a ≡ part.some g b
  pub takes : (f g : ℕ → Bool) (a b : ℕ) → AreAlike f a g b part.count → part.takes f a ≡ part.takes g b

-- the same of each child
abbrev pub AreLocal : List SeenChild → Type 0
AreLocal [] = Unit {0}
AreLocal (c ∷ cs) = IsLocal c.seen × AreLocal cs

-- the walk answers alike of two choices of the leaves of these children
record AnswersAlike (f : ℕ → Bool) (a : ℕ) (g : ℕ → Bool) (b : ℕ) (cs : List SeenChild) : Type 0 where
  some : some_all f a cs ≡ some_all g b cs
  every : every_takes f a cs ≡ every_takes g b cs
  may : every_may f a cs ≡ every_may g b cs
  leads : some_leads f a cs ≡ some_leads g b cs

-- what a walk answers of these children depends on their leaves alone
answers_alike : (cs : List SeenChild) → AreLocal cs → (f g : ℕ → Bool) (a b : ℕ) → AreAlike f a g b (count_all cs) → AnswersAlike f a g b cs
answers_alike [] local f g a b alike = record { some = refl; every = refl; may = refl; leads = refl }
answers_alike (c ∷ cs) local f g a b alike =
    let n = c.seen.count in
    let first : AreAlike f a g b n = λ j h. alike j (omega arith) in
    let others : AreAlike f (a + n) g (b + n) (count_all cs) = λ j h. ap f (add_assoc a n j) ∙ alike (n + j) (omega arith) ∙ sym (ap g (add_assoc b n j)) in
    let some = local.0.some f g a b first in
    let takes = local.0.takes f g a b first in
    let more = answers_alike cs local.1 f g (a + n) (b + n) others in
    record {
      some = λ i. some i || more.some i;
      every = λ i. takes i && more.every i;
      may = λ i. (takes i || not (some i)) && more.may i;
      leads = λ i. (c.trigger && takes i) || more.leads i;
    }

-- a port looks at one leaf
alone : (f g : ℕ → Bool) (a b : ℕ) → AreAlike f a g b 1 → f a ≡ g b
alone f g a b alike =
    let here : a + 0 ≡ a = omega arith in
    let there : b + 0 ≡ b = omega arith in
    sym (ap f here) ∙ alike 0 (omega arith) ∙ ap g there

-- a branch looks at its own leaves alone, and so does each child of a tree
mutual
  pub is_local : (branch : Branch) → IsLocal (seen branch)
  is_local (leaf atom port) = record {
    some = alone;
    takes = alone;
  }
  is_local (bracket tree) = record {
    some = λ f g a b alike. (answers_alike (seen_children tree) (are_local tree) f g a b alike).some;
    takes = λ f g a b alike.
        let same = answers_alike (seen_children tree) (are_local tree) f g a b alike in
        λ i. cond (list_any (λ c. c.trigger) (seen_children tree)) (same.may i && same.leads i) (same.every i);
  }

  pub are_local : (tree : Tree) → AreLocal (seen_children tree)
  are_local no_child = tt
  are_local (child trigger branch rest) = (is_local branch, are_local rest)

-- ---- one child more
-- each child has one of its sets, or none of its leaves if they may stay away
abbrev pub every : Bool → (ℕ → Bool) → ℕ → List SeenChild → Bool
every stay f at cs = cond stay (every_may f at cs) (every_takes f at cs)

-- the same of one child
abbrev pub part_test : Bool → Seen → (ℕ → Bool) → ℕ → Bool
part_test stay part f at = cond stay (part.takes f at || not (part.some f at)) (part.takes f at)

-- one condition, and one condition more
and_one : (a b : Bool) → a ≡ b → (a && true) ≡ (true && b)
and_one true b e = e
and_one false b e = e

and_assoc : (a b c d : Bool) → b ≡ (c && d) → (a && b) ≡ ((a && c) && d)
and_assoc true b c d e = e
and_assoc false b c d e = refl

-- what is asked of the children and of one child more
every-push : (stay : Bool) (f : ℕ → Bool) (at : ℕ) (cs : List SeenChild) (c : SeenChild) → every stay f at (cs ++ (c ∷ [])) ≡ (every stay f at cs && part_test stay c.seen f (at + count_all cs))
every-push true f at [] c = let e : at ≡ at + 0 = omega arith in and_one _ _ (ap (part_test true c.seen f) e)
every-push false f at [] c = let e : at ≡ at + 0 = omega arith in and_one _ _ (ap (part_test false c.seen f) e)
every-push true f at (d ∷ cs) c =
    let e = add_assoc at d.seen.count (count_all cs) in
    and_assoc (part_test true d.seen f at) _ _ _ (every-push true f (at + d.seen.count) cs c ∙ ap (λ n. every_may f (at + d.seen.count) cs && part_test true c.seen f n) e)
every-push false f at (d ∷ cs) c =
    let e = add_assoc at d.seen.count (count_all cs) in
    and_assoc (part_test false d.seen f at) _ _ _ (every-push false f (at + d.seen.count) cs c ∙ ap (λ n. every_takes f (at + d.seen.count) cs && part_test false c.seen f n) e)

-- the masks that may be, over these children
abbrev pub masks_every : Bool → List SeenChild → List ℕ
masks_every stay cs = passing (λ mask. every stay (is_set mask) 0 cs) (2 ^ count_all cs)

-- those of one child
abbrev pub masks_part : Bool → Seen → List ℕ
masks_part stay part = passing (λ mask. part_test stay part (is_set mask) 0) (2 ^ part.count)

-- the leaves of the children and of one child more
pub count_all-push : (cs : List SeenChild) (c : SeenChild) → count_all (cs ++ (c ∷ [])) ≡ c.seen.count + count_all cs
count_all-push [] c = refl
count_all-push (d ∷ cs) c = omega (arith, count_all-push cs c)

-- one way, and one way more
or_one : (a b : Bool) → a ≡ b → (a || false) ≡ (false || b)
or_one true b e = e
or_one false b e = e

or_assoc : (a b c d : Bool) → b ≡ (c || d) → (a || b) ≡ ((a || c) || d)
or_assoc true b c d e = refl
or_assoc false b c d e = e

-- a child leads if it is a trigger and has one of its sets
abbrev pub part_leads : SeenChild → (ℕ → Bool) → ℕ → Bool
part_leads c f at = c.trigger && c.seen.takes f at

-- a trigger among the children leads, or the one child more does
leads-push : (f : ℕ → Bool) (at : ℕ) (cs : List SeenChild) (c : SeenChild) → some_leads f at (cs ++ (c ∷ [])) ≡ (some_leads f at cs || part_leads c f (at + count_all cs))
leads-push f at [] c = let e : at ≡ at + 0 = omega arith in or_one _ _ (ap (part_leads c f) e)
leads-push f at (d ∷ cs) c =
    let e = add_assoc at d.seen.count (count_all cs) in
    or_assoc (part_leads d f at) _ _ _ (leads-push f (at + d.seen.count) cs c ∙ ap (λ n. some_leads f (at + d.seen.count) cs || part_leads c f n) e)

-- the candidates over these children, and those of one child
abbrev pub candidates : Bool → List SeenChild → List Candidate
candidates stay cs = tagged (λ mask. some_leads (is_set mask) 0 cs) (masks_every stay cs)

abbrev pub candidates_part : Bool → SeenChild → List Candidate
candidates_part stay c = tagged (λ mask. part_leads c (is_set mask) 0) (masks_part stay c.seen)

-- the low leaves of a mask are those of its low part, and the high ones those of its high part
low_alike : (high low at : ℕ) → AreAlike (is_set (high * 2 ^ at + low)) 0 (is_set low) 0 at
low_alike high low at j within = ap (λ b. eqb b 1) (bit_at_cat_low high at low (0 + j) (omega arith))

high_alike : (high low at n : ℕ) → low < 2 ^ at → AreAlike (is_set (high * 2 ^ at + low)) (0 + at) (is_set high) 0 n
high_alike high low at n below j within =
    let e : ((0 + at) + j) - at ≡ 0 + j = omega arith in
    ap (λ b. eqb b 1) (bit_at_cat_high high at low ((0 + at) + j) below (omega arith) ∙ ap (bit_at high) e)

-- one child more: its candidates are joined with those so far
pub candidates-push : (stay : Bool) (cs : List SeenChild) (c : SeenChild) → AreLocal cs → IsLocal c.seen → candidates stay (cs ++ (c ∷ [])) ≡ joined (candidates stay cs) (count_all cs) (candidates_part stay c)
candidates-push stay cs c locals local =
    ap (λ n. tagged leads (passing test n)) (ap (λ n. 2 ^ n) (count_all-push cs c) ∙ pow-add 2 c.seen.count (count_all cs))
    ∙ tagged-joined test (λ mask. every stay (is_set mask) 0 cs) (λ mask. part_test stay c.seen (is_set mask) 0)
    leads (λ mask. some_leads (is_set mask) 0 cs) (λ mask. part_leads c (is_set mask) 0) (count_all cs) (2 ^ c.seen.count) both
  where
    test : ℕ → Bool
    test mask = every stay (is_set mask) 0 (cs ++ (c ∷ []))

    leads : ℕ → Bool
    leads mask = some_leads (is_set mask) 0 (cs ++ (c ∷ []))

    both : (high low : ℕ) → high < 2 ^ c.seen.count → low < 2 ^ count_all cs → (test (high * 2 ^ count_all cs + low) ≡ (every stay (is_set low) 0 cs && part_test stay c.seen (is_set high) 0)) × (leads (high * 2 ^ count_all cs + low) ≡ (some_leads (is_set low) 0 cs || part_leads c (is_set high) 0))
    both high low h l =
        let at = count_all cs in
        let mask = high * 2 ^ at + low in
        let upper = high_alike high low at c.seen.count l in
        let old = answers_alike cs locals (is_set mask) (is_set low) 0 0 (low_alike high low at) in
        let some = local.some (is_set mask) (is_set high) (0 + at) 0 upper in
        let takes = local.takes (is_set mask) (is_set high) (0 + at) 0 upper in (
          every-push stay (is_set mask) 0 cs c ∙ (λ i. cond stay (old.may i) (old.every i) && cond stay (takes i || not (some i)) (takes i)),
          leads-push (is_set mask) 0 cs c ∙ (λ i. old.leads i || (c.trigger && takes i)),
        )

-- a mask has no leaf after those that it is over
pub candidates_below : (stay : Bool) (cs : List SeenChild) → All (λ candidate. candidate.mask < 2 ^ count_all cs) (candidates stay cs)
candidates_below stay cs = All-map (λ candidate. candidate.mask < 2 ^ count_all cs) (λ mask. record { mask = mask; leads = some_leads (is_set mask) 0 cs }) (masks_every stay cs)
    (passing_below (λ mask. every stay (is_set mask) 0 cs) (2 ^ count_all cs))

pub candidates_part_below : (stay : Bool) (c : SeenChild) (n : ℕ) → c.seen.count ≤ n → All (λ candidate. candidate.mask < 2 ^ n) (candidates_part stay c)
candidates_part_below stay c n few = All-map (λ candidate. candidate.mask < 2 ^ n) (λ mask. record { mask = mask; leads = part_leads c (is_set mask) 0 }) (masks_part stay c.seen)
    (All-weaker (λ mask. mask < 2 ^ c.seen.count) (λ mask. mask < 2 ^ n) (λ mask below. below_more mask below) (masks_part stay c.seen) (passing_below (λ mask. part_test stay c.seen (is_set mask) 0) (2 ^ c.seen.count)))
  where
    below_more : (mask : ℕ) → mask < 2 ^ c.seen.count → mask < 2 ^ n
    below_more mask below =
        let more : 2 ^ c.seen.count ≤ 2 ^ n = pow_mono few in
        omega (arith, below, more)

-- ---- a child that may stay away
-- of a choice of no leaf none is chosen, and the other way round
agrees_none : (f : ℕ → Bool) (at : ℕ) (ps : List Port) → ((j : ℕ) → f j ≡ false) → Agrees f at ps (λ _. false)
agrees_none f at [] none = tt
agrees_none f at (p ∷ ps) none = (none at, agrees_none f (at + 1) ps none)

none_agree : (f : ℕ → Bool) (at : ℕ) (ps : List Port) → Agrees f at ps (λ _. false) → (j : ℕ) → j < length ps → f (at + j) ≡ false
none_agree f at [] agrees j within = absurd (omega arith)
none_agree f at (p ∷ ps) agrees zero within = let e : at + 0 ≡ at = omega arith in ap f e ∙ agrees.0
none_agree f at (p ∷ ps) agrees (suc j) within = let e : at + suc j ≡ (at + 1) + j = omega arith in ap f e ∙ none_agree f (at + 1) ps agrees.1 j (omega arith)

-- the mask of no leaf has none of the part's leaves
some_of_none : (branch : Branch) → (seen branch).some (is_set 0) 0 ≡ false
some_of_none branch = (is_seen branch).some.none (is_set 0) 0 (agrees_none (is_set 0) 0 (branch_leaves branch) (λ j. ap (λ b. eqb b 1) (bit_at-zero j)))

-- a bit that is not 1 is 0
not_one : (b : ℕ) → b < 2 → eqb b 1 ≡ false → b ≡ 0
not_one b low e =
    let ne = eqb-false b 1 e in
    omega (arith, ne)

-- a mask of so many leaves that has none of them is that of none
none_set : (mask n : ℕ) → mask < 2 ^ n → ((j : ℕ) → j < n → is_set mask (0 + j) ≡ false) → mask ≡ 0
none_set mask n below none = same_from_bits_below n mask 0 below (pow_pos n) bits
  where
    bits : (j : ℕ) → j < n → bit_at mask j ≡ bit_at 0 j
    bits j within =
        let z : 0 + j ≡ j = omega arith in
        not_one (bit_at mask j) (bit_at-lt mask j) (sym (ap (is_set mask) z) ∙ none j within) ∙ sym (bit_at-zero j)

-- each other mask over the part's leaves has one of them
some_of_others : (branch : Branch) (mask : ℕ) → 0 < mask → mask < 2 ^ (seen branch).count → (seen branch).some (is_set mask) 0 ≡ true
some_of_others branch mask above below = elim (cases_Bool ((seen branch).some (is_set mask) 0)) [
  | inl e ↦ e
  | inr e ↦
      let sees = is_seen branch in
      let agrees = sees.some.back (is_set mask) 0 e in
      let is : mask ≡ 0 = none_set mask (seen branch).count below (λ j within. none_agree (is_set mask) 0 (branch_leaves branch) agrees j (omega (arith, sees.count))) in
      absurd (omega arith)
]

-- an "or" with a known side
or_true : (b : Bool) → (b || true) ≡ true
or_true true = refl
or_true false = refl

or_false : (b : Bool) → (b || false) ≡ b
or_false true = refl
or_false false = refl

-- the candidates of a child are made of its masks
choices-seen : (stay trigger : Bool) (branch : Branch) → choices (masks_seen (seen branch)) trigger stay ≡ candidates_part stay (record { trigger = trigger; seen = seen branch })
choices-seen false trigger branch = choices-must (λ mask. (seen branch).takes (is_set mask) 0) (2 ^ (seen branch).count) trigger
choices-seen true trigger branch =
    let takes : ℕ → Bool = λ mask. (seen branch).takes (is_set mask) 0 in
    choices-may takes (λ mask. part_test true (seen branch) (is_set mask) 0) (2 ^ (seen branch).count) trigger (pow_pos (seen branch).count)
    (ap (λ b. takes 0 || not b) (some_of_none branch) ∙ or_true (takes 0))
    (λ mask h k. ap (λ b. takes mask || not b) (some_of_others branch mask h k) ∙ or_false (takes mask))

-- the same of lists
pub choices_made : (stay trigger : Bool) (branch : Branch) (own : List ℕ) (all : List Candidate) → own ≡ masks_seen (seen branch) → all ≡ choices own trigger stay → all ≡ candidates_part stay (record { trigger = trigger; seen = seen branch })
choices_made stay trigger branch own all are made = made ∙ ap (λ masks. choices masks trigger stay) are ∙ choices-seen stay trigger branch

-- ---- all children
-- the masks that are taken of the candidates are those that the walk takes
pub masks_taken-seen : (triggers : Bool) (cs : List SeenChild) → triggers ≡ list_any (λ c. c.trigger) cs → masks_taken triggers (candidates triggers cs) ≡ masks_seen (seen_all cs)
masks_taken-seen triggers cs are =
    masks_taken-tagged triggers (λ mask. some_leads (is_set mask) 0 cs) (masks_every triggers cs)
    ∙ filter_both (λ mask. every triggers (is_set mask) 0 cs) (λ mask. some_leads (is_set mask) 0 cs || not triggers) (λ mask. takes_all (is_set mask) 0 cs)
    (λ mask. sym (ap (λ b. cond b (every_may (is_set mask) 0 cs && some_leads (is_set mask) 0 cs) (every_takes (is_set mask) 0 cs)) are) ∙ split triggers (every_may (is_set mask) 0 cs) (some_leads (is_set mask) 0 cs) (every_takes (is_set mask) 0 cs))
    (range_with_len 0 (2 ^ count_all cs))
  where
    and_true : (b : Bool) → b ≡ (b && true)
    and_true true = refl
    and_true false = refl

    split : (b may leads takes : Bool) → cond b (may && leads) takes ≡ (cond b may takes && (leads || not b))
    split true may leads takes = ap (λ k. may && k) (sym (or_false leads))
    split false may leads takes = and_true takes ∙ ap (λ k. takes && k) (sym (or_true leads))
