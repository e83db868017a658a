use Rattle.std.proofs.Common.{◌≡◌, ◌+◌, ◌*◌, ◌-◌, ◌<◌, ◌≤◌, ◌^◌, ◌%◌, ◌++◌, ℕ, false, [], ◌∷◌, List, map, take, get_or, length, ap, sym, ◌∙◌, arith}
use Rattle.std.proofs.lemmas.Nat.{pow-add, shl_whole, mul-add-lt}
use Rattle.std.proofs.lemmas.List.{take_more, append-nil}
use Rattle.std.proofs.lemmas.List.Concat.{flat_map-append}
use Rattle.connector_tree.specs.declared.tree.TheConstants.{MAX_LEAVES}
use Rattle.connector_tree.specs.declared.walk.Candidate.{Candidate}
use Rattle.connector_tree.specs.MaskLists.{with_later, joined}
use Rattle.connector_tree.proofs.walk.joined.Goals as goal
use Rattle.connector_tree.proofs.walk.joined.Goals.{After-from}

-- a mask of the leaves from `at` on loses none of them when it is moved up
moved : (part at : ℕ) → at ≤ MAX_LEAVES → part < 2 ^ (MAX_LEAVES - at) → part * 2 ^ at % 4294967296 ≡ part * 2 ^ at
moved part at few below = shl_whole part (MAX_LEAVES - at) at 32 below (omega arith)

-- and has room for the leaves below
fits : (part at mask : ℕ) → at ≤ MAX_LEAVES → part < 2 ^ (MAX_LEAVES - at) → mask < 2 ^ at → part * 2 ^ at + mask < 65536
fits part at mask few below low =
    let whole : at + (MAX_LEAVES - at) ≡ MAX_LEAVES = omega arith in
    let most : 2 ^ at * 2 ^ (MAX_LEAVES - at) ≡ 65536 = sym (pow-add 2 at (MAX_LEAVES - at)) ∙ ap (λ n. 2 ^ n) whole in
    omega (arith, most, mul-add-lt part (2 ^ at) mask (2 ^ (MAX_LEAVES - at)) below low)

-- one candidate more of the later child
one_more : (low high : List Candidate) (at i : ℕ) (d : Candidate) → i < length high → joined low at (take i high) ++ map (with_later ((get_or high i d).mask * 2 ^ at) (get_or high i d).leads) low ≡ joined low at (take (i + 1) high)
one_more low high at i d within =
    let each : Candidate → List Candidate = λ later. map (with_later (later.mask * 2 ^ at) later.leads) low in
    ap (λ all. joined low at (take i high) ++ all) (sym (append-nil (each (get_or high i d))))
    ∙ sym (flat_map-append each (take i high) (get_or high i d ∷ []))
    ∙ ap (joined low at) (sym (take_more high i d within))

below : (c : After-from) → c.from.result < 2 ^ (MAX_LEAVES - c.args.at)
below c = rw c.from.ensures (c.requires.high c.loop-later.later-index _ c.loop-later-test.true)

pub push_each-requires : goal.push_each-requires
push_each-requires c k d within =
    let small = below c in
    rw (moved c.from.result c.args.at c.requires.at small)
    (fits c.from.result c.args.at (get_or c.args.low.now k d).mask c.requires.at small (c.requires.low k d within))

pub loop-later-preserved : goal.loop-later-preserved
loop-later-preserved c =
    let nobody : Candidate = record { mask = 0; leads = false } in
    let later = get_or c.args.high.now c.loop-later.later-index nobody in
    let whole = moved c.from.result c.args.at c.requires.at (below (goal.at.loop-later-preserved c).After-from) in
    c.in_ok-push_each.ensures
    ∙ (λ i. c.loop-later.invariant i ++ map (with_later ((whole ∙ ap (λ n. n * 2 ^ c.args.at) c.from.ensures) i) later.leads) c.args.low.now)
    ∙ one_more c.args.low.now c.args.high.now c.args.at c.loop-later.later-index nobody c.loop-later-test.true
