use Rattle.std.proofs.Common.{◌≡◌, ◌+◌, ◌↔◌, ◌∙◌, ℕ, true, [], ◌∷◌, ap, sym, subst, map, length, arith}
use Rattle.std.specs.Prelude.{slice_get, option_map}
use Rattle.std.specs.FinSet.{contains}
use Rattle.std.proofs.lemmas.List.{length-append, length-map}
use Rattle.std.proofs.lemmas.Option.{slice_get-map}
use Rattle.priority_filter.specs.Active.{unconditional}
use Rattle.priority_filter.specs.Decided.{is_below}
use Rattle.plant_model.specs.Choice.{named}
use Rattle.plant_model.specs.Interaction.{interaction_of}
use Rattle.plant_model.specs.Ranks.{AreRanksBy, AreRests, IsRankBy, is_head_at}
use Rattle.plant_model.specs.declared.ranks.Rank.{Rank}
use Rattle.plant_model.specs.declared.ranks.Ranks.{Ranks}
use Rattle.plant_model.proofs.Pushed.{each-pushed}
use Rattle.plant_model.proofs.RankTables.{ranks-from}
use Rattle.plant_model.proofs.Ranking.{up-inside}
use Rattle.plant_model.proofs.ranks.ranks_of.Goals as goal

pub rests_of-requires-clause-known : goal.rests_of-requires-clause-known
rests_of-requires-clause-known c n i at =
    omega (arith, c.requires.ranges.known n (interaction_of i) (slice_get-map interaction_of c.args.interactions.now n ∙ ap (option_map interaction_of) at), c.in_ok-shared.ensures.as_many, ap length c.deref.ensures.value)

pub rank_of-requires-clause-within : goal.rank_of-requires-clause-within
rank_of-requires-clause-within c k r at =
    omega (arith, c.requires.ranges.within k r at, length-map c.args.interactions.now interaction_of, c.in_ok-rests.ensures.as_many, ap length c.deref-in-loop-connector-2.ensures.value)

pub loop-connector-preserved : goal.loop-connector-preserved
loop-connector-preserved c =
    let under = is_below (unconditional c.args.order.now.rules) c.args.order.now.interactions in
    let rows = c.args.rows.now in
    let so_far = c.loop-connector.of_connectors.items in
    let made = c.rank_of.result in
    let pushed = c.in_ok-push.ensures.items in
    let shared = c.in_ok-shared.shared.items in
    let rest = c.in_ok-rests.rests.parts.items in
    let Right : ℕ → Rank → Type 0 = IsRankBy under rows shared rest in
    let here : Right c.loop-connector.connector made =
    subst (λ xs. IsRankBy under rows xs rest c.loop-connector.connector made) c.deref-in-loop-connector.ensures.value
    (subst (λ xs. IsRankBy under rows c.deref-in-loop-connector.result.now xs c.loop-connector.connector made) c.deref-in-loop-connector-2.ensures.value c.rank_of.ensures) in (
      ap length pushed ∙ length-append so_far (made ∷ []) ∙ ap (λ n. n + 1) c.loop-connector.invariant.0,
      λ k r there. each-pushed Right so_far made c.loop-connector.connector c.loop-connector.invariant.0 c.loop-connector.invariant.1 here k r (sym (ap (λ xs. slice_get xs k) pushed) ∙ there),
    )

pub returns : goal.returns
returns c =
    let rules = c.args.order.now.rules in
    let names = c.args.order.now.interactions in
    let under = is_below (unconditional rules) names in
    let items = c.args.interactions.now in
    let all = map interaction_of items in
    let rows = c.args.rows.now in
    let shared = c.in_ok-shared.shared.items in
    let rests = c.in_ok-rests.rests in
    let heads = c.all_heads in
    let below = c.in_ok-below_head in
    let of_connectors = c.loop-connector.of_connectors in
    let count : length all ≡ length items = length-map items interaction_of in
    let many : length names ≡ length all = ap length c.requires.ordered ∙ length-map all named in
    let ranks : Ranks = record { of_connectors = of_connectors; alone = c.alone_of.result; heads = heads.result; below_head = below.below_head; rest = rests.parts; with_rest = rests.with_rest; watched = rests.watched } in
    let rested : AreRests under all shared (length all) rests =
    subst (λ k. AreRests under all shared k rests) (sym count) (subst (λ xs. AreRests under all xs (length items) rests) c.deref.ensures.value c.in_ok-rests.ensures) in
    subst (λ ns. AreRanksBy (is_below (unconditional rules) ns) (length rows) all ranks) c.requires.ordered
    (ranks-from under all rows c.requires.ranges (λ n m up. omega (arith, up-inside rules names n m up, many)) shared c.in_ok-shared.ensures rests rested
    of_connectors (c.loop-connector.invariant.0 ∙ omega (arith, c.loop-connector-test.false, c.loop-connector.auto.connector-end)) c.loop-connector.invariant.1
    c.alone_of.result c.alone_of.ensures
    heads.result (λ m. subst (λ xs. (contains heads.result m ≡ true) ↔ ((k : ℕ) × (is_head_at xs m k ≡ true))) c.deref-3.ensures.value (heads.ensures m))
    below.below_head (below.ensures.as_many ∙ sym count) (λ m k low. below.ensures.each m k (omega (arith, low, count)) ∙ ap (λ xs. is_head_at xs m k) c.deref-2.ensures.value))
