-- Where connectors stand, from what is found of each: what is above all of its interactions, and their rests.
use Rattle.std.proofs.Common.{◌≡◌, ◌≢◌, ◌↔◌, inl, ⊎_elim, ℕ, ◌<◌, refl, sym, ◌∙◌, ap, List, get_or, length, arith, Bool, true, false, not, ◌||◌, eqb, Vec, Global}
use Rattle.std.specs.Prelude.{Option, Some, None, slice_get}
use Rattle.std.specs.FinSet.{FinSet, contains}
use Rattle.std.specs.Ordering.{nat_cmp}
use Rattle.std.specs.Option.{option_map_or}
use Rattle.std.proofs.lemmas.Bool.{and_from, and_parts, both_ways, cases_Bool, cases_lt, eq-eqb, eqb-true, false≢true, false_from_ne_true, not-true, or_left, or_right}
use Rattle.std.proofs.lemmas.Option.{slice_get_past, slice_get_within}
use Rattle.priority_filter.specs.Members.{has_bit}
use Rattle.plant_model.specs.Choice.{Interaction}
use Rattle.plant_model.specs.ConnectorRows.{is_of_connector}
use Rattle.plant_model.specs.Ranks.{AreRanges, AreRanksBy, AreRests, AreShared, IsAbove, IsAlone, IsRank, IsRankBy, IsShared, has_whole, is_head_at, is_head_of, is_in_parts, is_in_rest, is_own}
use Rattle.plant_model.specs.declared.connector_rows.ConnectorRows.{ConnectorRows}
use Rattle.plant_model.specs.declared.ranks.Rank.{Rank}
use Rattle.plant_model.specs.declared.ranks.Ranks.{Ranks}
use Rattle.plant_model.specs.declared.ranks.Rests.{Rests}
use Rattle.plant_model.specs.declared.ranks.Shared.{Shared}
use Rattle.plant_model.proofs.Pushed.{some-at}
use Rattle.plant_model.proofs.Ranking.{head-there, one-connector, own-is, own-within, parts-past, some-interaction}

-- a connector that has one in `whole` is there
whole-there : (shared : List Shared) (e k : ℕ) → has_whole shared e k ≡ true → k < length shared
whole-there shared e k set =
    ⊎_elim
    (λ below. below)
    (λ past. absurd (false≢true (sym (ap (λ o. option_map_or (λ (s : Shared). has_bit s.whole e) o false) (slice_get_past shared k past)) ∙ set)))
    (cases_lt k (length shared))

module _ (under : ℕ → ℕ → Bool) (interactions : List Interaction) (rows : List ConnectorRows) (ranges : AreRanges interactions rows) (inside : (n m : ℕ) → under n m ≡ true → m < length interactions)
    (shared : List Shared) (are : AreShared under rows shared) (rests : Rests) (rest : AreRests under interactions shared (length interactions) rests)
    (of_connectors : Vec Rank Global) (as_many : length of_connectors.items ≡ length rows) (each : (k : ℕ) (r : Rank) → slice_get of_connectors.items k ≡ Some r → IsRankBy under rows shared rests.parts.items k r)
    (alone : ℕ) (apart : (k : ℕ) → (has_bit alone k ≡ true) ↔ ((k < length rows) × IsAlone under (is_own rows) k))
    (heads : FinSet nat_cmp) (all_heads : (m : ℕ) → (contains heads m ≡ true) ↔ ((k : ℕ) × (is_head_at shared m k ≡ true)))
    (below_head : Vec ℕ Global) (many : length below_head.items ≡ length interactions) (below : (m k : ℕ) → m < length interactions → has_bit (get_or below_head.items m 0) k ≡ is_head_at shared m k) where
  abbrev ranks : Ranks
  ranks = record { of_connectors = of_connectors; alone = alone; heads = heads; below_head = below_head; rest = rests.parts; with_rest = rests.with_rest; watched = rests.watched }

  own : (k n : ℕ) → is_own rows k n ≡ is_of_connector interactions k n
  own = own-is interactions rows ranges

  shared-at : (k : ℕ) → k < length rows → (s : Shared) × (slice_get shared k ≡ Some s)
  shared-at k low = some-at shared k (omega (arith, low, are.as_many))

  -- ---- heads

  above-head : (m k : ℕ) → is_head_at shared m k ≡ true → IsAbove under (is_own rows k) m
  above-head m k head = let s = head-there shared m k head in (((are.each k s.0 s.1).heads m).0 s.2).0

  head-within : (m k : ℕ) → is_head_at shared m k ≡ true → m < length interactions
  head-within m k head = let above = above-head m k head in inside above.some.0 m (above.each above.some.0 above.some.1)

  heads-within : (m : ℕ) → contains heads m ≡ true → m < length interactions
  heads-within m its = let found = (all_heads m).0 its in head-within m found.0 found.1

  from-head : (m k : ℕ) → is_head_of ranks m k ≡ true → is_head_at shared m k ≡ true
  from-head m k head =
      let parts = and_parts (contains heads m) (has_bit (get_or below_head.items m 0) k) head in
      sym (below m k (heads-within m parts.0)) ∙ parts.1

  to-head : (m k : ℕ) → is_head_at shared m k ≡ true → is_head_of ranks m k ≡ true
  to-head m k head = and_from (contains heads m) (has_bit (get_or below_head.items m 0) k) ((all_heads m).1 (k, head)) (below m k (head-within m k head) ∙ head)

  -- ---- rests

  own-connector : (n : ℕ) (i : Interaction) → slice_get interactions n ≡ Some i → is_of_connector interactions i.connector n ≡ true
  own-connector n i at = ap (λ o. option_map_or (λ (j : Interaction). eqb j.connector i.connector) o false) at ∙ eq-eqb i.connector i.connector refl

  -- what is in a rest is above, and not covered
  in-rest : (n m : ℕ) → is_in_rest ranks n m ≡ true → (i : Interaction) × (s : Shared) × (slice_get interactions n ≡ Some i) × (slice_get shared i.connector ≡ Some s) × (under n m ≡ true) × (contains s.covered m ≡ false)
  in-rest n m its =
      ⊎_elim
      (λ low.
      let i = some-at interactions n low in
      let s = shared-at i.0.connector (ranges.known n i.0 i.1) in
      let parts = and_parts (under n m) (not (contains s.0.covered m)) (sym (rest.each n m i.0 s.0 low i.1 s.1) ∙ its) in
      (i.0, s.0, i.1, s.1, parts.0, not-true (contains s.0.covered m) parts.1))
      (λ past. absurd (false≢true (ap (λ ps. is_in_parts ps m) (sym (parts-past rests.parts.items n (omega (arith, past, rest.as_many)))) ∙ its)))
      (cases_lt n (length interactions))

  -- all that is above an interaction of another connector is in one of the three
  in-one : (k e n m : ℕ) (s : Shared) → slice_get shared k ≡ Some s → e ≢ k → is_of_connector interactions k n ≡ true → is_of_connector interactions e m ≡ true → under n m ≡ true
      → (has_bit s.whole e || (is_head_of ranks m k || is_in_rest ranks n m)) ≡ true
  in-one k e n m s at other its there up =
      ⊎_elim
      (λ covered. ⊎_elim
      (λ same. absurd (other (one-connector interactions e k m there (sym (own k m) ∙ same))))
      (λ above. ⊎_elim
      (λ set. or_left (has_bit s.whole e) (is_head_of ranks m k || is_in_rest ranks n m) set)
      (λ no. or_right (has_bit s.whole e) (is_head_of ranks m k || is_in_rest ranks n m) (or_left (is_head_of ranks m k) (is_in_rest ranks n m) (to-head m k
      (ap (λ o. option_map_or (λ (x : Shared). contains x.heads m) o false) at ∙
      ((right.heads m).1 (
        above,
        λ f set. false_from_ne_true (is_own rows f m) (λ yes_.
            both_ways (has_bit s.whole e) no (ap (has_bit s.whole) (one-connector interactions e f m there (sym (own f m) ∙ yes_)) ∙ set)),
      ))))))
      (cases_Bool (has_bit s.whole e)))
      ((right.covered m).0 covered))
      (λ free. or_right (has_bit s.whole e) (is_head_of ranks m k || is_in_rest ranks n m) (or_right (is_head_of ranks m k) (is_in_rest ranks n m) (in-own-rest free (slice_get interactions n) refl)))
      (cases_Bool (contains s.covered m))
    where
      right : IsShared under (is_own rows) k s
      right = are.each k s at

      in-own-rest : contains s.covered m ≡ false → (o : Option Interaction) → slice_get interactions n ≡ o → is_in_rest ranks n m ≡ true
      in-own-rest free None none = absurd (false≢true (sym (ap (λ o. option_map_or (λ (i : Interaction). eqb i.connector k) o false) none) ∙ its))
      in-own-rest free (Some i) some =
          let same = eqb-true i.connector k (sym (ap (λ o. option_map_or (λ (j : Interaction). eqb j.connector k) o false) some) ∙ its) in
          rest.each n m i s (slice_get_within interactions n i some) some (ap (slice_get shared) same ∙ at) ∙ and_from (under n m) (not (contains s.covered m)) up (ap not free)

  -- ---- a rank

  rank-right : (k : ℕ) (r : Rank) → slice_get of_connectors.items k ≡ Some r → IsRank under (length rows) interactions ranks k r
  rank-right k r at =
      let low : k < length rows = omega (arith, slice_get_within of_connectors.items k r at, as_many) in
      let s = shared-at k low in
      let right = are.each k s.0 s.1 in
      let its = each k r at in
      let same : r.whole ≡ s.0.whole = its.whole s.0 s.1 in
      record {
        whole_there = λ e set.
            let found = (right.whole e).0 (ap (λ w. has_bit w e) (sym same) ∙ set) in
            let m = found.0.0 in (
              own-within rows e m found.0.1,
              λ is. both_ways (is_own rows k m) (found.1 m found.0.1).apart (ap (λ j. is_own rows j m) (sym is) ∙ found.0.1),
              some-interaction interactions e m (sym (own e m) ∙ found.0.1),
            );
        whole = λ e n m set of_own of_other. (((right.whole e).0 (ap (λ w. has_bit w e) (sym same) ∙ set)).1 m (own e m ∙ of_other)).each n (own k n ∙ of_own);
        flat = (
          λ is n m one other. its.flat.0 is n m (own k n ∙ one) (own k m ∙ other),
          λ none. its.flat.1 (λ n m one other. none n m (sym (own k n) ∙ one) (sym (own k m) ∙ other)),
        );
        below_whole = λ j t there.
            let u = shared-at j (omega (arith, slice_get_within of_connectors.items j t there, as_many)) in
            its.below_whole j ∙ ap (λ o. option_map_or (λ (x : Shared). has_bit x.whole k) o false) u.1 ∙ ap (λ w. has_bit w k) (sym ((each j t there).whole u.0 u.1));
        below_whole_there = λ j set. omega (arith, whole-there shared k j (sym (its.below_whole j) ∙ set), are.as_many);
        below_rest = λ j n m one other in_it.
            let owned = own j n ∙ one in
            (its.below_rest j).1 (own-within rows j n owned, (n, m, owned, own k m ∙ other, in_it));
        below_rest_there = λ j set. ((its.below_rest j).0 set).0;
      }

  pub ranks-from : AreRanksBy under (length rows) interactions ranks
  ranks-from = record {
    as_many = as_many;
    known = ranges.known;
    each = rank-right;
    heads_as_many = many;
    heads_there = heads-within;
    head_there = λ m k head.
        let at = from-head m k head in
        let above = above-head m k at in
        (own-within rows k above.some.0 above.some.1, sym (own k m) ∙ above.apart);
    head = λ n m k head its. (above-head m k (from-head m k head)).each n (own k n ∙ its);
    rest_as_many = rest.as_many;
    places = rest.places;
    rest = λ n m its. (in-rest n m its).4;
    rest_there = λ n m its. inside n m (in-rest n m its).4;
    rest_apart = λ e n m its one.
        let found = in-rest n m its in
        let same = one-connector interactions e found.0.connector n one (own-connector n found.0 found.2) in
        false_from_ne_true (is_of_connector interactions e m) (λ yes_.
        both_ways (contains found.1.covered m) found.5 (((are.each found.0.connector found.1 found.3).covered m).1 (inl (own found.0.connector m ∙ ap (λ k. is_of_connector interactions k m) (sym same) ∙ yes_))));
    with_rest = λ n m its. (rest.with_rest n).1 (m, its);
    watched = λ n m its. (rest.watched m).1 (n, its);
    all = λ k e n m r at other one there up.
        let s = shared-at k (omega (arith, slice_get_within of_connectors.items k r at, as_many)) in
        ap (λ w. has_bit w e || (is_head_of ranks m k || is_in_rest ranks n m)) ((each k r at).whole s.0 s.1) ∙ in-one k e n m s.0 s.1 other one there up;
    alone = λ k e n m set other one there. ((apart k).0 set).1 e n m other (own k n ∙ one) (own e m ∙ there);
    alone_there = λ k set. ((apart k).0 set).0;
    alone_all = λ k low is. (apart k).1 (low, λ e n m other one there. is e n m other (sym (own k n) ∙ one) (sym (own e m) ∙ there));
  }
