use Rattle.std.proofs.Common.{◌≡◌, ◌<◌, ◌/◌, ◌↔◌, ◌⊎◌, ◌&&◌, ◌∙◌, not, ⊎_elim, inl, inr, ℕ, true, ap, sym, subst, refl, map, length, arith}
use Rattle.std.specs.Prelude.{Some, slice_get}
use Rattle.std.specs.Cmp.{nat_cmp_total}
use Rattle.std.specs.FinSet.{contains, contains-union, insert}
use Rattle.std.proofs.lemmas.Bool.{and_parts, cases_eq, eqb-false, eqb-true}
use Rattle.std.proofs.lemmas.Option.{slice_get_read, slice_get_within}
use Rattle.priority_filter.specs.Active.{unconditional}
use Rattle.priority_filter.specs.Decided.{is_below}
use Rattle.priority_filter.specs.declared.interaction_set.TheConstants.{INTERACTION_LIMIT, ROW_WORDS}
use Rattle.plant_model.specs.Interaction.{interaction_of}
use Rattle.plant_model.specs.Ranks.{AreRests}
use Rattle.plant_model.specs.declared.interaction.Interaction.{Interaction}
use Rattle.plant_model.specs.declared.ranks.Rests.{Rests}
use Rattle.plant_model.specs.declared.ranks.Shared.{Shared}
use Rattle.plant_model.proofs.ByConnector.{kept-at}
use Rattle.plant_model.proofs.Noting.{put-here, put-other}
use Rattle.plant_model.proofs.Ranking.{from-parts, rests-more, rests-none, up-inside}
use Rattle.plant_model.proofs.ranks.rests_of.Goals as goal
use Rattle.plant_model.proofs.ranks.rests_of.Goals.{then-not-is_empty, else-not-is_empty}

pub bounds-shared-connector : goal.bounds-shared-connector
bounds-shared-connector c =
    let items = c.args.interactions.now in
    let item = c.index-interactions-number.result in
    omega (
      arith,
      c.from-connector.ensures,
      ap (λ (i : Interaction). i.connector) c.index-interactions-number.is,
      c.requires.known c.loop-number.number item (slice_get_read items (length items) c.loop-number.number item refl c.loop-number-test.true c.index-interactions-number.is),
    )

pub loop-number-init : goal.loop-number-init
loop-number-init c =
    rests-none (is_below (unconditional c.args.order.now.rules) c.args.order.now.interactions) (map interaction_of c.args.interactions.now) c.args.shared.now
    (record { parts = c.in_ok-parts.parts; with_rest = c.new-with_rest.result; watched = c.new-watched.result }) c.in_ok-parts.ensures.items c.new-with_rest.ensures c.new-watched.ensures

pub loop-number-preserved : goal.loop-number-preserved
loop-number-preserved c =
    let rules = c.args.order.now.rules in
    let names = c.args.order.now.interactions in
    let under = is_below (unconditional rules) names in
    let items = c.args.interactions.now in
    let shared = c.args.shared.now in
    let n = c.loop-number.number in
    let item = c.index-interactions-number.result in
    let own = c.from-connector.result in
    let its = c.index-shared-connector.result in
    let above = c.above_without-above.result in
    let rest = c.in_ok-rest.rest in
    let parts = c.in_ok-rest.ensures in
    let old : Rests = record { parts = c.loop-number.parts; with_rest = c.loop-number.with_rest; watched = c.loop-number.watched } in
    let new : Rests = record { parts = c.push.new.self; with_rest = c.if-not-is_empty.with_rest; watched = c.union_with.new.self } in
    let there = kept-at items n item c.loop-number-test.true c.index-interactions-number.is in
    let same : item.connector ≡ own = ap (λ (i : Interaction). i.connector) c.index-interactions-number.is ∙ sym c.from-connector.ensures in
    let inside : own < length shared = omega (arith, same, c.requires.known n item (slice_get_read items (length items) n item refl c.loop-number-test.true c.index-interactions-number.is)) in
    let of_own : slice_get shared item.connector ≡ Some its = ap (slice_get shared) same ∙ slice_get_read shared (length shared) own its refl inside c.index-shared-connector.is in
    let is : (m : ℕ) → contains above m ≡ (under n m && not (contains its.covered m)) = λ m. c.above_without-above.ensures m ∙ ap (λ (s : Shared). under n m && not (contains s.covered m)) (sym c.index-shared-connector.is) in
    let low : (m : ℕ) → under n m ≡ true → m / 64 < ROW_WORDS = λ m up. omega (arith, up-inside rules names n m up, c.requires.few) in
    let small : n < INTERACTION_LIMIT = omega (arith, c.loop-number-test.true, c.requires.few_interactions) in
    let with_new : (k : ℕ) → (contains new.with_rest k ≡ true) ↔ ((contains old.with_rest k ≡ true) ⊎ ((k ≡ n) × ((m : ℕ) × (contains above m ≡ true)))) = λ k.
    elim c.if-not-is_empty.branch [
      | then-not-is_empty w ↦
          let put = w.with_rest-is ∙ w.insert.ensures.within small in
          let none : rest.len ≡ 0 → ⊥ = eqb-false rest.len 0 (sym c.is_empty.ensures ∙ w.if-not-is_empty.true) in
          let some = parts.some (omega (arith, none, rest.ok.0)) in (
            λ inside'. ⊎_elim (λ at. inr (at, some)) (λ other. inl (sym (ap (λ set. contains set k) put ∙ put-other old.with_rest n k other) ∙ inside')) (cases_eq k n),
            λ either. ap (λ set. contains set k) put ∙ ⊎_elim
                (λ at. ap (contains (insert old.with_rest n)) at ∙ put-here old.with_rest n)
                (λ other. put-other old.with_rest n k other ∙ ⊎_elim (λ before. before) (λ here. absurd (other here.0)) either)
                (cases_eq k n),
          )
      | else-not-is_empty w ↦
          let none : rest.len ≡ 0 = eqb-true rest.len 0 (sym c.is_empty.ensures ∙ w.if-not-is_empty.false) in (
            λ inside'. inl (ap (λ set. contains set k) (sym w.with_rest-is) ∙ inside'),
            λ either. ⊎_elim
                (λ before. ap (λ set. contains set k) w.with_rest-is ∙ before)
                (λ here.
                let m = here.1.0 in
                let found = from-parts rest.items m (parts.all m (low m (and_parts (under n m) (not (contains its.covered m)) (sym (is m) ∙ here.1.1)).0) here.1.1) in
                absurd (omega (arith, slice_get_within rest.items found.0 found.1 found.2, none, rest.ok.0)))
                either,
          )
    ] in
    rests-more under (map interaction_of items) shared n old c.loop-number.invariant (interaction_of item) there its of_own above is low rest parts.places parts.within parts.all new
    c.in_ok-push.ensures.items with_new (λ m. ap (λ set. contains set m) c.union_with.ensures ∙ contains-union nat_cmp_total c.loop-number.watched above m)

pub returns : goal.returns
returns c =
    let end : c.loop-number.number ≡ length c.args.interactions.now = omega (arith, c.loop-number-test.false, c.loop-number.auto.number-end) in
    subst (λ k. AreRests (is_below (unconditional c.args.order.now.rules) c.args.order.now.interactions) (map interaction_of c.args.interactions.now) c.args.shared.now k
    (record { parts = c.loop-number.parts; with_rest = c.loop-number.with_rest; watched = c.loop-number.watched })) end c.loop-number.invariant
