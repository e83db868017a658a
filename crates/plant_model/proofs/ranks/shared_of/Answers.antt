use Rattle.std.proofs.Common.{◌≡◌, ◌<◌, ◌+◌, ◌↔◌, ◌&&◌, ◌||◌, not, ◌∙◌, ⊎_elim, inl, inr, ℕ, true, false, ap, sym, subst, refl, length, arith}
use Rattle.std.specs.Cmp.{nat_cmp_total}
use Rattle.std.specs.FinSet.{contains, contains-union}
use Rattle.std.proofs.lemmas.Bool.{both_ways, iff_false, or_cases, or_left, or_right}
use Rattle.std.proofs.lemmas.Option.{slice_get_read}
use Rattle.priority_filter.specs.Active.{unconditional}
use Rattle.priority_filter.specs.Decided.{is_below}
use Rattle.priority_filter.specs.Members.{has_bit}
use Rattle.plant_model.specs.Ranks.{IsAbove, is_own}
use Rattle.plant_model.specs.declared.connector_rows.ConnectorRows.{ConnectorRows}
use Rattle.plant_model.proofs.Ranking.{above-as, few-words, heads-more, in-words, mark-added, mark-none, mark-passed, own-at, own-within, read-at}
use Rattle.plant_model.proofs.BitsLeft.{no-bit}
use Rattle.plant_model.proofs.ranks.shared_of.Goals as goal
use Rattle.plant_model.proofs.ranks.shared_of.Goals.{then-is_whole_in, else-is_whole_in}

pub above_all-all-requires-clause-range : goal.above_all-all-requires-clause-range
above_all-all-requires-clause-range c =
    let rows = c.args.rows.now in
    let row = c.index-rows-connector.result in
    c.requires.ranges c.args.connector row (slice_get_read rows (length rows) c.args.connector row refl c.requires.connector c.index-rows-connector.is)

pub is_whole_in-requires : goal.is_whole_in-requires
is_whole_in-requires c =
    let rows = c.args.rows.now in
    let row = c.index-rows-number.result in
    c.requires.ranges c.loop-number.number row (slice_get_read rows (length rows) c.loop-number.number row refl c.loop-number-test.true c.index-rows-number.is)

pub take_out-requires-clause-own : goal.take_out-requires-clause-own
take_out-requires-clause-own c n own =
    let rows = c.args.rows.now in
    let row = c.index-rows-number.result in
    let range = c.requires.ranges c.loop-number.number row (slice_get_read rows (length rows) c.loop-number.number row refl c.loop-number-test.true c.index-rows-number.is) in
    (omega arith, omega (arith, (in-words row range n own).1, few-words row range))

pub loop-number-init : goal.loop-number-init
loop-number-init c =
    let rows = c.args.rows.now in
    let all = c.above_all-all.result in (
      mark-none (λ e. ((m : ℕ) × (is_own rows e m ≡ true)) × ((m : ℕ) → is_own rows e m ≡ true → contains all m ≡ true)),
      λ m. (
        λ inside. (ap (λ set. contains set m) (sym c.copy-heads.ensures) ∙ inside, λ e set. absurd (both_ways (has_bit 0 e) (no-bit e) set)),
        λ is. ap (λ set. contains set m) c.copy-heads.ensures ∙ is.0,
      ),
    )

pub loop-number-preserved : goal.loop-number-preserved
loop-number-preserved c =
    let rows = c.args.rows.now in
    let all = c.above_all-all.result in
    let n = c.loop-number.number in
    let word = c.loop-number.whole in
    let heads = c.loop-number.heads in
    let row = c.index-rows-number.result in
    let at = slice_get_read rows (length rows) n row refl c.loop-number-test.true c.index-rows-number.is in
    let low : n < 64 = omega (arith, c.loop-number-test.true, c.requires.few_rows) in
    let P : ℕ → Type 0 = λ e. ((m : ℕ) × (is_own rows e m ≡ true)) × ((m : ℕ) → is_own rows e m ≡ true → contains all m ≡ true) in
    let told = c.is_whole_in.ensures in
    elim c.if-is_whole_in.branch [
      | then-is_whole_in w ↦
          let its = told.0 w.if-is_whole_in.true in
          let holds : P n = ((its.0.0, own-at rows n its.0.0 row at ∙ its.0.1), λ m own. its.1 m (sym (own-at rows n m row at) ∙ own)) in (
            subst (λ x. (e : ℕ) → (has_bit x e ≡ true) ↔ ((e < n + 1) × P e)) (sym w.whole-is) (mark-added word n P c.loop-number.invariant.0 low holds),
            subst (λ x. (m : ℕ) → (contains c.if-is_whole_in.heads m ≡ true) ↔ ((contains all m ≡ true) × ((e : ℕ) → has_bit x e ≡ true → is_own rows e m ≡ false))) (sym w.whole-is)
                (heads-more (is_own rows) all heads c.if-is_whole_in.heads word n low c.loop-number.invariant.1
                (λ m. ap (λ set. contains set m) w.heads-is ∙ w.take_out.ensures m ∙ ap (λ b. contains heads m && not b) (sym (own-at rows n m row at)))),
          )
      | else-is_whole_in w ↦
          let fails : P n → ⊥ = λ p. iff_false told w.if-is_whole_in.false ((p.0.0, sym (own-at rows n p.0.0 row at) ∙ p.0.1), λ m own. p.1 m (own-at rows n m row at ∙ own)) in (
            subst (λ x. (e : ℕ) → (has_bit x e ≡ true) ↔ ((e < n + 1) × P e)) (sym w.whole-is) (mark-passed word n P c.loop-number.invariant.0 fails),
            subst (λ x. (m : ℕ) → (contains x m ≡ true) ↔ ((contains all m ≡ true) × ((e : ℕ) → has_bit c.if-is_whole_in.whole e ≡ true → is_own rows e m ≡ false))) (sym w.heads-is)
                (subst (λ x. (m : ℕ) → (contains heads m ≡ true) ↔ ((contains all m ≡ true) × ((e : ℕ) → has_bit x e ≡ true → is_own rows e m ≡ false))) (sym w.whole-is) c.loop-number.invariant.1),
          )
    ]

pub returns : goal.returns
returns c =
    let under = is_below (unconditional c.args.order.now.rules) c.args.order.now.interactions in
    let rows = c.args.rows.now in
    let k = c.args.connector in
    let all = c.above_all-all.result in
    let row = c.index-rows-connector.result in
    let at = slice_get_read rows (length rows) k row refl c.requires.connector c.index-rows-connector.is in
    let forth : (m : ℕ) → contains all m ≡ true → IsAbove under (is_own rows k) m = λ m inside. above-as under (contains row.own) (is_own rows k) m (λ n. sym (own-at rows k n row at)) ((c.above_all-all.ensures m).0 inside) in
    let back : (m : ℕ) → IsAbove under (is_own rows k) m → contains all m ≡ true = λ m is. (c.above_all-all.ensures m).1 (above-as under (is_own rows k) (contains row.own) m (λ n. own-at rows k n row at) is) in
    let whole = c.loop-number.invariant.0 in
    let heads = c.loop-number.invariant.1 in
    let united : (m : ℕ) → contains c.union_with.new.self m ≡ (is_own rows k m || contains all m) = λ m.
    ap (λ set. contains set m) c.union_with.ensures ∙ contains-union nat_cmp_total c.copy-covered.result all m ∙
    ap (λ b. b || contains all m) (ap (λ set. contains set m) c.copy-covered.ensures ∙ ap (λ (r : ConnectorRows). contains r.own m) (read-at rows k c.index-rows-connector-2.result c.requires.connector c.index-rows-connector-2.is row at) ∙ sym (own-at rows k m row at)) in
    record {
      whole = λ e. (
        λ set. let its = (whole e).0 set in (its.1.0, λ m own. forth m (its.1.1 m own)),
        λ is. (whole e).1 (omega (arith, own-within rows e is.0.0 is.0.1, c.loop-number-test.false), (is.0, λ m own. back m (is.1 m own))),
      );
      heads = λ m. (
        λ inside. let its = (heads m).0 inside in (forth m its.0, its.1),
        λ is. (heads m).1 (back m is.0, is.1),
      );
      covered = λ m. (
        λ inside. ⊎_elim (λ own. inl own) (λ its. inr (forth m its)) (or_cases (is_own rows k m) (contains all m) (sym (united m) ∙ inside)),
        λ is. united m ∙ ⊎_elim (or_left (is_own rows k m) (contains all m)) (λ its. or_right (is_own rows k m) (contains all m) (back m its)) is,
      );
    }
