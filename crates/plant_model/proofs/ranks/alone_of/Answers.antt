use Rattle.std.proofs.Common.{◌≡◌, ◌<◌, ◌+◌, ◌↔◌, ℕ, true, sym, subst, arith}
use Rattle.std.proofs.lemmas.Bool.{iff_false}
use Rattle.priority_filter.specs.Active.{unconditional}
use Rattle.priority_filter.specs.Decided.{is_below}
use Rattle.priority_filter.specs.Members.{has_bit}
use Rattle.plant_model.specs.Ranks.{IsAlone, is_own}
use Rattle.plant_model.proofs.Ranking.{mark-added, mark-none, mark-passed}
use Rattle.plant_model.proofs.ranks.alone_of.Goals as goal
use Rattle.plant_model.proofs.ranks.alone_of.Goals.{then-is_alone, else-is_alone}

pub loop-connector-init : goal.loop-connector-init
loop-connector-init c = mark-none (IsAlone (is_below (unconditional c.args.order.now.rules) c.args.order.now.interactions) (is_own c.args.rows.now))

pub loop-connector-preserved : goal.loop-connector-preserved
loop-connector-preserved c =
    let P : ℕ → Type 0 = IsAlone (is_below (unconditional c.args.order.now.rules) c.args.order.now.interactions) (is_own c.args.rows.now) in
    let n = c.loop-connector.connector in
    let word = c.loop-connector.alone in
    elim c.if-is_alone.branch [
      | then-is_alone w ↦ subst (λ x. (k : ℕ) → (has_bit x k ≡ true) ↔ ((k < n + 1) × P k)) (sym w.alone-is)
          (mark-added word n P c.loop-connector.invariant (omega (arith, c.loop-connector-test.true, c.requires.few_rows)) (c.is_alone.ensures.0 w.if-is_alone.true))
      | else-is_alone w ↦ subst (λ x. (k : ℕ) → (has_bit x k ≡ true) ↔ ((k < n + 1) × P k)) (sym w.alone-is)
          (mark-passed word n P c.loop-connector.invariant (iff_false c.is_alone.ensures w.if-is_alone.false))
    ]

pub returns : goal.returns
returns c k = (
  λ set. let its = (c.loop-connector.invariant k).0 set in (omega (arith, its.0, c.loop-connector.auto.connector-end), its.1),
  λ is. (c.loop-connector.invariant k).1 (omega (arith, is.0, c.loop-connector-test.false), is.1),
)
