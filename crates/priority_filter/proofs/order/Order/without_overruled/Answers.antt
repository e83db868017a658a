use Rattle.std.proofs.Common.{◌≡◌, ℕ, Bool, ◌+◌, ◌*◌, ◌^◌, ◌<◌, ◌∙◌, ap, sym, arith, w64}
use Rattle.std.specs.Int.{trailing_zeros}
use Rattle.std.specs.FinSet as set
use Rattle.priority_filter.specs.Active.{unconditional}
use Rattle.priority_filter.specs.Decided.{is_overruled}
use Rattle.priority_filter.specs.Members.{has_bit}
use Rattle.priority_filter.proofs.Words.{rest-less, asked-kept, asked-left}
use Rattle.priority_filter.proofs.order.Order.without_overruled.Goals as goal
use Rattle.priority_filter.proofs.order.Order.without_overruled.Goals.{then-is_overruled, else-is_overruled}

pub loop-left-smaller : goal.loop-left-smaller
loop-left-smaller c =
    let left = c.loop-left.left in
    rest-less left (omega (arith, c.loop-left-test.true)) (omega arith)

pub loop-left-preserved : goal.loop-left-preserved
loop-left-preserved c =
    let order = c.args.self.now in
    let left = c.loop-left.left in
    let kept = c.loop-left.kept in
    let place = c.args.place in
    let some : 0 < left = omega (arith, c.loop-left-test.true) in
    let small : left < 2 ^ 64 = omega arith in
    let over : ℕ → Bool = λ k. is_overruled (unconditional order.rules) order.interactions (set.contains c.args.rivals.now) (64 * place + k) in
    let lowest = trailing_zeros w64 left in
    let answer : over lowest ≡ c.is_overruled.result = sym c.is_overruled.ensures.value in
    elim c.if-is_overruled.branch [
      | then-is_overruled w ↦ λ k below. ap (λ x. has_bit x k) w.kept-is ∙ asked-left left some small over c.args.some kept c.loop-left.invariant (answer ∙ w.if-is_overruled.true) k below
      | else-is_overruled w ↦ λ k below. ap (λ x. has_bit x k) w.kept-is ∙ asked-kept left some small over c.args.some kept c.loop-left.invariant (answer ∙ w.if-is_overruled.false) k below
    ]
