use Rattle.std.proofs.Common.{◌≡◌, List, length, sym, ap, ◌∙◌, subst, arith}
use Rattle.std.specs.Ordering.{nat_cmp}
use Rattle.std.specs.FinSet.{FinSet}
use Rattle.priority_filter.specs.Active.{unconditional}
use Rattle.priority_filter.specs.Table.{Above, AreTurned, IsOrder}
use Rattle.priority_filter.proofs.DecidedOrder.{below_inside}
use Rattle.priority_filter.proofs.order.Order.of.Goals as goal

pub turned-requires-clause-within : goal.turned-requires-clause-within
turned-requires-clause-within c a b above =
    let rows = c.in_ok-above.above in
    let same : c.deref-2.result.now ≡ rows.items = c.deref-2.ensures.value in
    let inside = below_inside (unconditional c.args.rules.now) c.args.interactions.now a b ((c.in_ok-above.ensures.below a b).0 (subst (λ (t : List (FinSet nat_cmp)). Above t a b) same above)) in
    omega (arith, inside.1, ap length same, rows.ok.0, c.in_ok-above.ensures.size)

pub invariant_of-result : goal.invariant_of-result
invariant_of-result c =
    let rows = c.in_ok-above.above.items in
    let lower = c.in_ok-below.below.items in
    let kept = c.in_ok-conditions.conditions.items in
    let free = c.free_rows-free.result in
    let places = c.watched_places-watched.result in
    subst (λ rules. IsOrder rules c.in_ok-from_slice-2.field-0.items rows lower free kept places) (sym c.in_ok-from_slice.ensures.items)
    (subst (λ interactions. IsOrder c.args.rules.now interactions rows lower free kept places) (sym c.in_ok-from_slice-2.ensures.items)
    (record {
      table = record {
        limit = c.requires.limit;
        size = sym c.in_ok-above.above.ok.0 ∙ c.in_ok-above.ensures.size;
        exact = c.in_ok-above.ensures.below;
        sound = c.requires.sound;
      };
      below = subst (λ (t : List (FinSet nat_cmp)). AreTurned t lower) c.deref-2.ensures.value c.in_ok-below.ensures.turned;
      free = λ n there b below. c.free_rows-free.ensures n there b (subst (λ (t : List (FinSet nat_cmp)). Above t n b) (sym c.deref.ensures.value) ((c.requires.below n b).1 below));
      conditions = c.in_ok-conditions.ensures;
      watched = c.watched_places-watched.ensures;
    }))
