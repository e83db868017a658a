use Rattle.std.proofs.Common.{◌≡◌, ◌/◌, ◌%◌, ◌∙◌, ◌&&◌, not, false, ⊎_elim, ap, sym, arith}
use Rattle.std.specs.FinSet.{contains, contains-empty}
use Rattle.std.specs.Ordering.{nat_cmp}
use Rattle.std.proofs.lemmas.Bool.{and_left, cases_eq, cases_lt, false_from_ne_true}
use Rattle.priority_filter.specs.Active.{unconditional}
use Rattle.priority_filter.specs.Decided.{is_below}
use Rattle.priority_filter.specs.Members.{has_bit}
use Rattle.priority_filter.proofs.DecidedOrder.{below_inside, decides_below}
use Rattle.plant_model.proofs.WordSets.{bit-without}
use Rattle.plant_model.proofs.ranks.above_without.Goals as goal

pub loop-place-init : goal.loop-place-init
loop-place-init c = (
  λ m below. absurd (omega (arith, below)),
  λ m _. ap (λ set. contains set m) c.new-above.ensures ∙ contains-empty nat_cmp m,
)

pub loop-place-preserved : goal.loop-place-preserved
loop-place-preserved c =
    let place = c.loop-place.place in
    let above = c.above_word in
    let set = c.word in
    let before = c.loop-place.invariant in
    let written = c.set_word.ensures in (
      λ m below. ⊎_elim
          (λ at.
          written.here m at ∙ bit-without above.result set.result (m % 64) (omega arith) (omega arith) ∙
          ap (λ b. b && not (has_bit set.result (m % 64))) (above.ensures m at) ∙
          ap (λ b. is_below (unconditional c.args.order.now.rules) c.args.order.now.interactions c.args.interaction m && not b) (set.ensures m at))
          (λ apart. written.others m apart ∙ before.0 m (omega (arith, below, apart)))
          (cases_eq (m / 64) place),
      λ m past. written.others m (λ same. absurd (omega (arith, past, same))) ∙ before.1 m (omega (arith, past)),
    )

pub returns : goal.returns
returns c m =
    let rules = unconditional c.args.order.now.rules in
    let names = c.args.order.now.interactions in
    let under = is_below rules names c.args.interaction m in
    ⊎_elim
    (λ below. c.loop-place.invariant.0 m below)
    (λ past.
    let none : under ≡ false = false_from_ne_true under (λ up. absurd (omega (arith, c.requires, past, c.loop-place-test.false, (below_inside rules names c.args.interaction m ((decides_below rules names c.args.interaction m).0 up)).1))) in
    c.loop-place.invariant.1 m past ∙ sym (and_left under (not (contains c.args.set.now m)) none))
    (cases_lt (m / 64) c.loop-place.place)
