use Rattle.std.proofs.Common.{◌≡◌, Bool, ◌+◌, ◌*◌, ◌%◌, ◌^◌, ◌<◌, ◌&&◌, not, ◌∙◌, ap, arith, w64}
use Rattle.std.specs.Prelude.{bit_and}
use Rattle.std.specs.Int.{bit_not}
use Rattle.std.specs.FinSet as set
use Rattle.std.proofs.lemmas.Nat.{and_le_l}
use Rattle.priority_filter.specs.Active.{unconditional}
use Rattle.priority_filter.specs.Decided.{is_overruled}
use Rattle.priority_filter.specs.Members.{has_bit}
use Rattle.priority_filter.proofs.Words.{word-picked}
use Rattle.priority_filter.proofs.order.Order.kept_word.Goals as goal

pub returns : goal.returns
returns c n at =
    let here = c.word-here.result in
    let free = c.free_word.result in
    let k = n % 64 in
    let order = c.args.self.now in
    let over : Bool = is_overruled (unconditional order.rules) order.interactions (set.contains c.args.rivals.now) n in
    let below : k < 64 = omega arith in
    let number : 64 * c.args.place + k ≡ n = omega (arith, at) in
    let small : here < 2 ^ 64 = omega arith in
    let low : bit_and here free < 2 ^ 64 = omega (arith, and_le_l here free, small) in
    word-picked here free c.without_overruled.result k over small low below (λ yes_. c.free_word.ensures n at yes_ (set.contains c.args.rivals.now))
    (c.without_overruled.ensures k below ∙
    ap (λ m. has_bit (bit_and here (bit_not w64 (bit_and here free))) k && not (is_overruled (unconditional order.rules) order.interactions (set.contains c.args.rivals.now) m)) number) ∙
    ap (λ b. b && not over) (c.word-here.ensures n at)
