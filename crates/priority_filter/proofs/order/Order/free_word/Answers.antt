use Rattle.std.proofs.Common.{◌≡◌, ℕ, Bool, true, false, sym, ◌∙◌, subst}
use Rattle.std.specs.Ordering.{nat_cmp}
use Rattle.std.specs.FinSet.{FinSet, contains}
use Rattle.priority_filter.specs.Active.{unconditional}
use Rattle.priority_filter.specs.Decided.{is_overruled}
use Rattle.priority_filter.specs.Order.{Priorities}
use Rattle.priority_filter.specs.Table.{AreFree}
use Rattle.priority_filter.proofs.Counting.{free-of-rivals}
use Rattle.priority_filter.proofs.order.Order.free_word.Goals as goal

-- none of a set that nothing is above is overruled
unruled : (p : Priorities) (free : FinSet nat_cmp) (n : ℕ) → AreFree p.rules p.interactions free → contains free n ≡ true → (rivals : ℕ → Bool) → is_overruled (unconditional p.rules) p.interactions rivals n ≡ false
unruled p free n are there rivals = free-of-rivals p.rules p.interactions (λ _. false) rivals n (are n there)

pub returns : goal.returns
returns c n at yes_ rivals =
    let inside : Priorities = record { rules = c.self.inside.rules.items; interactions = c.self.inside.interactions.items } in
    subst (λ (p : Priorities). is_overruled (unconditional p.rules) p.interactions rivals n ≡ false) c.self.view_is
    (unruled inside c.self.inside.free n c.self.invariant.free (sym (c.word.ensures n at) ∙ yes_) rivals)
