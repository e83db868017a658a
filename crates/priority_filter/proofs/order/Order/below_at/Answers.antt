use Rattle.std.proofs.Common.{◌≡◌, ℕ, ◌<◌, length, sym, ap, ◌∙◌, inl, ⊎_elim, arith, IsTrue}
use Rattle.std.specs.Ordering.{nat_cmp}
use Rattle.std.specs.FinSet as set
use Rattle.std.proofs.lemmas.Bool.{cases_lt, false≢true}
use Rattle.priority_filter.specs.Active.{active, may_be_marked}
use Rattle.priority_filter.specs.Decided.{is_below}
use Rattle.priority_filter.proofs.Counting.{overruled-by-one}
use Rattle.priority_filter.proofs.DecidedOrder.{decides_below, decides_no_fault}
use Rattle.priority_filter.proofs.TableLaws.{contains_insert_cases}
use Rattle.priority_filter.proofs.order.Order.below_at.Goals as goal

in-none : (s : set.FinSet nat_cmp) (n : ℕ) → s ≡ set.empty → ¬ IsTrue (set.contains s n)
in-none s n blank there = false≢true (sym (ap (λ t. set.contains t n) blank ∙ set.contains-empty nat_cmp n) ∙ there)

pub returns : goal.returns
returns c =
    let a : ℕ = c.args.a in
    let b : ℕ = c.args.b in
    let order = c.args.self.now in
    let rules = active (may_be_marked c.args.seen.now) order.rules in
    let none = c.new-upper.result in
    let upper = c.insert.new.self in
    let only : (n : ℕ) → IsTrue (set.contains upper n) → n ≡ b = λ n there.
    ⊎_elim
    (λ within.
    ⊎_elim
    (λ same. same)
    (λ was. absurd (in-none none n c.new-upper.ensures was))
    ((contains_insert_cases none b n).0 (sym (ap (λ s. set.contains s n) (c.insert.ensures.within within)) ∙ there)))
    (λ past. absurd (in-none upper n (c.insert.ensures.past past ∙ c.new-upper.ensures) there))
    (cases_lt b 1024) in
    let there : b < length order.interactions → IsTrue (set.contains upper b) = λ within.
    ap (λ s. set.contains s b) (c.insert.ensures.within (omega (arith, within, c.is_overruled_at.ensures.limit))) ∙ (contains_insert_cases none b b).1 (inl (λ _. b)) in
    let value : c.is_overruled_at.result ≡ is_below rules order.interactions a b = c.is_overruled_at.ensures.value ∙ overruled-by-one rules order.interactions (set.contains upper) a b only there in
    let decides = decides_below rules order.interactions a b in
    record {
      below = (λ yes_. decides.0 (sym value ∙ yes_), λ below. value ∙ decides.1 below);
      value = value;
      strict = ((decides_no_fault order.rules order.interactions).0 c.is_overruled_at.ensures.sound).1;
      sound = c.is_overruled_at.ensures.sound;
    }
