-- The rules with a condition add to what the others overrule exactly the least set that is closed by them.
use Rattle.std.proofs.Common.{◌≡◌, ◌⊎◌, ◌↔◌, ℕ, Bool, ◌||◌, List, [], ◌∷◌, Contains, refl, sym, ap, ◌∙◌, subst, inl, inr, ⊎_elim, IsTrue}
use Rattle.std.specs.FinSet.{contains}
use Rattle.std.proofs.lemmas.Bool.{or_cases, or_left, or_right}
use Rattle.priority_filter.specs.declared.rule.Rule.{Rule}
use Rattle.priority_filter.specs.declared.seen.At.{At}
use Rattle.priority_filter.specs.declared.condition.Condition.{Condition}
use Rattle.priority_filter.specs.Order.{Chain, IsRuleStep, IsBelow}
use Rattle.priority_filter.specs.Decided.{is_overruled}
use Rattle.priority_filter.specs.Active.{active, unconditional}
use Rattle.priority_filter.specs.Conditions.{IsUpTo, IsFrom, IsWritten, IsKept, AreConditions, IsHit, IsClosed, IsLeastClosed}
use Rattle.priority_filter.proofs.Chains.{Leads-step, Leads-join}
use Rattle.priority_filter.proofs.Counting.{IsStepAt, step-parts, step-by, below-always}
use Rattle.priority_filter.proofs.DecidedTests.{same_answer}
use Rattle.priority_filter.proofs.DecidedOrder.{decides_overruled}

module _ (rules : List Rule) (interactions : List (ℕ × ℕ)) (conditions : List Condition) (kept : AreConditions rules interactions conditions) (holds : At → Bool) (rivals : ℕ → Bool) where
  abbrev Up : ℕ → ℕ → Type 0
  Up = IsBelow (unconditional rules) interactions

  abbrev Below : ℕ → ℕ → Type 0
  Below = IsBelow (active holds rules) interactions

  abbrev HasRival : (ℕ → ℕ → Type 0) → ℕ → Type 0
  HasRival Over a = (b : ℕ) × IsTrue (rivals b) × Over a b

  decides : (a : ℕ) → IsTrue (is_overruled (active holds rules) interactions rivals a) ↔ HasRival Below a
  decides a = decides_overruled (active holds rules) interactions rivals a

  always : (a b : ℕ) → Up a b → Below a b
  always = below-always rules interactions holds

  join : (a s b : ℕ) → Below a s → Below s b → Below a b
  join = Leads-join (IsRuleStep (active holds rules) interactions)

  join-up : (a s b : ℕ) → Up a s → Up s b → Up a b
  join-up = Leads-join (IsRuleStep (unconditional rules) interactions)

  -- ---- what is overruled is closed by each condition

  -- what is below a rule whose condition holds is below what is above it
  across : (c : Condition) → Contains conditions c → IsTrue (holds c.at) → (m n : ℕ) → IsTrue (contains c.below m) → IsTrue (contains c.above n) → Below m n
  across c there marked m n lower upper =
      let written : IsWritten rules interactions c = kept.each c there in
      let low : IsUpTo Up interactions written.left m = (written.is.below m).0 lower in
      let high : IsFrom Up interactions written.right n = (written.is.above n).0 upper in
      let x : ℕ = low.0 in
      let y : ℕ = high.0 in
      let step : Below x y = Leads-step (IsRuleStep (active holds rules) interactions) x y (step-by rules interactions holds x y written.left written.right c.at written.there marked low.1 high.1 low.2 high.2) in
      let from_m : Below m y = ⊎_elim (λ same. subst (λ k. Below k y) (sym same) step) (λ up. join m x y (always m x up) step) low.3 in
      ⊎_elim (λ same. subst (Below m) (sym same) from_m) (λ up. join m y n from_m (always y n up)) high.3

  overruled-closed : IsClosed conditions holds rivals (is_overruled (active holds rules) interactions rivals)
  overruled-closed c there hit m lower =
      let n : ℕ = hit.1.0 in
      let below : Below m n = across c there hit.0 m n lower hit.1.1 in
      (decides m).1 (⊎_elim
      (λ rival. (n, rival, below))
      (λ over. let above : HasRival Below n = (decides n).0 over in (above.0, above.1, join m n above.0 below above.2))
      (or_cases (rivals n) (is_overruled (active holds rules) interactions rivals n) hit.1.2))

  -- ---- what is overruled is in each closed set

  module _ (set : ℕ → Bool) (closed : IsClosed conditions holds rivals set) where
    -- the number is below a rule that is hit
    record IsLowered (a : ℕ) : Type 0 where
      condition : Condition
      there : Contains conditions condition
      hit : IsHit condition holds rivals set
      lower : IsTrue (contains condition.below a)

    -- the rules without a condition put it below a rival, or it is below a rule that is hit
    abbrev IsReached : ℕ → Type 0
    IsReached a = HasRival Up a ⊎ IsLowered a

    in-set : (a : ℕ) → IsLowered a → IsTrue (set a)
    in-set a lowered = closed lowered.condition lowered.there lowered.hit a lowered.lower

    -- what is below something that is below a rule is below the rule
    below-it : (a x : ℕ) → Up a x → IsLowered x → IsLowered a
    below-it a x up lowered =
        let written : IsWritten rules interactions lowered.condition = kept.each lowered.condition lowered.there in
        let low : IsUpTo Up interactions written.left x = (written.is.below x).0 lowered.lower in
        record {
          condition = lowered.condition;
          there = lowered.there;
          hit = lowered.hit;
          lower = (written.is.below a).1 (low.0, low.1, low.2, inr (⊎_elim (λ same. subst (Up a) same up) (λ on. join-up a x low.0 up on) low.3));
        }

    -- a step up by a rule whose condition holds, to an interaction above whose rule there is a rival or one of the set
    by-rule : (a x n : ℕ) → (step : IsStepAt holds rules interactions a x) → ((n ≡ x) ⊎ Up x n) → IsTrue (rivals n || set n) → IsLowered a
    by-rule a x n step above some =
        let entry : IsKept rules interactions conditions step.left step.right step.at = kept.all step.left step.right step.at step.there in
        record {
          condition = entry.condition;
          there = entry.there;
          hit = (ap holds entry.same ∙ step.marked, (n, (entry.is.above n).1 (x, step.to, step.upper, above), some));
          lower = (entry.is.below a).1 (a, step.from, step.lower, inl refl);
        }

    step-on : (a x : ℕ) → IsRuleStep (active holds rules) interactions a x → IsReached x → IsReached a
    step-on a x step reached =
        ⊎_elim
        (λ plain.
        let up : Up a x = Leads-step (IsRuleStep (unconditional rules) interactions) a x plain in
        ⊎_elim (λ rival. inl (rival.0, rival.1, join-up a x rival.0 up rival.2)) (λ lowered. inr (below-it a x up lowered)) reached)
        (λ by.
        ⊎_elim
        (λ rival. inr (by-rule a x rival.0 by (inr rival.2) (or_left (rivals rival.0) (set rival.0) rival.1)))
        (λ lowered. inr (by-rule a x x by (inl refl) (or_right (rivals x) (set x) (in-set x lowered))))
        reached)
        (step-parts rules interactions holds a x step)

    step-to : (a x : ℕ) → IsRuleStep (active holds rules) interactions a x → IsTrue (rivals x) → IsReached a
    step-to a x step rival =
        ⊎_elim
        (λ plain. inl (x, rival, Leads-step (IsRuleStep (unconditional rules) interactions) a x plain))
        (λ by. inr (by-rule a x x by (inl refl) (or_left (rivals x) (set x) rival)))
        (step-parts rules interactions holds a x step)

    reached : (a : ℕ) (stations : List ℕ) (b : ℕ) → Chain (IsRuleStep (active holds rules) interactions) a stations b → IsTrue (rivals b) → IsReached a
    reached a [] b step rival = step-to a b step rival
    reached a (s ∷ stations) b chain rival = step-on a s chain.0 (reached s stations b chain.1 rival)

  -- ---- both

  -- an interaction is below a rival by the rules that count exactly if it is by those without a condition, or in the least closed set
  pub over-decides : (set : ℕ → Bool) → IsLeastClosed conditions holds rivals set → (n : ℕ)
      → is_overruled (active holds rules) interactions rivals n ≡ (is_overruled (unconditional rules) interactions rivals n || set n)
  over-decides set least n =
      let plain : Bool = is_overruled (unconditional rules) interactions rivals n in
      let plain_decides = decides_overruled (unconditional rules) interactions rivals n in
      same_answer (is_overruled (active holds rules) interactions rivals n) (plain || set n) (HasRival Below n) (decides n) (
        λ some. ⊎_elim
            (λ yes. let above : HasRival Up n = plain_decides.0 yes in (above.0, above.1, always n above.0 above.2))
            (λ in_set. (decides n).0 (least.least (is_overruled (active holds rules) interactions rivals) overruled-closed n in_set))
            (or_cases plain (set n) some),
        λ above. ⊎_elim
            (λ rival. or_left plain (set n) (plain_decides.1 rival))
            (λ lowered. or_right plain (set n) (in-set set least.closed n lowered))
            (reached set least.closed n above.2.stations above.0 above.2.chain above.1),
      )
