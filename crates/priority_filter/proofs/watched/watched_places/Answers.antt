use Rattle.std.proofs.Common.{◌≡◌, ℕ, Contains, sym, ap, ◌∙◌, subst, ⊎_elim, get_or, arith}
use Rattle.std.proofs.lemmas.Bool.{cases_eq}
use Rattle.std.proofs.lemmas.List.{get_or_default}
use Rattle.std.proofs.lemmas.List.Elements.{Contains-get_or}
use Rattle.priority_filter.specs.declared.rule.Side.{Side}
use Rattle.priority_filter.specs.declared.rule.Side.TheVariants.{Whole}
use Rattle.priority_filter.specs.declared.rule.Rule.TheVariants.{Under, UnderAt}
use Rattle.priority_filter.specs.declared.seen.At.{At}
use Rattle.priority_filter.specs.Members.{has_bit}
use Rattle.priority_filter.specs.Order.{rule_at}
use Rattle.priority_filter.proofs.watched.watched_places.Goals as goal
use Rattle.priority_filter.proofs.watched.watched_places.Goals.{in-UnderAt, in_default}

pub watch-requires : goal.watch-requires
watch-requires c =
    c.requires c.in-UnderAt.field-0 c.in-UnderAt.field-1 c.in-UnderAt.at
    (subst (Contains c.args.rules.now) c.in-UnderAt.is (Contains-get_or c.args.rules.now c.loop-k.k (Under (Whole 0) (Whole 0)) c.loop-k-test.true))

-- two rules that are one ask for the same place
same-place : (left right other_left other_right : Side) (at other : At) → UnderAt left right at ≡ UnderAt other_left other_right other → at ≡ other
same-place left right other_left other_right at other same = cc

pub loop-k-preserved : goal.loop-k-preserved
loop-k-preserved c =
    let rules = c.args.rules.now in
    let k : ℕ = c.loop-k.k in
    elim c.match-rules-k.branch [
      | in-UnderAt w ↦ λ j left right at below written.
          ap (λ row. has_bit (get_or row at.atom 0) at.place) w.watched-is ∙
          ⊎_elim
          (λ here.
          let same : w.in-UnderAt.at ≡ at = same-place w.in-UnderAt.field-0 w.in-UnderAt.field-1 left right w.in-UnderAt.at at (sym w.in-UnderAt.is ∙ ap (rule_at rules) (sym here) ∙ written) in
          ap (λ (p : At). has_bit (get_or w.watch.new.watched p.atom 0) p.place) (sym same) ∙ w.watch.ensures.here)
          (λ other. w.watch.ensures.others at.atom at.place (c.loop-k.invariant j left right at (omega arith) written))
          (cases_eq j k)
      | in_default w ↦ λ j left right at below written.
          ap (λ row. has_bit (get_or row at.atom 0) at.place) w.watched-is ∙
          ⊎_elim
          (λ here. absurd (w.in_default.not-UnderAt left right at (ap (rule_at rules) (sym here) ∙ written)))
          (λ other. c.loop-k.invariant j left right at (omega arith) written)
          (cases_eq j k)
    ]

pub returns : goal.returns
returns c = λ left right at there.
    c.loop-k.invariant there.0 left right at (omega (arith, there.1, c.loop-k-test.false)) (sym (get_or_default c.args.rules.now there.0 (UnderAt left right at) (Under (Whole 0) (Whole 0)) there.1) ∙ there.2)
