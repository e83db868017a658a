use Rattle.std.proofs.Common.{◌≡◌, ◌+◌, ◌∙◌, ℕ, [], ◌∷◌, ap, sym, get_or, length, arith}
use Rattle.std.specs.Prelude.{slice_get}
use Rattle.std.proofs.lemmas.List.{length-append}
use Rattle.std.proofs.lemmas.Option.{slice_get-get_or}
use Rattle.priority_filter.specs.Members.{has_bit}
use Rattle.plant_model.specs.Ranks.{is_head_at}
use Rattle.plant_model.proofs.Pushed.{each-pushed}
use Rattle.plant_model.proofs.ranks.below_heads.Goals as goal

pub loop-number-preserved : goal.loop-number-preserved
loop-number-preserved c =
    let so_far = c.loop-number.below.items in
    let made = c.below_head.result in
    let pushed = c.in_ok-push.ensures.items in
    let Right : ℕ → ℕ → Type 0 = λ m word. (k : ℕ) → has_bit word k ≡ is_head_at c.args.shared.now m k in (
      ap length pushed ∙ length-append so_far (made ∷ []) ∙ ap (λ n. n + 1) c.loop-number.invariant.0,
      λ m word there. each-pushed Right so_far made c.loop-number.number c.loop-number.invariant.0 c.loop-number.invariant.1 c.below_head.ensures m word (sym (ap (λ xs. slice_get xs m) pushed) ∙ there),
    )

pub returns-clause-each : goal.returns-clause-each
returns-clause-each c m k below =
    let words = c.loop-number.below.items in
    c.loop-number.invariant.1 m (get_or words m 0) (slice_get-get_or words m 0 (omega (arith, below, c.loop-number.invariant.0, c.loop-number-test.false))) k
