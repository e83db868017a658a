use Rattle.std.proofs.Common.{◌+◌, ◌∙◌, ℕ, [], ◌∷◌, ap, sym, length}
use Rattle.std.specs.Prelude.{slice_get}
use Rattle.std.proofs.lemmas.List.{length-append}
use Rattle.priority_filter.specs.Active.{unconditional}
use Rattle.priority_filter.specs.Decided.{is_below}
use Rattle.plant_model.specs.Ranks.{IsShared, is_own}
use Rattle.plant_model.specs.declared.ranks.Shared.{Shared}
use Rattle.plant_model.proofs.Pushed.{each-pushed}
use Rattle.plant_model.proofs.ranks.all_shared.Goals as goal

pub loop-connector-preserved : goal.loop-connector-preserved
loop-connector-preserved c =
    let so_far = c.loop-connector.all.items in
    let made = c.shared_of.result in
    let pushed = c.in_ok-push.ensures.items in
    let Right : ℕ → Shared → Type 0 = IsShared (is_below (unconditional c.args.order.now.rules) c.args.order.now.interactions) (is_own c.args.rows.now) in (
      ap length pushed ∙ length-append so_far (made ∷ []) ∙ ap (λ n. n + 1) c.loop-connector.invariant.0,
      λ k s there. each-pushed Right so_far made c.loop-connector.connector c.loop-connector.invariant.0 c.loop-connector.invariant.1 c.shared_of.ensures k s (sym (ap (λ xs. slice_get xs k) pushed) ∙ there),
    )
