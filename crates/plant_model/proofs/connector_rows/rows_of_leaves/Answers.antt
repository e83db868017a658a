use Rattle.std.proofs.Common.{ℕ, ◌+◌, ◌<◌, ◌^◌, ◌∙◌, ◌&&◌, Bool, ap, map, length, arith, [], ◌∷◌}
use Rattle.std.proofs.lemmas.List.{length-append}
use Rattle.std.proofs.lemmas.Nat.{one_shl}
use Rattle.plant_model.specs.ConnectorRows.{has_all_at, is_from, is_in_row}
use Rattle.plant_model.specs.Interaction.{interaction_of}
use Rattle.plant_model.proofs.Pushed.{rows-pushed}
use Rattle.plant_model.proofs.connector_rows.rows_of_leaves.Goals as goal

pub loop-leaf-preserved : goal.loop-leaf-preserved
loop-leaf-preserved c =
    let rows = c.loop-leaf.rows.items in
    let row = c.row_with_all.result in
    let leaf = c.loop-leaf.leaf in
    let all = map interaction_of c.args.interactions.now in
    let want : ℕ → ℕ → Bool = λ j n. is_from c.args.first c.args.end n && has_all_at all (2 ^ j) n in
    let small : leaf < 32 = omega (arith, c.loop-leaf-test.true, c.requires.leaves) in (
      ap length c.in_ok-push.ensures.items ∙ length-append rows (row ∷ []) ∙ ap (λ n. n + 1) c.loop-leaf.invariant.0,
      λ j n below. ap (λ rs. is_in_row rs n j) c.in_ok-push.ensures.items ∙
          rows-pushed rows row leaf want c.loop-leaf.invariant.0 c.loop-leaf.invariant.1
          (λ m. c.row_with_all.ensures m ∙ ap (λ s. is_from c.args.first c.args.end m && has_all_at all s m) (one_shl leaf 32 small)) j n below,
    )
