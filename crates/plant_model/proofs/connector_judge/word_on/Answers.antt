use Rattle.std.proofs.Common.{◌<◌, ◌^◌, ◌%◌, ◌∙◌, ⊎_elim, ap, sym, arith, w64}
use Rattle.std.specs.Int.{trailing_zeros}
use Rattle.std.proofs.lemmas.Bool.{cases_eq, or_from, or_left, or_right}
use Rattle.petri_atom.proofs.Sets.{has-or}
use Rattle.priority_filter.specs.Members.{has_bit}
use Rattle.plant_model.specs.ConnectorRows.{is_in_row}
use Rattle.plant_model.proofs.Pushed.{at-row}
use Rattle.plant_model.proofs.WithoutLowest.{fewer-less}
use Rattle.plant_model.proofs.BitsLeft.{lowest-set, fewer-in, fewer-out}
use Rattle.plant_model.proofs.connector_judge.word_on.Goals as goal

pub bounds-on_leaf-leaf : goal.bounds-on_leaf-leaf
bounds-on_leaf-leaf c =
    let left = c.loop-left.left in
    c.requires.off (trailing_zeros w64 left) (c.loop-left.invariant.0 (trailing_zeros w64 left) (lowest-set left (omega (arith, c.loop-left-test.true)) (omega arith)))

pub loop-left-smaller : goal.loop-left-smaller
loop-left-smaller c = fewer-less w64 c.loop-left.left (omega (arith, c.loop-left-test.true)) (omega arith)

pub loop-left-preserved : goal.loop-left-preserved
loop-left-preserved c =
    let rows = c.args.on_leaf.now in
    let left = c.loop-left.left in
    let word = c.loop-left.word in
    let more = c.word-word.result in
    let row = c.index-on_leaf-leaf.result in
    let before = c.loop-left.invariant in
    let some : 0 < left = omega (arith, c.loop-left-test.true) in
    let small : left < 2 ^ 64 = omega arith in
    let low = trailing_zeros w64 left in
    let set = before.0 low (lowest-set left some small) in
    let its = at-row rows low row (c.requires.off low set) c.index-on_leaf-leaf.is in (
      λ j inside. before.0 j (fewer-in left some small j inside),
      λ n j at is out inside.
          has-or word more (n % 64) ∙
          ⊎_elim
          (λ same. or_right (has_bit word (n % 64)) (has_bit more (n % 64)) (c.word-word.ensures n at ∙ sym (its n) ∙ ap (is_in_row rows n) (sym same) ∙ inside))
          (λ other. or_left (has_bit word (n % 64)) (has_bit more (n % 64)) (before.1 n j at is (fewer-out left some small j other out) inside))
          (cases_eq j low),
      λ n at none.
          has-or word more (n % 64) ∙
          or_from (has_bit word (n % 64)) (has_bit more (n % 64)) (before.2 n at none) (c.word-word.ensures n at ∙ sym (its n) ∙ none low set),
    )
