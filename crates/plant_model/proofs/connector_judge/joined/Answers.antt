use Rattle.std.proofs.Common.{◌<◌, ◌^◌, ◌∙◌, ⊎_elim, ap, sym, arith, w64}
use Rattle.std.specs.Int.{trailing_zeros}
use Rattle.std.specs.Prelude.{slice_index}
use Rattle.std.proofs.lemmas.Bool.{cases_eq, or_from, or_left, or_right}
use Rattle.petri_atom.proofs.Sets.{has-or}
use Rattle.priority_filter.specs.Members.{has_bit}
use Rattle.plant_model.proofs.WithoutLowest.{fewer-less}
use Rattle.plant_model.proofs.BitsLeft.{lowest-set, fewer-in, fewer-out}
use Rattle.plant_model.proofs.connector_judge.joined.Goals as goal

pub bounds-on_leaf-leaf : goal.bounds-on_leaf-leaf
bounds-on_leaf-leaf c =
    let left = c.loop-left.left in
    c.requires (trailing_zeros w64 left) (c.loop-left.invariant.0 (trailing_zeros w64 left) (lowest-set left (omega (arith, c.loop-left-test.true)) (omega arith)))

pub loop-left-smaller : goal.loop-left-smaller
loop-left-smaller c = fewer-less w64 c.loop-left.left (omega (arith, c.loop-left-test.true)) (omega arith)

pub loop-left-preserved : goal.loop-left-preserved
loop-left-preserved c =
    let words = c.args.on_leaf.now in
    let left = c.loop-left.left in
    let word = c.loop-left.word in
    let before = c.loop-left.invariant in
    let some : 0 < left = omega (arith, c.loop-left-test.true) in
    let small : left < 2 ^ 64 = omega arith in
    let low = trailing_zeros w64 left in
    let more = slice_index words low in
    let set = before.0 low (lowest-set left some small) in (
      λ j inside. before.0 j (fewer-in left some small j inside),
      λ k j is out inside.
          has-or word more k ∙
          ⊎_elim
          (λ same. or_right (has_bit word k) (has_bit more k) (ap (λ i. has_bit (slice_index words i) k) (sym same) ∙ inside))
          (λ other. or_left (has_bit word k) (has_bit more k) (before.1 k j is (fewer-out left some small j other out) inside))
          (cases_eq j low),
      λ k none. has-or word more k ∙ or_from (has_bit word k) (has_bit more k) (before.2 k none) (none low set),
    )
