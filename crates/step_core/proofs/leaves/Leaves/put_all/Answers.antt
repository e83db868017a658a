use Rattle.std.proofs.Common.{◌≡◌, ◌∙◌, ap, refl, get_or, cond, arith}
use Rattle.std.specs.Prelude.{Some, slice_get}
use Rattle.std.proofs.lemmas.List.{take_all}
use Rattle.std.proofs.lemmas.Option.{slice_get-get_or}
use Rattle.connector_tree.specs.Masks.{is_set}
use Rattle.plant_model.specs.declared.usual.Put.{Put}
use Rattle.step_core.specs.Puts.{is_put}
use Rattle.step_core.proofs.Putting.{one-put, put-in-words}
use Rattle.step_core.proofs.leaves.Leaves.put_all.Goals as goal

pub loop-put-preserved : goal.loop-put-preserved
loop-put-preserved c =
    let puts = c.args.puts.now in
    let i = c.loop-put.put-index in
    let none : Put = record { connector = 0; mask = 0; off = 0; many = 0 } in
    let p = get_or puts i none in
    let there : slice_get puts i ≡ Some p = slice_get-get_or puts i none c.loop-put-test.true in
    let n = c.from-index.result in
    let off = c.loop-put.self.off in
    let many = c.loop-put.self.many in
    let low = c.requires i p there in
    record {
      off = λ right all k leaf.
          one-put puts i p there right (λ j b. is_set (get_or c.args.self.now.off j 0) b) (λ j b. is_set (get_or off j 0) b) _ (c.loop-put.invariant.off right all)
          (put-in-words off n p p.off (get_or off n 0) right (omega (arith, low, c.from-index.ensures)) c.from-index.ensures refl (omega arith) (omega arith) (all i p there)) k leaf;
      many = λ right all k leaf.
          one-put puts i p there right (λ j b. is_set (get_or c.args.self.now.many j 0) b) (λ j b. is_set (get_or many j 0) b) _ (c.loop-put.invariant.many right all)
          (put-in-words many n p p.many (get_or many n 0) right (omega (arith, low, c.from-index.ensures)) c.from-index.ensures refl (omega arith) (omega arith) (all i p there)) k leaf;
    }

pub returns-clause-off : goal.returns-clause-off
returns-clause-off c right all k leaf =
    c.loop-put.invariant.off right all k leaf ∙
    ap (λ ps. cond (is_put ps k leaf) (right k leaf) (is_set (get_or c.args.self.now.off k 0) leaf)) (take_all c.loop-put.put-index c.args.puts.now c.loop-put-test.false)

pub returns-clause-many : goal.returns-clause-many
returns-clause-many c right all k leaf =
    c.loop-put.invariant.many right all k leaf ∙
    ap (λ ps. cond (is_put ps k leaf) (right k leaf) (is_set (get_or c.args.self.now.many k 0) leaf)) (take_all c.loop-put.put-index c.args.puts.now c.loop-put-test.false)
