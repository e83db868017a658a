use Rattle.std.proofs.Common.{◌≡◌, refl, ◌∙◌, ap, suc, ◌+◌, ◌++◌, map, take, drop, length, slice_index_or, slice_set, arith}
use Rattle.std.proofs.Math.Seq.{take-length}
use Rattle.plant_model.specs.declared.choice.Move.{Move}
use Rattle.kilnmace_c.specs.Looks.{participant_of}
use Rattle.kilnmace_c.proofs.Copies.{set_next}
use Rattle.kilnmace_c.proofs.looks.copy_moves.Goals as goal

pub loop-place-init : goal.loop-place-init
loop-place-init c = refl

pub loop-place-preserved : goal.loop-place-preserved
loop-place-preserved c =
    let n = c.loop-place.place in
    let next : suc n ≡ n + 1 = omega arith in
    let found = c.args.found.now in
    let none : Move = record { atom = 0; transition = 0 } in
    ap (λ ms. slice_set ms n (participant_of (slice_index_or found n none))) c.loop-place.invariant
    ∙ set_next participant_of found c.args.moves.now n none c.loop-place-test.true c.requires
    ∙ ap (λ k. map participant_of (take k found) ++ drop k c.args.moves.now) next

pub returns : goal.returns
returns c =
    let found = c.args.found.now in
    c.loop-place.invariant
    ∙ ap (λ k. map participant_of (take k found) ++ drop k c.args.moves.now) (omega (arith, c.loop-place-test.false, c.loop-place.auto.place-end))
    ∙ ap (λ ms. map participant_of ms ++ drop (length found) c.args.moves.now) (take-length found)
