use Rattle.std.proofs.Common.{◌≡◌, ℕ, ◌+◌, ◌-◌, ◌^◌, ◌<◌, ◌&&◌, ◌||◌, ◌∙◌, Bool, ap, arith, length}
use Rattle.std.specs.Prelude.{bit_and}
use Rattle.std.specs.Int.{w64, trailing_zeros}
use Rattle.std.proofs.lemmas.Nat.{and_le_r}
use Rattle.petri_atom.specs.Local.{has}
use Rattle.petri_atom.specs.Groups.{can_move_number}
use Rattle.petri_atom.proofs.Drawn.{lets-move}
use Rattle.petri_atom.proofs.Members.{there}
use Rattle.petri_atom.proofs.Grouping.{passing-more, passing-fewer, passing-all, rest-left}
use Rattle.petri_atom.proofs.moving.moving_from.Goals as goal
use Rattle.petri_atom.proofs.moving.moving_from.Goals.{then-can_move, else-can_move}

pub bounds-arcs-first : goal.bounds-arcs-first
bounds-arcs-first c =
    let left = c.loop-left.left in
    let some : 0 < left = omega (arith, c.loop-left-test.true) in
    let small : left < 2 ^ 64 = omega arith in
    let lowest = trailing_zeros w64 left in
    c.requires.there lowest (c.loop-left.invariant.1 lowest (there w64 left some small))

pub loop-left-preserved : goal.loop-left-preserved
loop-left-preserved c =
    let left = c.loop-left.left in
    let done = c.loop-left.moving in
    let set = c.args.set in
    let arcs = c.args.arcs.now in
    let some : 0 < left = omega (arith, c.loop-left-test.true) in
    let small : left < 2 ^ 64 = omega arith in
    let lowest = trailing_zeros w64 left in
    let within : c.args.first + lowest < length arcs = c.requires.there lowest (c.loop-left.invariant.1 lowest (there w64 left some small)) in (
      λ ts drawn.
          let moves : ℕ → Bool = λ n. can_move_number ts c.args.marking (c.args.first + n) in
          let so_far = c.loop-left.invariant.0 ts drawn in
          let judged : moves lowest ≡ c.can_move.result =
          lets-move arcs ts (c.args.first + lowest) c.index-arcs-first.result c.args.marking c.can_move.result drawn within c.index-arcs-first.is c.can_move.ensures in
          elim c.if-can_move.branch [
            | then-can_move w ↦ λ n. ap (λ x. has x n || has (bit_and left (left - 1)) n && moves n) w.moving-is ∙ passing-more w64 moves set done left some small so_far (judged ∙ w.if-can_move.true) n
            | else-can_move w ↦ λ n. ap (λ x. has x n || has (bit_and left (left - 1)) n && moves n) w.moving-is ∙ passing-fewer w64 moves set done left some small so_far (judged ∙ w.if-can_move.false) n
          ],
      λ n inside. c.loop-left.invariant.1 n (rest-left w64 left some small n inside),
    )

pub loop-left-smaller : goal.loop-left-smaller
loop-left-smaller c =
    let left = c.loop-left.left in
    let some : 0 < left = omega (arith, c.loop-left-test.true) in
    omega (arith, some, and_le_r left (left - 1))

pub returns : goal.returns
returns c ts drawn =
    passing-all 64 (λ n. can_move_number ts c.args.marking (c.args.first + n)) c.args.set c.loop-left.moving c.loop-left.left (omega (arith, c.loop-left-test.false)) (omega arith) (c.loop-left.invariant.0 ts drawn)
