use Rattle.std.proofs.Common.{◌∙◌, refl, sym, ap, arith, get_or}
use Rattle.std.proofs.lemmas.Nat.{pow_pos}
use Rattle.petri_atom.specs.Local.{has}
use Rattle.petri_atom.specs.declared.groups.Group.{Group}
use Rattle.petri_atom.proofs.Sets.{has-above}
use Rattle.petri_atom.proofs.Grouping.{movable-more, movable-passed, movable-all}
use Rattle.petri_atom.proofs.groups.movable.Goals as goal
use Rattle.petri_atom.proofs.groups.movable.Goals.{then-lets_move, else-lets_move}

-- a group that asks nothing and has no members
abbrev none : Group
none = record { sources = 0; blocking = 0; members = 0 }

pub loop-group-init : goal.loop-group-init
loop-group-init c = λ n. has-above 0 0 n (pow_pos 0) (omega arith)

pub loop-group-preserved : goal.loop-group-preserved
loop-group-preserved c =
    let groups = c.args.groups.now in
    let i = c.loop-group.group-index in
    elim c.if-lets_move.branch [
      | then-lets_move w ↦ λ n. ap (λ x. has x n) w.set-is ∙ movable-more groups i c.loop-group.set c.args.marking (get_or groups i none) none c.loop-group-test.true refl (sym c.lets_move.ensures ∙ w.if-lets_move.true) c.loop-group.invariant n
      | else-lets_move w ↦ λ n. ap (λ x. has x n) w.set-is ∙ movable-passed groups i c.loop-group.set c.args.marking (get_or groups i none) none c.loop-group-test.true refl (sym c.lets_move.ensures ∙ w.if-lets_move.false) c.loop-group.invariant n
    ]

pub returns : goal.returns
returns c =
    movable-all c.args.groups.now c.loop-group.group-index c.loop-group.set c.args.marking c.loop-group-test.false (omega arith) c.loop-group.invariant
