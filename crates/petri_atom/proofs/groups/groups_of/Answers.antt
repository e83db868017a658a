use Rattle.std.proofs.Common.{◌≡◌, ◌&&◌, ◌∙◌, refl, ap, arith, length, ltb}
use Rattle.std.proofs.lemmas.Option.{slice_get_read}
use Rattle.petri_atom.specs.Groups.{is_movable}
use Rattle.petri_atom.proofs.Grouping.{suits_number, grouped-more, grouped-all}
use Rattle.petri_atom.proofs.groups.groups_of.Goals as goal

pub loop-number-preserved : goal.loop-number-preserved
loop-number-preserved c =
    let transitions = c.args.transitions.now in
    let i = c.loop-number.number in
    let transition = c.index-transitions-number.result in
    λ m n. c.in_ok-join.ensures.joined m n ∙ grouped-more transitions i m n transition (is_movable c.loop-number.groups.items m n) (slice_get_read transitions (length transitions) i transition refl c.loop-number-test.true c.index-transitions-number.is) (c.loop-number.invariant m n)

pub returns : goal.returns
returns c =
    let transitions = c.args.transitions.now in
    let i = c.loop-number.number in
    let all : i ≡ length transitions = omega (arith, c.loop-number-test.false, c.loop-number.auto.number-end) in
    grouped-all c.loop-number.groups.items transitions
    (λ m n. c.loop-number.invariant m n ∙ ap (λ k. ltb n k && suits_number transitions m n) all)
