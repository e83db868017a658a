use Rattle.std.proofs.Common.{◌≡◌, ◌*◌, ◌%◌, ◌^◌, ◌<◌, ◌∙◌, refl, ap, sym, length, arith, map}
use Rattle.std.specs.Prelude.{bit_or}
use Rattle.std.specs.Int.{w128}
use Rattle.std.proofs.lemmas.Option.{slice_get_read}
use Rattle.petri_atom.specs.Expression.{is_turned}
use Rattle.petri_atom.specs.Groups.{is_turned_number}
use Rattle.petri_atom.specs.Transition.{transition_of}
use Rattle.petri_atom.proofs.Grouping.{test_at}
use Rattle.petri_atom.proofs.Sets.{set_below-zero, set_below-next}
use Rattle.petri_atom.proofs.atom.mask_of_turned.Goals as goal

pub loop-number-init : goal.loop-number-init
loop-number-init c = set_below-zero (is_turned_number (map transition_of c.args.transitions.now))

pub loop-number-preserved : goal.loop-number-preserved
loop-number-preserved c =
    let transitions = c.args.transitions.now in
    let n = c.loop-number.number in
    let test = is_turned_number (map transition_of transitions) in
    let transition = c.index-transitions-number.result in
    let within : n < 128 = omega arith in
    let turned : test n ≡ c.is_turned.result =
    test_at (λ t. is_turned t.guard) transitions n transition (slice_get_read transitions (length transitions) n transition refl c.loop-number-test.true c.index-transitions-number.is) ∙
    sym (c.is_turned.ensures ∙ ap is_turned c.guard.ensures) in
    ap (λ x. bit_or c.loop-number.mask (x * 2 ^ n % 2 ^ 128)) c.from.ensures ∙
    set_below-next w128 n c.loop-number.mask test c.is_turned.result within c.loop-number.invariant turned
