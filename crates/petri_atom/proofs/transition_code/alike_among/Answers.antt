use Rattle.std.proofs.Common.{◌≡◌, ◌*◌, ◌%◌, ◌^◌, ◌<◌, ◌∙◌, refl, ap, sym, length, arith, map}
use Rattle.std.specs.Prelude.{bit_or}
use Rattle.std.specs.Int.{w128}
use Rattle.std.proofs.lemmas.Option.{slice_get_read}
use Rattle.petri_atom.specs.Expression.{bare, is_same_tree, tree_of}
use Rattle.petri_atom.specs.Groups.{has_bare_guard}
use Rattle.petri_atom.specs.Transition.{transition_of}
use Rattle.petri_atom.proofs.Grouping.{test_at}
use Rattle.petri_atom.proofs.Sets.{set_below-zero, set_below-next}
use Rattle.petri_atom.proofs.transition_code.alike_among.Goals as goal

pub loop-number-init : goal.loop-number-init
loop-number-init c = set_below-zero (has_bare_guard (tree_of c.args.guard.now) (map transition_of c.args.transitions.now))

pub loop-number-preserved : goal.loop-number-preserved
loop-number-preserved c =
    let transitions = c.args.transitions.now in
    let guard = tree_of c.args.guard.now in
    let n = c.loop-number.number in
    let test = has_bare_guard guard (map transition_of transitions) in
    let transition = c.index-transitions-number.result in
    let within : n < 128 = omega arith in
    let alike : test n ≡ c.same.result =
    test_at (λ t. is_same_tree (bare guard) (bare t.guard)) transitions n transition (slice_get_read transitions (length transitions) n transition refl c.loop-number-test.true c.index-transitions-number.is) ∙
    sym (c.same.ensures ∙ ap (λ e. is_same_tree e (tree_of c.bare.result.now)) c.bare-bare.ensures ∙ ap (is_same_tree (bare guard)) (c.bare.ensures ∙ ap bare c.guard.ensures)) in
    ap (λ x. bit_or c.loop-number.alike (x * 2 ^ n % 2 ^ 128)) c.from.ensures ∙
    set_below-next w128 n c.loop-number.alike test c.same.result within c.loop-number.invariant alike
