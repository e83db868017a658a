use Rattle.std.proofs.Common.{◌≡◌, ◌*◌, ◌%◌, ◌^◌, ◌<◌, ◌∙◌, refl, ap, sym, eqb, length, arith, false, map}
use Rattle.std.specs.Prelude.{bit_or}
use Rattle.std.specs.Int.{w128}
use Rattle.std.specs.Option.{option_map, option_map_or}
use Rattle.std.proofs.lemmas.Option.{slice_get-map, slice_get_read}
use Rattle.petri_atom.specs.Parts.{is_of_port}
use Rattle.petri_atom.specs.Transition.{transition_of}
use Rattle.petri_atom.proofs.Sets.{set_below-zero, set_below-next}
use Rattle.petri_atom.proofs.atom.mask_of_port.Goals as goal

pub loop-number-init : goal.loop-number-init
loop-number-init c = set_below-zero (is_of_port c.args.port (map transition_of c.args.transitions.now))

pub loop-number-preserved : goal.loop-number-preserved
loop-number-preserved c =
    let transitions = c.args.transitions.now in
    let n = c.loop-number.number in
    let test = is_of_port c.args.port (map transition_of transitions) in
    let transition = c.index-transitions-number.result in
    let within : n < 128 = omega arith in
    let of_port : test n ≡ eqb c.port.result c.args.port =
    ap (λ o. option_map_or (λ t. eqb t.port c.args.port) o false) (slice_get-map transition_of transitions n ∙ ap (option_map transition_of) (slice_get_read transitions (length transitions) n transition refl c.loop-number-test.true c.index-transitions-number.is)) ∙
    sym (ap (λ p. eqb p c.args.port) c.port.ensures) in
    ap (λ x. bit_or c.loop-number.mask (x * 2 ^ n % 2 ^ 128)) c.from.ensures ∙
    set_below-next w128 n c.loop-number.mask test (eqb c.port.result c.args.port) within c.loop-number.invariant of_port
