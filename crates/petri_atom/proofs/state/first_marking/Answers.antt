use Rattle.std.proofs.Common.{◌*◌, ◌%◌, ◌^◌, ◌<◌, ◌∙◌, refl, ap, length, arith, false}
use Rattle.std.specs.Prelude.{bit_or}
use Rattle.std.specs.Int.{w64}
use Rattle.std.specs.Option.{option_map_or}
use Rattle.std.proofs.lemmas.Option.{slice_get_read}
use Rattle.petri_atom.specs.Definition.{is_marked_first}
use Rattle.petri_atom.proofs.Sets.{set_below-zero, set_below-next}
use Rattle.petri_atom.proofs.state.first_marking.Goals as goal

pub loop-number-init : goal.loop-number-init
loop-number-init c = set_below-zero (is_marked_first c.args.places.now)

pub loop-number-preserved : goal.loop-number-preserved
loop-number-preserved c =
    let places = c.args.places.now in
    let n = c.loop-number.number in
    let place = c.index-places-number.result in
    let within : n < 64 = omega arith in
    let marked = ap (λ o. option_map_or (λ p. p.marked) o false) (slice_get_read places (length places) n place refl c.loop-number-test.true c.index-places-number.is) in
    ap (λ x. bit_or c.loop-number.word (x * 2 ^ n % 2 ^ 64)) c.from.ensures ∙
    set_below-next w64 n c.loop-number.word (is_marked_first places) place.marked within c.loop-number.invariant marked
