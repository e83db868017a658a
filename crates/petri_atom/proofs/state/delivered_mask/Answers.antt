use Rattle.std.proofs.Common.{◌≡◌, ◌*◌, ◌%◌, ◌^◌, ◌<◌, ◌∙◌, ap, sym, arith}
use Rattle.std.specs.Prelude.{None, is_some, bit_or, slice_index_or}
use Rattle.std.specs.Int.{w8}
use Rattle.petri_atom.proofs.Sets.{set_below-zero, set_below-next}
use Rattle.petri_atom.proofs.state.delivered_mask.Goals as goal

pub loop-number-init : goal.loop-number-init
loop-number-init c = set_below-zero (λ j. is_some (slice_index_or c.args.values.now j None))

pub loop-number-preserved : goal.loop-number-preserved
loop-number-preserved c =
    let values = c.args.values.now in
    let n = c.loop-number.number in
    let within : n < 8 = omega (arith, c.loop-number-test.true) in
    let there : is_some (slice_index_or values n None) ≡ c.is_some.result = sym c.is_some.ensures in
    ap (λ x. bit_or c.loop-number.mask (x * 2 ^ n % 2 ^ 8)) c.from.ensures ∙
    set_below-next w8 n c.loop-number.mask (λ j. is_some (slice_index_or values j None)) c.is_some.result within c.loop-number.invariant there
