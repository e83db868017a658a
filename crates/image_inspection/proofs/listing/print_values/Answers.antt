use Rattle.std.proofs.Common.{◌<◌, ℤ, ap, arith, rules, subst, length, get_or, pos, w64, SFits}
use Rattle.std.specs.Prelude.{flat_map}
use Rattle.std.specs.Io.KnownBytes.{Appends}
use Rattle.std.proofs.lemmas.Int.{to_z-of_z}
use Rattle.std.proofs.lemmas.List.{drop_more}
use Rattle.text_io.proofs.Leading.{leads-more, leads-same}
use Rattle.image_inspection.specs.Listing.{value_word}
use Rattle.image_inspection.proofs.listing.print_values.Goals as goal

pub loop-value-preserved : goal.loop-value-preserved
loop-value-preserved g c =
    let values = c.args.values.now in
    let i = c.loop-value.value-index in
    let within : i < length values = omega arith in
    let value : ℤ = get_or values i (pos 0) in
    let fits : SFits w64 value = search rules in
    let before = g.W.Write.contents c.loop-value.output in
    let after = g.W.Write.contents c.print_value.new.output in
    let piece : Appends before after (value_word value) = subst (λ (z : ℤ). Appends before after (value_word z)) (to_z-of_z w64 value fits) c.in_ok-print_value.ensures in
    leads-more _ _ _ _ _ _ (leads-same c.loop-value.invariant (ap (flat_map value_word) (drop_more values i (pos 0) within))) piece
