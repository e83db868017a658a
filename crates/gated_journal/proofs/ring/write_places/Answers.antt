use Rattle.std.proofs.Common.{◌<◌, ◌+◌, ◌∷◌, [], ◌++◌, length, map, refl, sym, ◌∙◌, ap, arith}
use Rattle.std.proofs.lemmas.List.{take_more_set}
use Rattle.std.proofs.lemmas.List.FromFn.{map-range_with_len_more}
use Rattle.gated_journal.specs.Live.{place}
use Rattle.gated_journal.proofs.ring.write_places.Goals as goal

pub loop-i-preserved : goal.loop-i-preserved
loop-i-preserved c =
    let within : c.loop-i.i < length c.loop-i.places = omega arith in
    take_more_set c.loop-i.places c.loop-i.i c.place.result within
    ∙ ap (λ xs. xs ++ c.place.result ∷ []) c.loop-i.invariant
    ∙ ap (λ x. map (place c.args.ring) (Rattle.std.specs.List.range_with_len c.args.first c.loop-i.i) ++ x ∷ []) c.place.ensures
    ∙ sym (map-range_with_len_more (place c.args.ring) c.args.first c.loop-i.i (c.args.first + c.loop-i.i) refl)
