use Rattle.std.proofs.Common.{◌<◌, ◌^◌, ◌∙◌, sym, ap, arith, get_or}
use Rattle.std.proofs.lemmas.List.{take_more}
use Rattle.petri_atom.specs.Local.{is_in, set_below}
use Rattle.petri_atom.proofs.Markings.{place_at}
use Rattle.petri_atom.proofs.Sets.{set_below-none, set_below-more}
use Rattle.petri_atom.proofs.marking.word_of.Goals as goal

pub loop-place-init : goal.loop-place-init
loop-place-init c = set_below-none 64

pub loop-place-preserved : goal.loop-place-preserved
loop-place-preserved c =
    let places = c.args.places.now in
    let i = c.loop-place.place-index in
    let small : c.loop-place.word < 2 ^ 64 = omega arith in
    set_below-more _ _ (get_or places i 0) small (place_at places i c.requires c.loop-place-test.true) c.loop-place.invariant ∙
    ap (λ ks. set_below 64 (is_in ks)) (sym (take_more places i 0 c.loop-place-test.true))
