use Rattle.std.proofs.Common.{◌≡◌, ◌+◌, ◌<◌, ◌++◌, ◌∷◌, [], List, ◌∙◌, sym, ap, arith, length, get_or, map, take}
use Rattle.std.proofs.lemmas.List.{map_push, take_more}
use Rattle.std.proofs.lemmas.Option.{get_or_from_slice_get}
use Rattle.record_codec.specs.declared.entry.Entry.{Entry}
use Rattle.trimmer.specs.Covered.{MarkFields}
use Rattle.trimmer.specs.declared.mark.Participation.{Participation}
use Rattle.plant_core.specs.Marks.{participation_in}
use Rattle.plant_core.proofs.marks.add_participants.Goals as goal

pub loop-place-preserved : goal.loop-place-preserved
loop-place-preserved g c =
    let all = g.E.EntrySource.entries c.args.entries.now in
    let i = c.loop-place.place in
    let within : i < length all = omega (arith, c.loop-place-test.true, c.count-place-end.ensures) in
    let is : get_or all i c.entry.result ≡ c.entry.result = get_or_from_slice_get all i c.entry.result c.entry.result c.entry.ensures in
    let added : map participation_in (take i all) ++ c.participation_in.result ∷ [] ≡ map participation_in (take (i + 1) all) =
    ap (λ (p : Participation). map participation_in (take i all) ++ p ∷ []) c.participation_in.ensures ∙
    sym (map_push participation_in (take i all) c.entry.result) ∙
    ap (λ (e : Entry). map participation_in (take i all ++ e ∷ [])) (sym is) ∙
    sym (ap (map participation_in) (take_more all i c.entry.result within)) in
    c.push.ensures ∙
    ap (λ (m : MarkFields). record { number = m.number; participations = m.participations ++ c.participation_in.result ∷ [] }) c.loop-place.invariant ∙
    ap (λ (ps : List Participation). record c.args.mark.now { participations = ps }) added
