use Rattle.std.proofs.Common.{◌≡◌, ◌++◌, ◌∷◌, [], ◌∙◌, List, ap, arith, get_or, length, map, set}
use Rattle.std.proofs.lemmas.List.{get_or_at, set_at}
use Rattle.trimmer.specs.Covered.{MarkFields}
use Rattle.plant_core.specs.Marks.{participation_in}
use Rattle.plant_core.proofs.marks.push_mark.Goals as goal

pub add_participants-requires-clause-nobody : goal.add_participants-requires-clause-nobody
add_participants-requires-clause-nobody g c =
    let old = c.args.marks.now.items in
    let last = c.len-last.result in
    let here = c.index_mut.result.now in
    let size : length old ≡ last = omega arith in
    let fresh : here ≡ record { number = c.args.number; participations = [] } =
    c.index_mut.ensures.value ∙ ap (λ (marks : List MarkFields). get_or marks last here) c.push_reserved.ensures.items ∙ get_or_at old c.new.result [] here last size ∙ c.new.ensures in
    ap (λ (m : MarkFields). m.participations) fresh

pub returns-clause-marks : goal.returns-clause-marks
returns-clause-marks g c =
    let old = c.args.marks.now.items in
    let last = c.len-last.result in
    let here = c.index_mut.result.now in
    let size : length old ≡ last = omega arith in
    let fresh : here ≡ record { number = c.args.number; participations = [] } =
    c.index_mut.ensures.value ∙ ap (λ (marks : List MarkFields). get_or marks last here) c.push_reserved.ensures.items ∙ get_or_at old c.new.result [] here last size ∙ c.new.ensures in
    ap (λ (marks : List MarkFields). set marks last c.add_participants.new.mark) c.push_reserved.ensures.items
    ∙ set_at old c.new.result [] c.add_participants.new.mark last size
    ∙ ap (λ (m : MarkFields). old ++ m ∷ []) (c.add_participants.ensures ∙ ap (λ (m : MarkFields). record m { participations = map participation_in (g.E.EntrySource.entries c.args.entries.now) }) fresh)
