use Rattle.std.proofs.Common.{◌≡◌, ◌++◌, ◌∷◌, [], ◌∙◌, List, ℕ, Option, ap, arith, get_or, length, map, replicate, set}
use Rattle.std.proofs.lemmas.List.{get_or_at, map-append, set_at}
use Rattle.record_codec.specs.Bytes.{zeros}
use Rattle.record_codec.specs.Fired.{FiredFields, fired_in}
use Rattle.record_codec.specs.declared.layout.TheConstants.{BODY}
use Rattle.record_replay.proofs.records.push_record.Goals as goal

pub spell_over-requires-clause-clear : goal.spell_over-requires-clause-clear
unfolding zeros
spell_over-requires-clause-clear c =
    let old = c.args.bodies.now.items in
    let place = c.len-place.result in
    let here = c.index_mut.result.now in
    let size : length old ≡ place = omega arith in
    c.index_mut.ensures.value ∙ ap (λ (bodies : List (List ℕ)). get_or bodies place here) c.push_reserved.ensures.items ∙ get_or_at old (replicate BODY 0) [] here place size

pub returns-clause-held : goal.returns-clause-held
returns-clause-held c =
    let old = c.args.bodies.now.items in
    let place = c.len-place.result in
    let body = c.spell_over.new.body in
    let size : length old ≡ place = omega arith in
    ap (λ (bodies : List (List ℕ)). map fired_in (set bodies place body)) c.push_reserved.ensures.items
    ∙ ap (map fired_in) (set_at old (replicate BODY 0) [] body place size)
    ∙ map-append fired_in old (body ∷ [])
    ∙ ap (λ (held : Option FiredFields). map fired_in old ++ held ∷ []) c.spell_over.ensures
