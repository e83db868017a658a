use Rattle.std.proofs.Common.{rules, ◌∙◌, arith, sym}
use Rattle.std.proofs.lemmas.List.Sorted.{answers_always}
use Rattle.plant_model.specs.System.{plant_of}
use Rattle.plant_model.specs.declared.interaction.Interaction.{Interaction}
use Rattle.record_replay.proofs.NamedInteractions.{range-of, search-fails, search-finds}
use Rattle.record_replay.proofs.finding.find_interaction.Goals as goal

pub slice_bounds-own-end : goal.slice_bounds-own-end
slice_bounds-own-end c =
    (range-of c.args.system.now c.args.connector c.requires c.from.result c.index-rows.result.now c.from.ensures c.index-rows.ensures c.deref.result.now c.from-first.result c.from-2.result c.deref.ensures.value c.from-first.ensures c.from-2.ensures).inside

pub returns-in_err-place : goal.returns-in_err-place
returns-in_err-place c =
    let range =
    range-of c.args.system.now c.args.connector c.requires c.from.result c.index-rows.result.now c.from.ensures c.index-rows.ensures c.deref.result.now c.from-first.result c.from-2.result c.deref.ensures.value c.from-first.ensures c.from-2.ensures in
    let by_mask = c.binary_search_by_key.ensures.position (λ (i : Interaction). i.mask) (answers_always _ _ _ (λ f a r g called. search rules)) in
    rw c.from_residual.ensures
    (search-fails (plant_of c.args.system.now) c.args.connector c.deref.result.now c.from-first.result c.from-2.result range c.args.mask c.binary_search_by_key.result c.binary_search_by_key.ensures.bound by_mask (sym c.ok.ensures.value ∙ c.in_err-place.was))

pub returns : goal.returns
returns c =
    let range =
    range-of c.args.system.now c.args.connector c.requires c.from.result c.index-rows.result.now c.from.ensures c.index-rows.ensures c.deref.result.now c.from-first.result c.from-2.result c.deref.ensures.value c.from-first.ensures c.from-2.ensures in
    let by_mask = c.binary_search_by_key.ensures.position (λ (i : Interaction). i.mask) (answers_always _ _ _ (λ f a r g called. search rules)) in
    search-finds (plant_of c.args.system.now) c.args.connector c.deref.result.now c.from-first.result c.from-2.result range c.args.mask c.binary_search_by_key.result c.binary_search_by_key.ensures.bound by_mask
    c.in_ok-place.place c.index-own-place.result (sym c.ok.ensures.value ∙ c.in_ok-place.was) c.index-own-place.is
