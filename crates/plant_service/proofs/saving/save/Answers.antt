use Rattle.std.proofs.Common.{◌∷◌, [], refl}
use Rattle.plant_core.specs.Handed.{hands_of}
use Rattle.plant_core.specs.Plants.{definition_of, device_of, text_digest, view_of}
use Rattle.plant_core.specs.declared.events.Event.TheVariants.{Save, Trim}
use Rattle.plant_service.proofs.Driving.{answered-by, asked-drives, asked-more, cut-by, cut-drives, driven-more, leads-of, on-err, one-asked}
use Rattle.plant_service.proofs.saving.save.Goals as goal

pub returns-in_err-saved-clause-cut : goal.returns-in_err-saved-clause-cut
returns-in_err-saved-clause-cut g c =
    let p = c.args.plant.now in
    let q = c.answer.new.plant in
    on-err c.from_residual.result
    (cut-drives (definition_of p) (text_digest p) (view_of p) (view_of q) (device_of p) (device_of q) (hands_of c.args.hands.now) (hands_of c.answer.new.hands) (Save ∷ []) c.in_err-saved.ensures.cut)

pub returns-in_err-trimmed-clause-cut : goal.returns-in_err-trimmed-clause-cut
returns-in_err-trimmed-clause-cut g c =
    let p = c.args.plant.now in
    let q = c.answer.new.plant in
    let r = c.answer-2.new.plant in
    let plant = definition_of p in
    let digest = text_digest p in
    let held = hands_of c.answer.new.hands in
    let left = hands_of c.answer-2.new.hands in
    let did = c.in_ok-saved.ensures in
    let first = one-asked plant digest (view_of p) (view_of q) (device_of p) (device_of q) (hands_of c.args.hands.now) held Save c.in_ok-saved.saved _ _ _ did.answered refl in
    on-err c.from_residual-in_err-trimmed.result
    (driven-more plant digest (view_of p) (view_of q) (view_of r) (device_of p) (device_of q) (device_of r) (hands_of c.args.hands.now) held left (leads-of plant (view_of p) c.tail_is_a_run.ensures)
    (asked-drives plant digest (view_of p) (view_of q) (device_of p) (device_of q) (hands_of c.args.hands.now) held (Save ∷ []) _ _ _ first)
    (cut-drives plant digest (view_of q) (view_of r) (device_of q) (device_of r) held left (Trim ∷ [])
    (cut-by (definition_of q) plant (text_digest q) digest did.plant did.digest (view_of q) (view_of r) (device_of q) (device_of r) held left (Trim ∷ []) c.in_err-trimmed.ensures.cut)))

pub returns-clause-saved : goal.returns-clause-saved
returns-clause-saved g c =
    let p = c.args.plant.now in
    let q = c.answer.new.plant in
    let r = c.answer-2.new.plant in
    let plant = definition_of p in
    let digest = text_digest p in
    let hands = hands_of c.args.hands.now in
    let held = hands_of c.answer.new.hands in
    let left = hands_of c.answer-2.new.hands in
    let old = g.W.Write.contents c.args.output.now in
    let mid = g.W.Write.contents c.answer.new.output in
    let new = g.W.Write.contents c.answer-2.new.output in
    let did = c.in_ok-saved.ensures in
    let saved = c.in_ok-saved.saved in
    let trimmed = c.in_ok-trimmed.trimmed in
    asked-more plant digest (view_of p) (view_of q) (view_of r) (device_of p) (device_of q) (device_of r) hands held left (leads-of plant (view_of p) c.tail_is_a_run.ensures)
    (Save ∷ []) (Trim ∷ []) c.has_failed.result c.has_failed-2.result old mid new
    (one-asked plant digest (view_of p) (view_of q) (device_of p) (device_of q) hands held Save saved c.has_failed.result old mid did.answered c.has_failed.ensures)
    (one-asked plant digest (view_of q) (view_of r) (device_of q) (device_of r) held left Trim trimmed c.has_failed-2.result mid new
    (answered-by (definition_of q) plant (text_digest q) digest did.plant did.digest (view_of q) (view_of r) (device_of q) (device_of r) held left Trim trimmed mid new c.in_ok-trimmed.ensures.answered)
    c.has_failed-2.ensures)
