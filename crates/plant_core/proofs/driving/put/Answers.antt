use Rattle.std.proofs.Common.{◌∙◌, ap, sym, ℕ, List, Option, Some, set}
use Rattle.record_codec.specs.Saved.{SavedFields}
use Rattle.plant_core.specs.Plants.{definition_of, device_of, text_digest, view_of}
use Rattle.plant_core.specs.Snapshots.{with_held}
use Rattle.plant_core.proofs.AtRest.{front-now, put-front}
use Rattle.plant_core.proofs.Copies.{held-again}
use Rattle.plant_core.proofs.EventByEvent.{refused-untouched}
use Rattle.plant_core.specs.Handed.{hands_of}
use Rattle.plant_core.specs.Hands.{HandFields}
use Rattle.plant_core.proofs.driving.put.Goals as goal

pub returns-in_default-clause-stops : goal.returns-in_default-clause-stops
returns-in_default-clause-stops g c = λ keeps.
    let p = c.args.plant.now in
    front-now (definition_of p) (text_digest p) (view_of p) (device_of p) (p.at_a_stop keeps)

pub returns-in-Ok-clause-stops : goal.returns-in-Ok-clause-stops
returns-in-Ok-clause-stops g c = λ keeps.
    let p = c.args.plant.now in
    put-front (definition_of p) (text_digest p) (view_of p) (device_of p) (device_of c.put.new.self) (p.at_a_stop keeps) c.in-Ok.ensures.refused (c.in-Ok.ensures.stops keeps)

pub returns-in-Err-clause-stops : goal.returns-in-Err-clause-stops
returns-in-Err-clause-stops g c = λ keeps.
    let p = c.args.plant.now in
    put-front (definition_of p) (text_digest p) (view_of p) (device_of p) (device_of c.put.new.self) (p.at_a_stop keeps) c.in-Err.ensures.refused (c.in-Err.ensures.stops keeps)

-- the state is in the hand again
pub returns-in-Err-clause-hands : goal.returns-in-Err-clause-hands
returns-in-Err-clause-hands g c =
    let hands = hands_of c.args.hands.now in
    let left = hands_of c.take.new.self in
    let atom = c.args.atom in
    let saved = c.in-Some.encoded in
    c.hold.ensures ∙
    ap (λ (s : SavedFields). record left { saved = with_held s left.saved }) c.in-Err.ensures.returned ∙
    ap (λ (n : ℕ). record left { saved = set left.saved n (Some saved) }) c.in-Some.ensures.own ∙
    ap (λ (h : HandFields). record h { saved = set h.saved atom (Some saved) }) c.in-Some.ensures.left ∙
    ap (λ (held : List (Option SavedFields)). record hands { saved = held }) (held-again hands.saved atom saved (sym c.in-Some.ensures.found))

pub returns-in-Err-clause-untouched : goal.returns-in-Err-clause-untouched
returns-in-Err-clause-untouched g c = λ none. refused-untouched c.in-Err.field-0.refused (device_of c.args.plant.now) (device_of c.put.new.self) c.in-Err.ensures.untouched none
