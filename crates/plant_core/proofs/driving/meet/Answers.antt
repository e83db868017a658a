use Rattle.std.proofs.Common.{◌+◌, sym, subst, length}
use Rattle.std.specs.Result.{is_ok}
use Rattle.disk_model.specs.Cells.{Leaves}
use Rattle.disk_model.specs.DiskState.{size_of}
use Rattle.disk_model.specs.declared.cells.TheConstants.{BODY}
use Rattle.plant_core.specs.Plants.{definition_of, device_of, text_digest, view_of}
use Rattle.plant_core.specs.Stops.{StandsForFront}
use Rattle.plant_core.proofs.AtRest.{front-now, put-front}
use Rattle.plant_core.proofs.EventByEvent.{answer-untouched, flush-keeps, flush-refused}
use Rattle.plant_core.specs.Handed.{hands_of}
use Rattle.plant_core.proofs.Handed.{as-many}
use Rattle.plant_core.proofs.driving.meet.Goals as goal

pub returns-in-Fire-clause-stops : goal.returns-in-Fire-clause-stops
returns-in-Fire-clause-stops g c = λ keeps.
    let p = c.args.plant.now in
    subst (λ t. Leaves (BODY + 1) (StandsForFront (definition_of p) (text_digest p) (size_of (device_of p)) (view_of p)) (device_of p) t) (sym c.fire.ensures.device)
    (front-now (definition_of p) (text_digest p) (view_of p) (device_of p) (p.at_a_stop keeps))

pub returns-in-FireChoice-clause-stops : goal.returns-in-FireChoice-clause-stops
returns-in-FireChoice-clause-stops g c = λ keeps.
    let p = c.args.plant.now in
    subst (λ t. Leaves (BODY + 1) (StandsForFront (definition_of p) (text_digest p) (size_of (device_of p)) (view_of p)) (device_of p) t) (sym c.fire_choice.ensures.device)
    (front-now (definition_of p) (text_digest p) (view_of p) (device_of p) (p.at_a_stop keeps))

pub returns-in-Ask-clause-stops : goal.returns-in-Ask-clause-stops
returns-in-Ask-clause-stops g c = λ keeps.
    let p = c.args.plant.now in
    subst (λ t. Leaves (BODY + 1) (StandsForFront (definition_of p) (text_digest p) (size_of (device_of p)) (view_of p)) (device_of p) t) (sym c.ask.ensures.device)
    (front-now (definition_of p) (text_digest p) (view_of p) (device_of p) (p.at_a_stop keeps))

pub returns-in-Trim-clause-stops : goal.returns-in-Trim-clause-stops
returns-in-Trim-clause-stops g c = λ keeps.
    let p = c.args.plant.now in
    put-front (definition_of p) (text_digest p) (view_of p) (device_of p) (device_of c.trim.new.self) (p.at_a_stop keeps) c.trim.ensures.refused (c.trim.ensures.stops keeps)

pub returns-in-Save-clause-stops : goal.returns-in-Save-clause-stops
returns-in-Save-clause-stops g c = λ keeps.
    let p = c.args.plant.now in
    put-front (definition_of p) (text_digest p) (view_of p) (device_of p) (device_of c.save.new.self) (p.at_a_stop keeps) c.save.ensures.refused (c.save.ensures.stops keeps)

pub returns-in-Save-clause-untouched : goal.returns-in-Save-clause-untouched
returns-in-Save-clause-untouched g c = λ none. answer-untouched c.save.result (device_of c.args.plant.now) (device_of c.save.new.self) c.save.ensures.untouched none

pub returns-in-Flush-clause-untouched : goal.returns-in-Flush-clause-untouched
returns-in-Flush-clause-untouched g c = λ none.
    let p = c.args.plant.now in
    c.flush.ensures.refused (flush-refused (view_of p) (view_of c.flush.new.self) c.flush.result c.flush.ensures.event none)

pub returns-in-Trim-clause-untouched : goal.returns-in-Trim-clause-untouched
returns-in-Trim-clause-untouched g c = λ none. answer-untouched c.trim.result (device_of c.args.plant.now) (device_of c.trim.new.self) c.trim.ensures.untouched none

pub returns-in-Ask-clause-as_many : goal.returns-in-Ask-clause-as_many
returns-in-Ask-clause-as_many g c =
    let p = c.args.plant.now in
    as-many (definition_of p) (view_of p) (length (definition_of p).atoms) (hands_of c.args.hands.now) (hands_of c.ask.new.hands) c.ask.result c.requires c.ask.ensures.hands

pub returns-in-Put-clause-as_many : goal.returns-in-Put-clause-as_many
returns-in-Put-clause-as_many g c =
    let p = c.args.plant.now in
    as-many (definition_of p) (view_of p) (length (definition_of p).atoms) (hands_of c.args.hands.now) (hands_of c.put.new.hands) c.put.result c.requires c.put.ensures.hands

pub returns-in-Begin-clause-as_many : goal.returns-in-Begin-clause-as_many
returns-in-Begin-clause-as_many g c =
    let p = c.args.plant.now in
    as-many (definition_of p) (view_of p) (length (definition_of p).atoms) (hands_of c.args.hands.now) (hands_of c.begin.new.hands) c.begin.result c.requires c.begin.ensures.hands

pub returns-in-Back-clause-as_many : goal.returns-in-Back-clause-as_many
returns-in-Back-clause-as_many g c =
    let p = c.args.plant.now in
    as-many (definition_of p) (view_of p) (length (definition_of p).atoms) (hands_of c.args.hands.now) (hands_of c.back.new.hands) c.back.result c.requires c.back.ensures.hands

pub returns-in-Begin-clause-stops : goal.returns-in-Begin-clause-stops
returns-in-Begin-clause-stops g c = λ keeps.
    let p = c.args.plant.now in
    subst (λ t. Leaves (BODY + 1) (StandsForFront (definition_of p) (text_digest p) (size_of (device_of p)) (view_of p)) (device_of p) t) (sym c.begin.ensures.device)
    (front-now (definition_of p) (text_digest p) (view_of p) (device_of p) (p.at_a_stop keeps))

pub returns-in-Back-clause-stops : goal.returns-in-Back-clause-stops
returns-in-Back-clause-stops g c = λ keeps.
    let p = c.args.plant.now in
    subst (λ t. Leaves (BODY + 1) (StandsForFront (definition_of p) (text_digest p) (size_of (device_of p)) (view_of p)) (device_of p) t) (sym c.back.ensures.device)
    (front-now (definition_of p) (text_digest p) (view_of p) (device_of p) (p.at_a_stop keeps))

pub returns-in-Flush-clause-keeps : goal.returns-in-Flush-clause-keeps
returns-in-Flush-clause-keeps g c =
    let p = c.args.plant.now in
    flush-keeps (view_of p) (device_of p) (device_of c.flush.new.self) (is_ok c.flush.result) c.flush.ensures.idle c.flush.ensures.refused c.flush.ensures.counts
