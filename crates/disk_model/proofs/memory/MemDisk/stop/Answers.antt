use Rattle.std.proofs.Common.{List, true, ◌∙◌, ap}
use Rattle.disk_model.specs.DiskState.{Moment, DiskState}
use Rattle.disk_model.specs.Recording.{at_rest}
use Rattle.disk_model.proofs.memory.MemDisk.stop.Goals as goal

abbrev empty_device : Moment → List Moment → DiskState
empty_device now past = record { now = now; past = past; failures = 0; syncs = 0; keeps = true }

pub returns-clause-state : goal.returns-clause-state
returns-clause-state c =
    let torn = c.tear.new.self in
    ap (λ (m : Moment). empty_device m torn.past) c.tear.ensures.present ∙ ap (λ (past : List Moment). empty_device (at_rest torn.present.seen) past) c.tear.ensures.past

pub returns-clause-room : goal.returns-clause-room
returns-clause-room c = c.tear.ensures.room

pub returns-clause-synced : goal.returns-clause-synced
returns-clause-synced c = c.tear.ensures.synced
