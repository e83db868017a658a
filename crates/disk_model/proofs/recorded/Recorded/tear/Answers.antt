use Rattle.std.proofs.Common.{◌≡◌, ◌+◌, ◌-◌, length, vec_len, subst, arith}
use Rattle.disk_model.specs.Recording.{Recording, at_rest}
use Rattle.disk_model.proofs.Replay.{length-moments_before}
use Rattle.disk_model.proofs.recorded.Recorded.tear.Goals as goal

pub returns-clause-room : goal.returns-clause-room
returns-clause-room c =
    let inside = c.self.inside in
    let held : vec_len inside.changes ≡ length inside.changes.items = inside.changes.ok.0 in
    subst (λ (s : Recording). inside.room - vec_len c.clear.new.self ≡ s.room + length s.past) c.self.view_is
    (omega (arith, held, c.clear.ensures.len, c.self.invariant.within, length-moments_before (at_rest inside.first.items) inside.changes.items))
