use Rattle.std.proofs.Common.{◌+◌, ◌≤◌, length, arith}
use Rattle.record_codec.proofs.Written.{zeros_after, written_then, room_for}
use Rattle.record_codec.proofs.writer.Writer.bytes.Goals as goal

pub invariant_of-self : goal.invariant_of-self
invariant_of-self g c =
    let s = c.self.inside in
    let room : s.position + length c.args.bytes.now ≤ g.row.LENGTH = room_for s.body c.args.self.now s.position (length c.args.bytes.now) g.row.LENGTH c.self.told c.self.invariant.0 c.self.view_is c.requires in
    (room, rw c.copy_from_slice.ensures.after (zeros_after s.body c.args.bytes.now s.position g.row.LENGTH c.self.told room c.self.invariant.1))

pub returns-clause-written : goal.returns-clause-written
returns-clause-written g c =
    let s = c.self.inside in
    let room : s.position + length c.args.bytes.now ≤ g.row.LENGTH = room_for s.body c.args.self.now s.position (length c.args.bytes.now) g.row.LENGTH c.self.told c.self.invariant.0 c.self.view_is c.requires in
    rw (c.copy_from_slice.ensures.after, ← c.self.view_is) (written_then s.body c.args.bytes.now s.position (omega (arith, room, c.self.told)))
