use Rattle.std.proofs.Common.{◌≡◌, ℕ, ◌+◌, ◌-◌, List, length, take, drop, refl, ◌∙◌, ap, arith}
use Rattle.disk_model.specs.DiskState.{Moment}
use Rattle.disk_model.proofs.memory.MemDiskDisk.read_at.Goals as goal

pub returns-clause-bytes : goal.returns-clause-bytes
returns-clause-bytes c keeps =
    let at = c.args.at in
    let count = length c.args.into.now in
    let as_many : at + count - at ≡ count = omega arith in
    c.copy_from_slice.ensures.after ∙ ap (λ (l : List ℕ). take (at + count - at) (drop at l)) c.bytes.ensures ∙ ap (λ (m : Moment). take (at + count - at) (drop at m.seen)) (c.burn_for_read.ensures.reads.same refl).now
    ∙ ap (λ (n : ℕ). take n (drop at c.args.self.now.recorded.present.seen)) as_many
