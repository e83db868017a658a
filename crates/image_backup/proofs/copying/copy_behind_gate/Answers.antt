use Rattle.std.proofs.Common.{◌≡◌, ◌+◌, ◌-◌, ◌*◌, ℕ, false, sym, ◌∙◌, subst, drop, take, arith}
use Rattle.disk_model.specs.DiskState.{DiskState, Writes}
use Rattle.disk_model.specs.Moments.{counts_then, on_ok}
use Rattle.disk_model.specs.Reading.{reads_then}
use Rattle.disk_model.specs.declared.cells.TheConstants.{BODY}
use Rattle.image_backup.specs.Copies.{AreCopied}
use Rattle.image_backup.proofs.Copied.{copied_on}
use Rattle.image_backup.proofs.copying.copy_behind_gate.Goals as goal

pub loop-k-preserved : goal.loop-k-preserved
loop-k-preserved g c =
    let image : DiskState = g.D.Disk.state c.args.image.now in
    let still : DiskState = g.D.Disk.state c.loop-k.image in
    let read : DiskState = g.D.Disk.state c.copy_part.new.image in
    let copy : DiskState = g.E.Disk.state c.args.copy.now in
    let before : DiskState = g.E.Disk.state c.loop-k.copy in
    let after : DiskState = g.E.Disk.state c.copy_part.new.copy in
    record {
      reads = reads_then {failed = false} image still read c.loop-k.invariant.reads c.in_ok-copy_part.ensures.reads;
      counts = counts_then false false copy before after c.loop-k.invariant.counts c.in_ok-copy_part.ensures.counts;
      copied = λ keeps copy_keeps.
          copied_on 1 ((BODY + 1) * c.loop-k.k + 1) (BODY + 1) ((BODY + 1) * (c.loop-k.k + 1) + 1) image still before after (omega arith) (omega (arith, c.requires.image_size))
          (c.loop-k.invariant.counts.size ∙ c.requires.copy_size ∙ sym c.requires.image_size) (c.loop-k.invariant.reads.same keeps).now (c.loop-k.invariant.copied keeps copy_keeps)
          (c.in_ok-copy_part.ensures.written (c.loop-k.invariant.reads.counts.keeps ∙ keeps) (c.loop-k.invariant.counts.keeps ∙ copy_keeps));
    }

pub returns-clause-copied : goal.returns-clause-copied
returns-clause-copied g c keeps copy_keeps =
    let image : DiskState = g.D.Disk.state c.args.image.now in
    let still : DiskState = g.D.Disk.state c.loop-k.image in
    let before : DiskState = g.E.Disk.state c.loop-k.copy in
    let after : DiskState = g.E.Disk.state c.copy_part-2.new.copy in
    let at : ℕ = (BODY + 1) * (c.args.cells - 1) + 1 in
    let all : (BODY + 1) * c.loop-k.k + 1 ≡ at = omega arith in
    on_ok c.copy_part-2.result (Writes at (take BODY (drop at still.now.seen)) before after) (AreCopied 1 ((BODY + 1) * c.args.cells) image after)
    (λ wrote. copied_on 1 at BODY ((BODY + 1) * c.args.cells) image still before after (omega arith) (omega (arith, c.requires.image_size))
    (c.loop-k.invariant.counts.size ∙ c.requires.copy_size ∙ sym c.requires.image_size) (c.loop-k.invariant.reads.same keeps).now
    (subst (λ (n : ℕ). AreCopied 1 n image before) all (c.loop-k.invariant.copied keeps copy_keeps)) wrote)
    (c.copy_part-2.ensures.written (c.loop-k.invariant.reads.counts.keeps ∙ keeps) (c.loop-k.invariant.counts.keeps ∙ copy_keeps))
