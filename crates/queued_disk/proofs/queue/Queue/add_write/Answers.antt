use Rattle.std.proofs.Common.{refl, ◌∙◌, ap, false, length}
use Rattle.queued_disk.proofs.Steps.{added, on_ok}
use Rattle.queued_disk.proofs.queue.Queue.add_write.Goals as goal

pub returns : goal.returns
returns c = on_ok c.add.result c.add.ensures.ok (λ es.
    added c.args.self.now c.add.new.self c.begin.new.self.entries.items c.begin.new.self.bytes.items c.args.bytes.now (record { at = c.args.at; first = c.len-first.result; end = c.len-end.result; is_sync = false }) c.begin.new.self.within c.begin.ensures
    es (c.add.ensures.bytes ∙ c.in_ok-extend_from_slice.ensures.items) (c.len-first.ensures ∙ c.begin.new.self.bytes.ok.0) (c.len-end.ensures ∙ c.extend_from_slice.new.self.ok.0 ∙ ap length c.in_ok-extend_from_slice.ensures.items) refl)
