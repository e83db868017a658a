use Rattle.std.proofs.Common.{◌∙◌, sym, ap, length}
use Rattle.record_replay.proofs.RecordEntries.{length-told}
use Rattle.record_replay.proofs.records.FiredStepEntrySource.count.Goals as goal

pub returns : goal.returns
returns c =
    let step = c.args.self.now in
    ap length c.as_slice.ensures.moves ∙ sym (length-told step.counts.now step.choice.now.moves step.delivered.now step.each)
