use Rattle.std.proofs.Common.{◌++◌, ◌∷◌, [], List, sym, ap, ◌∙◌, arith}
use Rattle.std.proofs.lemmas.List.{take_more_set}
use Rattle.record_codec.specs.declared.entry.Entry.{Entry}
use Rattle.record_codec.specs.Entry.{entry_at, after_entry, entries_at}
use Rattle.record_codec.proofs.Entries.{entries_at_more, after_entries_more}
use Rattle.record_codec.proofs.reader.Reader.entries.Goals as goal

pub loop-i-preserved : goal.loop-i-preserved
loop-i-preserved c =
    let i = c.loop-i.i in
    let start = c.args.self.now in
    record {
      rest = c.entry.ensures.rest ∙ ap after_entry c.loop-i.invariant.rest ∙ sym (after_entries_more i start);
      values =
          take_more_set c.loop-i.into i c.entry.result (omega arith)
          ∙ ap (λ (front : List Entry). front ++ c.entry.result ∷ []) c.loop-i.invariant.values
          ∙ ap (λ (entry : Entry). entries_at i start ++ entry ∷ []) (c.entry.ensures.value ∙ ap entry_at c.loop-i.invariant.rest)
          ∙ sym (entries_at_more i start);
      left = omega (arith, c.entry.ensures.left);
    }
