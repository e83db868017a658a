-- The exported variables from this place on are left, and what stands before the next word is known by them.
use Rattle.std.proofs.Common.{◌≡◌, drop}
use Rattle.petri_atom.specs.Atom.{definition_of}
use Rattle.text_io.specs.Numbered.{numbered}
use Rattle.text_io.proofs.Leading.{Leads}
use Rattle.run_text.specs.Delivered.{delivered_word, delivered_words, exports_by}
use Rattle.run_text.specs.Word.{after_words, between_text, separated_after}
use Rattle.run_text.proofs.delivered.print_delivered.Given as goal

abbrev pub invariant-loop-export : goal.invariant-loop-export
invariant-loop-export g l = record {
  left : Leads (g.W.Write.contents l.initial.output) (g.W.Write.contents l.output)
      (separated_after l.between (between_text l.format) (numbered (delivered_word l.format (definition_of l.atom) l.delivered) l.export (drop l.export (exports_by (definition_of l.atom) l.transition))))
      (separated_after l.before (between_text l.format) (delivered_words l.format (definition_of l.atom) l.transition l.delivered));
  next : after_words l.between (between_text l.format) (numbered (delivered_word l.format (definition_of l.atom) l.delivered) l.export (drop l.export (exports_by (definition_of l.atom) l.transition)))
      ≡ after_words l.before (between_text l.format) (delivered_words l.format (definition_of l.atom) l.transition l.delivered);
}
