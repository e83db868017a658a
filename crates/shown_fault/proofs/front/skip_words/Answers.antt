-- One more word is taken.
use Rattle.std.proofs.Common.{◌∙◌, ap, drop}
use Rattle.std.proofs.lemmas.List.{drop-drop}
use Rattle.shown_fault.proofs.front.skip_words.Goals as goal

pub loop-taken-preserved : goal.loop-taken-preserved
loop-taken-preserved c =
    c.next_word.ensures.taken ∙ ap (drop 1) c.loop-taken.invariant ∙ drop-drop 1 c.loop-taken._taken c.args.words.now
