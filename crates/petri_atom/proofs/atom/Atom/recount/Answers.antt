use Rattle.std.proofs.Common.{◌∙◌}
use Rattle.petri_atom.specs.Atom.{definition_of}
use Rattle.petri_atom.proofs.Few.{low-same}
use Rattle.petri_atom.proofs.atom.Atom.recount.Goals as goal

pub returns-then-has_few-clause-counts : goal.returns-then-has_few-clause-counts
returns-then-has_few-clause-counts c s t was is =
    let ts = (definition_of c.args.self.now).transitions in
    let few = c.has_few.ensures c.if-has_few.true in
    c.recount_few.ensures.counts s t
    (low-same ts _ c.before-2.inside.word c.low_word.result few c.low_word.ensures (c.before-2.view_is ∙ was))
    (low-same ts _ c.after.inside.word c.low_word-then-has_few.result few c.low_word-then-has_few.ensures (c.after.view_is ∙ is))
