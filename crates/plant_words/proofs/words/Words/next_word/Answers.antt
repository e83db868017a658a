use Rattle.std.proofs.Common.{◌∙◌, sym, rules}
use Rattle.plant_words.proofs.Cuts.{first_word, no_words}
use Rattle.plant_words.proofs.words.Words.next_word.Goals as goal

pub returns-then-is_empty-clause-word : goal.returns-then-is_empty-clause-word
returns-then-is_empty-clause-word c =
    sym c.self.view_is ∙ no_words c.self.inside.rest.now c.split_at.result.1.now c.blanks_len.result c.blanks_len.ensures.value c.split_at.ensures.back (search rules)

pub returns-then-is_empty-clause-end : goal.returns-then-is_empty-clause-end
returns-then-is_empty-clause-end c =
    no_words c.self.inside.rest.now c.split_at.result.1.now c.blanks_len.result c.blanks_len.ensures.value c.split_at.ensures.back (search rules)

pub returns-clause-word : goal.returns-clause-word
returns-clause-word c =
    sym c.self.view_is ∙
    first_word c.self.inside.rest.now c.split_at.result.1.now c.split_at-2.result.0.now c.split_at-2.result.1.now c.blanks_len.result c.word_len.result
    c.blanks_len.ensures.value c.split_at.ensures.back (search rules) c.word_len.ensures.value c.split_at-2.ensures.front c.split_at-2.ensures.back
