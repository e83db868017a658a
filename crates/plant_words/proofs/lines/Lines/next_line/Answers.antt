use Rattle.std.proofs.Common.{◌∙◌, ◌∷◌, ℕ, List, drop, sym, ap, rules}
use Rattle.std.proofs.lemmas.List.{take_rest}
use Rattle.plant_words.specs.Lines.{lines_of}
use Rattle.plant_words.proofs.Cuts.{first_line, last_line}
use Rattle.plant_words.proofs.lines.Lines.next_line.Goals as goal

pub returns-in-empty-clause-line : goal.returns-in-empty-clause-line
returns-in-empty-clause-line c =
    sym c.self.view_is ∙ last_line c.self.inside.rest.now c.split_at.result.0.now c.split_at.result.1.now c.line_len.result c.line_len.ensures.value c.split_at.ensures.front c.split_at.ensures.back c.in-empty.len_below (search rules)

pub returns-in-len1-up-clause-line : goal.returns-in-len1-up-clause-line
returns-in-len1-up-clause-line c =
    let behind = c.split_at.result.1.now in
    sym c.self.view_is
    ∙ first_line c.self.inside.rest.now c.split_at.result.0.now behind c.line_len.result c.line_len.ensures.value c.split_at.ensures.front c.split_at.ensures.back c.in-len1-up.len_at_least
    ∙ ap (λ (line : List ℕ). line ∷ lines_of (drop 1 behind)) (sym c.without_return.ensures)
    ∙ ap (λ (rest : List ℕ). c.without_return.result.now ∷ lines_of rest) (sym (take_rest behind 1))
