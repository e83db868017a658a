use Rattle.std.proofs.Common.{◌≡◌, ap, sym, ◌∙◌, arith}
use Rattle.front_word.proofs.Steps.{splits}
use Rattle.front_word.proofs.word.FrontWord.split.Goals as goal

pub split_seat-requires : goal.split_seat-requires
split_seat-requires g c =
    let w = c.args.self.now in
    let one : w.table.shared.table_id.words ≡ 1 = ap (λ t. t.words) w.table_is ∙ w.words_are in
    (c.requires.table ∙ sym w.table_is, omega arith, splits g.E.Fronted.front _ _ _ c.requires.unspent)
