use Rattle.std.proofs.Common.{◌≡◌, ap, sym, ◌∙◌, arith}
use Rattle.front_word.proofs.Steps.{joins}
use Rattle.front_word.proofs.word.FrontWord.join.Goals as goal

pub join_seat-requires : goal.join_seat-requires
join_seat-requires g c =
    let w = c.args.self.now in
    let one : w.table.shared.table_id.words ≡ 1 = ap (λ t. t.words) w.table_is ∙ w.words_are in (
      c.requires.table ∙ sym w.table_is,
      c.requires.other_table ∙ sym w.table_is,
      c.requires.other_holds,
      omega arith,
      joins g.E.Fronted.front _ _ _ _ _ c.requires.unspent c.requires.other_unspent,
    )
