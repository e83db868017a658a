use Rattle.std.proofs.Common.{inl, inr}
use Rattle.std.proofs.lemmas.Bool.{cases_lt}
use Rattle.gated_journal.proofs.Places.{number_of_cell}
use Rattle.gated_journal.proofs.laws.each_record_cell_is_live_or_ahead.Goals as goal

pub returns : goal.returns
returns c j k ring from to =
    let there = number_of_cell j j.base k from to in
    elim (cases_lt j.last there.0) [
      | inl ahead ↦ inr (there.0, record { from = ahead; to = there.2 }, there.3)
      | inr live ↦ inl (there.0, there.1, live, there.3)
    ]
