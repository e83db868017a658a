use Rattle.std.proofs.Common.{◌≡◌, ℕ, ap, sym, ◌∙◌, arith, replicate}
use Rattle.std.proofs.lemmas.List.{length-replicate}
use Rattle.record_codec.specs.Bytes.{padded, zeros}
use Rattle.record_codec.specs.Fired.{FiredFields, fired_bytes, fired_up_to}
use Rattle.record_codec.proofs.Records.{fired_reads_back}
use Rattle.record_codec.proofs.fired.spelled.Goals as goal

pub spell-requires-clause-room : goal.spell-requires-clause-room
spell-requires-clause-room g c = omega (arith, c.requires.room, length-replicate {A = ℕ} g.row.LENGTH 0)

pub spell-requires-clause-clear : goal.spell-requires-clause-clear
unfolding zeros
spell-requires-clause-clear g c = ap (λ (n : ℕ). replicate n 0) (sym (length-replicate {A = ℕ} g.row.LENGTH 0))

pub returns-clause-spelled : goal.returns-clause-spelled
returns-clause-spelled g c =
    let fired : FiredFields = record { number = c.args.number; connector = c.args.connector; entries = g.E.EntrySource.entries c.args.entries.now } in
    c.spell.ensures.spelled ∙ ap (λ (n : ℕ). padded n (fired_bytes fired)) (length-replicate {A = ℕ} g.row.LENGTH 0)

pub returns-clause-reads_back : goal.returns-clause-reads_back
returns-clause-reads_back g c most few =
    let fired : FiredFields = record { number = c.args.number; connector = c.args.connector; entries = g.E.EntrySource.entries c.args.entries.now } in
    let spelled : c.spell.new.body ≡ padded g.row.LENGTH (fired_bytes fired) = returns-clause-spelled g c in
    ap (fired_up_to most) spelled ∙ fired_reads_back most fired g.row.LENGTH c.requires.room few c.requires.in_range c.spell.ensures.fits
