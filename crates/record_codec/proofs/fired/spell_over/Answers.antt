use Rattle.std.proofs.Common.{ap, ◌∙◌, arith, length}
use Rattle.record_codec.specs.Fired.{FiredFields, fired_in, fired_up_to}
use Rattle.record_codec.specs.declared.layout.TheConstants.{MOST_ENTRIES}
use Rattle.record_codec.proofs.Records.{fired_reads_back}
use Rattle.record_codec.proofs.fired.spell_over.Goals as goal

pub returns : goal.returns
unfolding fired_in
returns g c =
    let fired : FiredFields = record { number = c.args.number; connector = c.args.connector; entries = g.E.EntrySource.entries c.args.entries.now } in
    let few = c.requires.in_range.entries_within in
    ap (fired_up_to MOST_ENTRIES) c.spell.ensures.spelled ∙ fired_reads_back MOST_ENTRIES fired (length c.args.body.now) (omega (arith, c.told-body, few)) few c.requires.in_range c.spell.ensures.fits
