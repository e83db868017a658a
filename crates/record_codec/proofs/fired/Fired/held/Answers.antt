use Rattle.std.proofs.Common.{◌∙◌, sym, arith, le_trans}
use Rattle.std.proofs.lemmas.Bool.Decides.{nat_tests}
use Rattle.record_codec.specs.declared.layout.TheConstants.{MOST_ENTRIES}
use Rattle.record_codec.proofs.Entries.{length-entries_at}
use Rattle.record_codec.proofs.Records.{IsFired-from_test, IsFiredUpTo-most}
use Rattle.record_codec.proofs.fired.Fired.held.Goals as goal

pub returns-then-participants-most : goal.returns-then-participants-most
returns-then-participants-most g c = record { exact = grind (arith, nat_tests, length-entries_at); fits = tt }

pub new-fired-requires : goal.new-fired-requires
new-fired-requires g c =
    let range = IsFired-from_test c.args.most _ (sym c.is_in_range.ensures ∙ c.if-not-is_in_range.false) in
    IsFiredUpTo-most MOST_ENTRIES c.args.most _ (le_trans range.entries_within c.requires.few) range
