use Rattle.std.proofs.Common.{◌≡◌, ◌==◌, ◌||◌, ◌<◌, ◌*◌, ◌^◌, ◌%◌, ◌∙◌, ap, bit_or, get_or, length, take_all, arith, []}
use Rattle.std.specs.Int.{w64}
use Rattle.std.specs.List.{list_any}
use Rattle.petri_atom.specs.Local.{has}
use Rattle.petri_atom.proofs.Sets.{has-set}
use Rattle.record_codec.specs.declared.entry.Entry.{Entry}
use Rattle.record_replay.proofs.PartWords.{entry-more}
use Rattle.record_replay.proofs.parts.atoms_in.Goals as goal

pub loop-entry-preserved : goal.loop-entry-preserved
loop-entry-preserved c =
    let entries = c.args.fired.now.entries in
    let lent = c.entries-entry-items.result.now in
    let same : lent ≡ entries = c.entries-entry-items.ensures.entries in
    let k = c.loop-entry.entry-index in
    let none : Entry = record { atom = 0; transition = 0; participation = 0; delivered = [] } in
    let within : k < length entries = omega (arith, c.loop-entry-test.true, ap length same) in
    let its : (get_or lent k none).atom ≡ (get_or entries k none).atom = ap (λ es. (get_or es k none).atom) same in
    let below : (get_or lent k none).atom < 64 = omega (arith, its, (c.entries-entry-items.ensures.in_range.entries k none within).atom_within) in
    entry-more entries k none within (has c.loop-entry.atoms) (has (bit_or c.loop-entry.atoms (1 * 2 ^ (get_or lent k none).atom % 2 ^ 64))) c.loop-entry.invariant
    (λ atom. has-set w64 c.loop-entry.atoms (get_or lent k none).atom atom below ∙ ap (λ n. has c.loop-entry.atoms atom || (atom == n)) its)

pub returns : goal.returns
returns c atom =
    let entries = c.args.fired.now.entries in
    c.loop-entry.invariant atom ∙ ap (list_any (λ (e : Entry). e.atom == atom)) (take_all c.loop-entry.entry-index entries (omega (arith, c.loop-entry-test.false, ap length c.entries-entry-items.ensures.entries)))
