use Rattle.std.proofs.Common.{◌≡◌, ◌+◌, ◌<◌, ◌≤◌, arith, length, take, ap}
use Rattle.std.proofs.Math.ListN.{set}
use Rattle.std.proofs.lemmas.List.{length-set, length-take-le}
use Rattle.run_text.specs.declared.shown_word.TheConstants.{MOST_CHARACTERS}
use Rattle.run_text.proofs.ShownWord.{put-kept, put-printable}
use Rattle.run_text.proofs.shown_word.Word.push.Goals as goal

pub invariant_of-self : goal.invariant_of-self
invariant_of-self c =
    let count = c.self.inside.count in
    let row = c.self.inside.characters in
    let whole : length row ≡ MOST_CHARACTERS = omega arith in
    let counted : length (take count row) ≡ count = length-take-le count row c.self.invariant.0 in
    let room : count < MOST_CHARACTERS = omega (arith, c.requires.room, ap length c.self.view_is, counted) in
    let most : count + 1 ≤ length (set row count c.args.character) = omega (arith, whole, room, length-set row count c.args.character) in
    (most, put-kept count row c.args.character whole room c.self.invariant.1, put-printable count row c.args.character whole room c.self.invariant.1 c.self.invariant.2 c.requires.printable)
