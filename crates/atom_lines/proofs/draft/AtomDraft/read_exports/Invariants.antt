use Rattle.std.proofs.Common.{◌≡◌, [], length}
use Rattle.atom_lines.specs.Rows.{exports_in}
use Rattle.atom_lines.specs.Draft.{drafted}
use Rattle.atom_lines.proofs.draft.AtomDraft.read_exports.Given as goal

-- what is left to read leads to the same end as all of it did
abbrev pub invariant-loop-word : goal.invariant-loop-word
invariant-loop-word l = exports_in (drafted l.self) l.exports.items l.words ≡ exports_in (drafted l.self) [] l.fn.words

abbrev pub decreases-loop-word : goal.decreases-loop-word
decreases-loop-word l = length l.words
