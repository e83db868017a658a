use Rattle.std.proofs.Common.{◌≡◌, [], length}
use Rattle.atom_lines.specs.Transitions.{places_in}
use Rattle.atom_lines.specs.Draft.{drafted}
use Rattle.atom_lines.proofs.SoundParts.{Listed}
use Rattle.atom_lines.proofs.draft.AtomDraft.read_places.Given as goal

-- what is left to read leads to the same end as all of it did, after different places
abbrev pub invariant-loop-word : goal.invariant-loop-word
invariant-loop-word l = record {
  so_far : places_in (drafted l.self) l.places.items l.words ≡ places_in (drafted l.self) [] l.fn.words;
  listed : Listed (length (drafted l.self).places) l.places.items;
}

abbrev pub decreases-loop-word : goal.decreases-loop-word
decreases-loop-word l = length l.words
