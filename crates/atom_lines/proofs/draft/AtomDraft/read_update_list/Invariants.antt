use Rattle.std.proofs.Common.{◌≡◌, [], List, map, IfOk}
use Rattle.petri_atom.specs.Definition.{UpdateDefinition}
use Rattle.petri_atom.specs.Update.{update_of}
use Rattle.petri_atom.specs.declared.parts.TheConstants.{MAX_UPDATES}
use Rattle.atom_lines.specs.Transitions.{updates_from}
use Rattle.atom_lines.specs.Draft.{drafted}
use Rattle.atom_lines.proofs.draft.AtomDraft.read_update_list.Given as goal

-- what is left to read leads to the same end as all of it did, after updates that were made if there was memory for them
abbrev pub invariant-loop-more : goal.invariant-loop-more
invariant-loop-more l = record {
  before : List UpdateDefinition;
  are_made : IfOk l.updates (λ updates. map update_of updates.items ≡ before);
  so_far : updates_from (drafted l.self) l.left before l.more l.words ≡ updates_from (drafted l.self) MAX_UPDATES [] l.fn.more l.fn.words;
}

abbrev pub decreases-loop-more : goal.decreases-loop-more
decreases-loop-more l = l.left
