use Rattle.petri_atom.specs.Definition.{fault_of}
use Rattle.atom_lines.specs.Draft.{drafted}
use Rattle.atom_lines.proofs.Rules.{memory_alone, draft_breaks_no_rule}
use Rattle.atom_lines.proofs.draft.AtomDraft.into_atom.Goals as goal

pub want_of_memory-requires : goal.want_of_memory-requires
want_of_memory-requires c = memory_alone (fault_of (drafted c.args.self)) c.in-Err.fault (draft_breaks_no_rule c.args.self) c.in-Err.ensures.fault

pub returns-clause-sound : goal.returns-clause-sound
returns-clause-sound c = draft_breaks_no_rule c.args.self

pub returns-in-Ok-clause-made : goal.returns-in-Ok-clause-made
returns-in-Ok-clause-made c = c.in-Ok.ensures.made
