use Rattle.atom_lines.specs.Draft.{drafted}
use Rattle.atom_lines.specs.Transitions.{transition_in}
use Rattle.atom_lines.proofs.Early.{places_after_take_none, update_list_takes_none}
use Rattle.plant_words.proofs.Early.{found_before}
use Rattle.atom_lines.proofs.draft.AtomDraft.read_transition.Goals as goal

pub returns-in_err-sources-clause-memory : goal.returns-in_err-sources-clause-memory
returns-in_err-sources-clause-memory c =
    found_before (transition_in (drafted c.args.self.now) c.args.words.now) _ c.from_residual-in_err-sources.result c.in_err-sources.field-0.0 c.from_residual-in_err-sources.ensures.1
    c.in_err-sources.ensures.fault (places_after_take_none _ (drafted c.args.self.now) c.read_port.new.words)

pub returns-in_err-targets-clause-memory : goal.returns-in_err-targets-clause-memory
returns-in_err-targets-clause-memory c =
    found_before (transition_in (drafted c.args.self.now) c.args.words.now) _ c.from_residual-in_err-targets.result c.in_err-targets.field-0.0 c.from_residual-in_err-targets.ensures.1
    c.in_err-targets.ensures.fault (places_after_take_none _ (drafted c.args.self.now) c.read_places_behind.new.words)

pub returns-in_err-updates-clause-memory : goal.returns-in_err-updates-clause-memory
returns-in_err-updates-clause-memory c =
    found_before (transition_in (drafted c.args.self.now) c.args.words.now) _ c.from_residual-in_err-updates.result c.in_err-updates.field-0.0 c.from_residual-in_err-updates.ensures.1
    c.in_err-updates.ensures.fault (update_list_takes_none (drafted c.args.self.now) c.read_guard.new.words)
