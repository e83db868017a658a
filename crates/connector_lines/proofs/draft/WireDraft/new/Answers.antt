use Rattle.connector_lines.proofs.draft.WireDraft.new.Goals as goal

pub invariant_of-result-clause-are_leaves : goal.invariant_of-result-clause-are_leaves
invariant_of-result-clause-are_leaves c = c.in_ok-ports.ensures
