use Rattle.std.proofs.Common.{◌≡◌, drop}
use Rattle.petri_atom.specs.Atom.{definition_of}
use Rattle.petri_atom.specs.Definition.{Fits}
use Rattle.record_replay.specs.Replay.{replay, replay_from}
use Rattle.record_replay.proofs.replay.replay_atom.Given as goal

-- what is left of the records leads to the same end
abbrev pub invariant-loop-place : goal.invariant-loop-place
invariant-loop-place l = record {
  same : replay (definition_of l.atom) l.number l.saved (drop l.place l.records) (record { state = l.state; count = l.count }) ≡ replay_from (definition_of l.atom) l.number (record { state = l.fn.state; count = l.saved }) l.records;
  fits : Fits (definition_of l.atom) l.state;
}
