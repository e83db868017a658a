use Rattle.std.proofs.Common.{◌≡◌, ◌<◌, ◌%◌, ℕ, length, get_or, None, Some, vec_capacity}
use Rattle.std.specs.Prelude.{slice_get}
use Rattle.petri_atom.specs.Definition.{AtomDefinition}
use Rattle.plant_model.specs.System.{plant_of}
use Rattle.plant_image.specs.Reading.{contents_in}
use Rattle.parallel_replay.specs.Shares.{IsPlaced}
use Rattle.parallel_replay.proofs.share.replay_share.Given as goal

-- so far each atom of the worker has its place
abbrev pub invariant-loop-number : goal.invariant-loop-number
invariant-loop-number g l = record {
  room : vec_capacity l.places ≡ l.atoms;
  many : length l.places.items ≡ l.number;
  placed : (n : ℕ) (a : AtomDefinition) → n < l.number → slice_get (plant_of l.system).atoms n ≡ Some a → n % l.workers ≡ l.worker → IsPlaced (contents_in l.held) n a (get_or l.places.items n None);
}
