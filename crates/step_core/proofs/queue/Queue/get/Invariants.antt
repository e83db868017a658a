use Rattle.std.proofs.Common.{◌≡◌, drop}
use Rattle.std.specs.Prelude.{slice_get}
use Rattle.std.specs.List.{filter_map}
use Rattle.step_core.proofs.queue.Queue.get.Given as goal

-- what is looked for is left to be found from the place on
abbrev pub invariant-loop-k : goal.invariant-loop-k
invariant-loop-k g l = slice_get (filter_map (λ x. x) l.places) l.place ≡ slice_get (filter_map (λ x. x) (drop l.k l.places)) l.left
