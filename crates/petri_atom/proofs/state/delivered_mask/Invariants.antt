use Rattle.std.proofs.Common.{◌≡◌}
use Rattle.std.specs.Prelude.{None, is_some, slice_index_or}
use Rattle.petri_atom.specs.Local.{set_below}
use Rattle.petri_atom.proofs.state.delivered_mask.Given as goal

abbrev pub invariant-loop-number : goal.invariant-loop-number
invariant-loop-number l =
    l.mask ≡ set_below l.number (λ j. is_some (slice_index_or l.values j None))
