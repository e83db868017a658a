-- The masks that are left stand after those so far.
use Rattle.std.proofs.Common.{◌≡◌, ◌-◌, ◌++◌, drop}
use Rattle.shown_fault.specs.Masks.{more_masks}
use Rattle.shown_fault.specs.declared.masks.TheConstants.{MAX_MASKS}
use Rattle.shown_fault.proofs.masks.more_masks.Given as goal

abbrev pub invariant-loop-mask : goal.invariant-loop-mask
invariant-loop-mask l = l.text.items ++ more_masks l.left (drop l.mask-index l.masks) ≡ more_masks (MAX_MASKS - 1) l.masks
