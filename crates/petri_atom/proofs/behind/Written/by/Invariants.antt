use Rattle.std.proofs.Common.{◌≡◌, ℕ, false, take, map}
use Rattle.petri_atom.specs.Behind.{may_write, is_updated}
use Rattle.petri_atom.specs.Update.{update_of}
use Rattle.petri_atom.proofs.behind.Written.by.Given as goal

abbrev pub invariant-loop-update : goal.invariant-loop-update
invariant-loop-update l =
    (v : ℕ) → may_write l.written.word v ≡ false → is_updated (map update_of (take l.update-index l.updates)) v ≡ false
