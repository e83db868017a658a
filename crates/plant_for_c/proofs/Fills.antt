-- An image that takes over bytes, or does not.
use Rattle.std.proofs.Common.{◌≡◌, refl, sym, subst, ℕ, ◌+◌, ◌≤◌, Bool, true, false, List, length, Some}
use Rattle.std.specs.Prelude.{◌↔◌, IsTrue, IsFalse}
use Rattle.std.proofs.Math.Nat.{lt_of_not-le}
use Rattle.std.proofs.lemmas.Bool.{false≢true}
use Rattle.disk_model.specs.DiskState.{overwritten}
use Rattle.queued_disk.specs.QueuedDisk.{held_by}
use Rattle.queued_disk.specs.declared.disk.QueuedDisk.{QueuedDisk}
use Rattle.plant_for_c.specs.Things.{IsFill}
use Rattle.plant_for_c.specs.declared.thing.Thing.{Thing}
use Rattle.plant_for_c.specs.declared.thing.Thing.TheVariants.{Image}

pub filled : (before : QueuedDisk) (after : QueuedDisk) (at : ℕ) (bytes : List ℕ) (answer : Bool) → (IsTrue answer ↔ (at + length bytes ≤ length (held_by before)))
    → (IsTrue answer → held_by after ≡ overwritten at bytes (held_by before)) → (IsFalse answer → held_by after ≡ held_by before)
    → IsFill (Image before) at bytes (Some answer) (Image after)
filled before after at bytes true fits put same = (fits.0 refl, put refl)
filled before after at bytes false fits put same = (lt_of_not-le (λ within. false≢true (fits.1 within)), same refl)

-- the same of what was held
pub filled_in : (thing : Thing) (before : QueuedDisk) (after : QueuedDisk) (at : ℕ) (bytes : List ℕ) (answer : Bool) → thing ≡ Image before → (IsTrue answer ↔ (at + length bytes ≤ length (held_by before)))
    → (IsTrue answer → held_by after ≡ overwritten at bytes (held_by before)) → (IsFalse answer → held_by after ≡ held_by before)
    → IsFill thing at bytes (Some answer) (Image after)
filled_in thing before after at bytes answer is fits put same = subst (λ t. IsFill t at bytes (Some answer) (Image after)) (sym is) (filled before after at bytes answer fits put same)
