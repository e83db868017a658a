-- What is asked of several cells that are to be emptied or filled in one call.
use Rattle.std.specs.Prelude.{◌≡◌, ℕ, true, List, length}
use Rattle.disk_model.specs.DiskState.{DiskState}
use Rattle.disk_model.specs.Steps.{AreInside, ReadFull, AreClosed, AllDiffer}
use Rattle.disk_model.specs.declared.calls.Known.{Known}
use Rattle.disk_model.specs.declared.calls.Known.TheVariants.{Full}

-- Each of these cells is one of the device's. If their gates are not to be read, each reads full, and none is named twice.
pub record MayBeEmptied (size : ℕ) (known : Known) (s : DiskState) (ks : List ℕ) : Type 0 where
  pub differ : known ≡ Full → AllDiffer ks
  pub inside : AreInside size s ks
  pub full : s.keeps ≡ true → known ≡ Full → ReadFull size s ks

-- Each of these cells is one of the device's and closed, none is named twice, and there is a body for each.
pub record MayBeFilled (size : ℕ) (s : DiskState) (ks : List ℕ) (bodies : List (List ℕ)) : Type 0 where
  pub differ : AllDiffer ks
  pub as_many : length bodies ≡ length ks
  pub inside : AreInside size s ks
  pub closed : s.keeps ≡ true → AreClosed size s ks
