-- What the storing of the present state of one atom answers and changes.
use Rattle.std.specs.Prelude.{◌⊎◌, ℕ, Result, Ok, Err}
use Rattle.record_codec.specs.Saved.{SavedFields}
use Rattle.plant_core.specs.Events.{IsAsk, IsPut}
use Rattle.plant_core.specs.View.{View}
use Rattle.plant_core.specs.declared.refused.Refused.{Refused}

-- The state was asked for, and then handed in.
abbrev pub IsAskedAndPut : View → ℕ → Result ℕ Refused → View → Type 0
IsAskedAndPut v atom answer w = (saved : SavedFields) × (u : View) × IsAsk v atom (Ok saved) u × IsPut u saved answer w

-- It is stored if it was asked for and put; it is refused if the one or the other was.
abbrev pub IsPutOf : View → ℕ → Result ℕ Refused → View → Type 0
IsPutOf v atom (Ok count) w = IsAskedAndPut v atom (Ok count) w
IsPutOf v atom (Err refused) w = IsAsk v atom (Err refused) w ⊎ IsAskedAndPut v atom (Err refused) w
