-- What a look at a plant tells.
use Rattle.std.specs.Prelude.{◌≡◌}
use Rattle.plant_core.specs.View.{View, fired_number}
use Rattle.plant_for_c.specs.declared.looking.Standing.{Standing}

-- So far is a plant with this view.
abbrev pub IsStandingOf : View → Standing → Type 0
IsStandingOf v s = (s.fired ≡ fired_number v) × (s.acked ≡ v.number) × (s.base ≡ v.base) × (s.ring ≡ v.ring)
