-- What passes keep, and which word it is.
use Rattle.std.specs.Prelude.{◌≡◌, Bool, [], map}
use Rattle.atomic_table.specs.Seated.{TableId}
use Rattle.atomic_table.specs.declared.shared.Seat.{Seat}
use Rattle.plant_core.specs.declared.front.Front.{Front}
use Rattle.front_word.specs.declared.knowing.Known.{Known}
use Rattle.front_word.specs.Fronts.{IsRising, IsWithin}
use Rattle.front_word.specs.Rules.{knows}

module _ {E : Type 0} (front : E → Front) (table : TableId) (opening : Front) (publishes : Bool) where
  -- a pass of the word with this table, which publishes or watches, and has nothing to follow
  pub record IsPass (seat : Seat E (Known E)) : Type 0 where
    pub of_table : seat.table_id ≡ table
    pub holds : seat.me.1 ≡ []
    pub knows_it : seat.me.0 ≡ knows opening seat.me.0.seen [] publishes
    pub rises : IsRising opening opening (map front seat.me.0.seen)
    pub opens : IsWithin opening opening
