-- Which word it is.
use Rattle.atomic_table.specs.Seated.{TableId}
use Rattle.plant_core.specs.declared.front.Front.{Front}

-- which table has the word, and where its history opens
pub record Which : Type 0 where
  pub table : TableId
  pub opening : Front
