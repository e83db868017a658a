-- What is in the hands of a driver.
use Rattle.step_executor.specs.Outstanding.{kept_in}
use Rattle.plant_core.specs.Hands.{HandFields}
use Rattle.plant_core.specs.declared.hands.Hands.{Hands}

abbrev pub hands_of : Hands → HandFields
hands_of h = record { saved = h.held.items; jobs = kept_in h.jobs.items }
