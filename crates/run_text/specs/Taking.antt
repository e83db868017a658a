-- What comes of a pick, as it is kept.
use Rattle.plant_model.specs.Chosen.{choice_of}
use Rattle.run_text.specs.Taken.{Taken, fires, stuck, refused}
use Rattle.run_text.specs.declared.taking.Taking.{Taking}
use Rattle.run_text.specs.declared.taking.Taking.TheVariants.{Fires, Stuck, Refused}

-- what is kept
abbrev pub taking_of : Taking → Taken
taking_of (Fires c) = fires (choice_of c)
taking_of Stuck = stuck
taking_of (Refused why) = refused why
