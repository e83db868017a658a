-- Why a job that was done is not taken back.
use Rattle.std.specs.Prelude.{Result, Ok, Err}
use Rattle.plant_core.specs.declared.refused.BackRefused.{BackRefused}
use Rattle.plant_core.specs.declared.refused.Refused.{Refused}

-- the answer without the job that comes back
abbrev pub refusal_in : Result (Unit {0}) BackRefused → Result (Unit {0}) Refused
refusal_in (Ok done) = Ok done
refusal_in (Err refused) = Err refused.refused
