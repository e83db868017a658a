-- What was read, and what was made of it as far as there was memory.
use Rattle.std.specs.Prelude.{◌≡◌, ℕ, List, map, Result, Ok, IfOk}
use Rattle.std.specs.declared.alloc.AllocError.{AllocError}
use Rattle.std.specs.declared.alloc.Global.{Global}
use Rattle.std.specs.declared.vec.Vec.{Vec}
use Rattle.petri_atom.specs.Definition.{UpdateDefinition}
use Rattle.petri_atom.specs.Update.{update_of}
use Rattle.petri_atom.specs.declared.transition.Update.{Update}
use Rattle.plant_words.specs.declared.line_fault.LineFault.{LineFault}

-- a reading has no fault, and these words are left; what was made means what was read
pub record IsRead {A B : Type 0} (meaning : B → A) (reading : Result (A × List (List ℕ)) LineFault) (rest : List (List ℕ)) (made : Result B AllocError) : Type 0 where
  pub value : A
  pub says : reading ≡ Ok (value, rest)
  pub is_made : IfOk made (λ b. meaning b ≡ value)

-- the same of the updates of a line, after which no words are left
pub record AreRead (reading : Result (List UpdateDefinition) LineFault) (made : Result (Vec Update Global) AllocError) : Type 0 where
  pub updates : List UpdateDefinition
  pub says : reading ≡ Ok updates
  pub are_made : IfOk made (λ b. map update_of b.items ≡ updates)
