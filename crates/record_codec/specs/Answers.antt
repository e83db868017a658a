-- What reading a body answers.
use Rattle.std.specs.Prelude.{◌≡◌, Option, Some, IfSome}

-- The answer is the value that the body holds, and is a value exactly if the body is that value's.
pub record IsAnswer {V : Type 0} (held : Option V) (IsBodyOf : V → Type 0) (answer : Option V) : Type 0 where
  pub exact : answer ≡ held
  pub found : IfSome answer IsBodyOf
  pub only : (value : V) → IsBodyOf value → answer ≡ Some value
