-- What it says that a body holds a value.
use Rattle.std.proofs.Common.{◌≡◌, ℕ, Bool, true, false, ◌&&◌, cond, List, length, Option, Some, None, IfSome, refl, sym, ◌∙◌}
use Rattle.std.specs.Str.{bytes_eq}
use Rattle.std.proofs.lemmas.Slice.Eq.{bytes_eq-Decides}
use Rattle.record_codec.specs.Answers.{IsAnswer}
use Rattle.record_codec.specs.Bytes.{padded, if_spelled}

-- both tests passed
pub record Passed {V : Type 0} (r : Bool) (value : V) (bytes body : List ℕ) (held : V) : Type 0 where
  pub in_range : r ≡ true
  pub spelled : body ≡ padded (length body) bytes
  pub same : value ≡ held

passed : {V : Type 0} (r t : Bool) (value held : V) (bytes body : List ℕ) → t ≡ bytes_eq body (padded (length body) bytes) → cond (r && t) (Some value) None ≡ Some held → Passed r value bytes body held
passed true true value held bytes body is e = record { in_range = refl; spelled = (bytes_eq-Decides body (padded (length body) bytes)).0 (sym is); same = cc }
passed true false value held bytes body is e = absurd cc
passed false t value held bytes body is e = absurd cc

-- a value that a body holds is the one that its fields say, is in range, and is spelled by the body
pub if_spelled-some : {V : Type 0} (r : Bool) (value held : V) (bytes body : List ℕ) → if_spelled r value bytes body ≡ Some held → Passed r value bytes body held
if_spelled-some r value held bytes body e = passed r (bytes_eq body (padded (length body) bytes)) value held bytes body refl e

-- and the other way round
pub if_spelled_is : {V : Type 0} (r : Bool) (value : V) (bytes body : List ℕ) → r ≡ true → body ≡ padded (length body) bytes → if_spelled r value bytes body ≡ Some value
if_spelled_is r value bytes body in_range spelled =
    rw (in_range, (bytes_eq-Decides body (padded (length body) bytes)).1 spelled) refl

-- what follows from a value that a body holds, at the answer of a reader
if_held : {V : Type 0} (P : V → Type 0) (result held : Option V) → result ≡ held → ((value : V) → held ≡ Some value → P value) → IfSome result P
if_held P None held e each = tt
if_held P (Some value) held e each = each value (sym e)

-- the same, of a value that fits its types
if_held_fits : {V : Type 0} (Fits P : V → Type 0) (result held : Option V) → result ≡ held → IfSome result Fits → ((value : V) → Fits value → held ≡ Some value → P value) → IfSome result P
if_held_fits Fits P None held e fits each = tt
if_held_fits Fits P (Some value) held e fits each = each value fits (sym e)

-- an answer from the value that a body holds, of which spelling and holding are the same
pub answered : {V : Type 0} (P : V → Type 0) (answer held : Option V) → answer ≡ held → ((value : V) → held ≡ Some value → P value) → ((value : V) → P value → held ≡ Some value) → IsAnswer held P answer
answered P answer held e is only = record { exact = e; found = if_held P answer held e is; only = λ value h. e ∙ only value h }

pub answered_fits : {V : Type 0} (Fits P : V → Type 0) (answer held : Option V) → answer ≡ held → IfSome answer Fits → ((value : V) → Fits value → held ≡ Some value → P value) → ((value : V) → P value → held ≡ Some value) → IsAnswer held P answer
answered_fits Fits P answer held e fits is only = record { exact = e; found = if_held_fits Fits P answer held e fits is; only = λ value h. e ∙ only value h }
