-- What a writer took, where it is known.
use Rattle.std.proofs.Common.{◌≡◌, ◌∙◌, ◌++◌, ap, subst, append_assoc, List, ℕ, Option, Some, None, Result, Ok, Err}
use Rattle.std.specs.Prelude.{IfSome}
use Rattle.std.specs.Io.KnownBytes.{Appends}
use Rattle.text_io.specs.Printing.{Prints}
use Rattle.plant_tasks.specs.Printed.{counted}

-- what was appended one after the other was appended as one
pub appended_then : (a b c : Option (List ℕ)) (first second : List ℕ) → Appends a b first → Appends b c second → Appends a c (first ++ second)
appended_then None b c first second one two = tt
appended_then (Some xs) None c first second one two = absurd one
appended_then (Some xs) (Some ys) None first second one two = absurd two
appended_then (Some xs) (Some ys) (Some zs) first second one two = two ∙ ap (λ front. front ++ second) one ∙ append_assoc xs first second

-- what is printed behind what was appended is printed as one
pub prints_then : {T E : Type 0} (result : Result T E) (a b c : Option (List ℕ)) (first second : List ℕ) → Appends a b first → Prints result b c second → Prints result a c (first ++ second)
prints_then (Ok done) a b c first second one two = appended_then a b c first second one two
prints_then (Err fault) a b c first second one two = tt

-- a count that was appended is this one
pub counted_as : (a b : Option (List ℕ)) (word : List ℕ) (n m : ℕ) → n ≡ m → Appends a b (counted word n) → Appends a b (counted word m)
counted_as a b word n m same appended = subst (λ count. Appends a b (counted word count)) same appended

-- what holds of a text holds of the bytes that are known to be this text
pub of_known : (known : Option (List ℕ)) (text : List ℕ) (P : List ℕ → Type 0) → IfSome known (λ bytes. text ≡ bytes) → P text → IfSome known P
of_known None text P same holds = tt
of_known (Some bytes) text P same holds = subst P same holds
