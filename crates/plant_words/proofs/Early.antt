-- Steps of a reading that take no memory, so that none of them answers want of it.
use Rattle.std.proofs.Common.{◌≡◌, ◌≢◌, ◌∙◌, refl, sym, ap, subst, if◌then◌else◌, Bool, true, false, ℕ, List, [], ◌∷◌, Option, Some, None, Result, Ok, Err}
use Rattle.std.specs.Prelude.{IfErr, IsOk}
use Rattle.std.specs.Option.{ok_or}
use Rattle.std.specs.Result.{IsErrAnd}
use Rattle.petri_atom.specs.Name.{is_same_text}
use Rattle.plant_words.specs.Names.{name_in}
use Rattle.plant_words.specs.LineFaults.{IsLast, line_fault}
use Rattle.plant_words.specs.Lines.{is_legal_line}
use Rattle.plant_words.specs.Reading.{◌>>=◌, check, first_word, first_name, first_keyword, at_end, on_line}
use Rattle.plant_words.specs.declared.expression_fault.ExpressionFault.{ExpressionFault}
use Rattle.plant_words.specs.declared.expression_fault.ExpressionFault.TheVariants as expression
use Rattle.plant_words.specs.declared.line_fault.LineFault.{LineFault}
use Rattle.plant_words.specs.declared.line_fault.LineFault.TheVariants.{NotAscii, BadName, Shape, Memory}

-- a step that answers no want of memory
abbrev pub TakesNone : {A : Type 0} → Result A LineFault → Type 0
TakesNone {A} step = step ≢ Err Memory

pub check_takes_none : (passes : Bool) (fault : LineFault) → fault ≢ Memory → TakesNone (check passes fault)
check_takes_none true fault other is = absurd (cc)
check_takes_none false fault other is = let e : fault ≡ Memory = cc in other e

pub or_takes_none : {A : Type 0} (found : Option A) (fault : LineFault) → fault ≢ Memory → TakesNone (ok_or found fault)
or_takes_none (Some x) fault other is = absurd (cc)
or_takes_none None fault other is = let e : fault ≡ Memory = cc in other e

-- one step after the other
pub then_takes_none : {A B : Type 0} (first : Result A LineFault) (next : A → Result B LineFault) → TakesNone first → ((x : A) → TakesNone (next x)) → TakesNone (first >>= next)
then_takes_none (Ok x) next before behind = behind x
then_takes_none (Err fault) next before behind = λ is. let e : fault ≡ Memory = cc in before (ap Err e)

pub either_takes_none : {A : Type 0} (test : Bool) (one other : Result A LineFault) → TakesNone one → TakesNone other → TakesNone (if test then one else other)
either_takes_none true one other first second = first
either_takes_none false one other first second = second

pub word_takes_none : (words : List (List ℕ)) → TakesNone (first_word words)
word_takes_none [] = λ is. absurd (cc)
word_takes_none (word ∷ words) = either_takes_none (is_legal_line word) (Ok word) (Err NotAscii) (λ is. absurd (cc)) (λ is. absurd (cc))

pub name_takes_none : (words : List (List ℕ)) → TakesNone (first_name words)
name_takes_none words = then_takes_none (first_word words) _ (word_takes_none words) (λ word. or_takes_none (name_in word) BadName (λ is. absurd (cc)))

left_over_takes_none : {A : Type 0} (legal : Bool) → TakesNone {A = A} (Err (if legal then Shape else NotAscii))
left_over_takes_none true is = absurd (cc)
left_over_takes_none false is = absurd (cc)

pub keyword_takes_none : (keyword : List ℕ) (words : List (List ℕ)) → TakesNone (first_keyword keyword words)
keyword_takes_none keyword words = then_takes_none (first_word words) _ (word_takes_none words) (λ word. check_takes_none (is_same_text word keyword) Shape (λ is. absurd (cc)))

pub end_takes_none : (words : List (List ℕ)) → TakesNone (at_end words)
end_takes_none [] = λ is. absurd (cc)
end_takes_none (word ∷ words) = left_over_takes_none (is_legal_line word)

-- so the fault of such a step is no want of memory
pub found_before : {A B C : Type 0} (read : Result A LineFault) (step : Result C LineFault) (result : Result B LineFault) (fault : LineFault) → IsErrAnd result (λ told. told ≡ fault) → step ≡ Err fault → TakesNone step → IfErr result (IsLast read)
found_before read step (Ok x) fault left is none = tt
found_before read step (Err told) fault left is none = λ memory. absurd (none (is ∙ ap Err (sym left ∙ memory)))

-- the fault of a step is no want of memory unless nothing else is at fault
pub found_after : {A B : Type 0} (read : Result A LineFault) (result : Result B LineFault) (fault : LineFault) → IsErrAnd result (λ told. told ≡ fault) → (fault ≡ Memory → IsOk read) → IfErr result (IsLast read)
found_after read (Ok x) fault left well = tt
found_after read (Err told) fault left well = λ memory. well (sym left ∙ memory)

-- and where what was read has no fault, memory may be wanting
pub found_last : {A B : Type 0} (read : Result A LineFault) (x : A) (result : Result B LineFault) → read ≡ Ok x → IfErr result (IsLast read)
found_last read x (Ok y) is = tt
found_last read x (Err told) is = λ memory. subst IsOk (sym is) refl

-- an expression
fault_is_no_want : (fault : ExpressionFault) → line_fault fault ≢ Memory
fault_is_no_want expression.NotAscii is = absurd (cc)
fault_is_no_want expression.UnknownName is = absurd (cc)
fault_is_no_want expression.BadExpression is = absurd (cc)
fault_is_no_want expression.BadNumber is = absurd (cc)
fault_is_no_want expression.Limit is = absurd (cc)

pub line_takes_none : {A : Type 0} (read : Result A ExpressionFault) → TakesNone (on_line read)
line_takes_none (Ok x) is = absurd (cc)
line_takes_none (Err fault) is = let e : line_fault fault ≡ Memory = cc in fault_is_no_want fault e
