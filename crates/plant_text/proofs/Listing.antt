-- A list that grows with the one that it is made of, and lines that are read one by one.
use Rattle.std.proofs.Common.{◌≡◌, ◌≢◌, ◌∙◌, ap, sym, ℕ, ◌+◌, List, [], ◌∷◌, ◌++◌, map, refl, false, true≢false, Option, Some, Result, Ok, Err}
use Rattle.std.specs.Prelude.{is_ok}
use Rattle.std.proofs.lemmas.List.{map-append}
use Rattle.plant_text.specs.Fault.{of_no_line, placed}
use Rattle.plant_text.specs.Marks.{if_refused, faulty_line}
use Rattle.plant_text.specs.Meaning.{on_line, lines_row}
use Rattle.plant_words.specs.Reading.{◌>>=◌}
use Rattle.plant_text.specs.Rows.{line_row}
use Rattle.plant_text.specs.Text.{PlantText}
use Rattle.plant_text.specs.declared.fault.Fault.{Fault}
use Rattle.plant_text.specs.declared.fault.Fault.TheVariants.{NotAscii, TooLong, UnknownWord, Misplaced, BadName, Twice, UnknownName, BadExpression, BadNumber, Shape, Tree, Order, Limit, NoAtom, Memory, Read}
use Rattle.plant_text.specs.declared.fault.PlantFault.{PlantFault}

-- both lists have one more
pub one_more : {A B C : Type 0} (f : A → C) (g : B → C) (before after : List A) (x : A) (from : List B) (y : B) →
    after ≡ before ++ x ∷ [] → map f before ≡ map g from → f x ≡ g y → map f after ≡ map g (from ++ y ∷ [])
one_more f g before after x from y pushed so_far made =
    ap (map f) pushed ∙ map-append f before (x ∷ []) ∙ ap (λ all. all ++ f x ∷ []) so_far ∙ ap (λ part. map g from ++ part ∷ []) made ∙ sym (map-append g from (y ∷ []))

-- a line without a fault is read, and the others are left
pub line_read : (number : ℕ) (lines rest : List (List ℕ)) (line : List ℕ) (plant next : PlantText) →
    lines ≡ line ∷ rest → line_row line plant ≡ Ok next → lines_row number lines plant ≡ lines_row (number + 1) rest next
line_read number lines rest line plant next taken says =
    ap (λ (all : List (List ℕ)). lines_row number all plant) taken ∙ ap (λ told. on_line number told >>= λ plant. lines_row (number + 1) rest plant) says

-- none is left
pub lines_end : (number : ℕ) (lines : List (List ℕ)) (plant : PlantText) → lines ≡ [] → lines_row number lines plant ≡ Ok plant
lines_end number lines plant none = ap (λ (all : List (List ℕ)). lines_row number all plant) none

-- the fault of a line is answered with its number, but for want of memory
found_on_line : (number : ℕ) (fault : Fault) (read : Result PlantText Fault) → (fault ≢ Memory → read ≡ Err fault) → placed number fault ≢ of_no_line Memory → on_line number read ≡ Err (placed number fault)
found_on_line number Memory read refused other = absurd (other refl)
found_on_line number NotAscii read refused other = ap (on_line number) (refused (λ is. cc))
found_on_line number TooLong read refused other = ap (on_line number) (refused (λ is. cc))
found_on_line number UnknownWord read refused other = ap (on_line number) (refused (λ is. cc))
found_on_line number Misplaced read refused other = ap (on_line number) (refused (λ is. cc))
found_on_line number BadName read refused other = ap (on_line number) (refused (λ is. cc))
found_on_line number Twice read refused other = ap (on_line number) (refused (λ is. cc))
found_on_line number UnknownName read refused other = ap (on_line number) (refused (λ is. cc))
found_on_line number BadExpression read refused other = ap (on_line number) (refused (λ is. cc))
found_on_line number BadNumber read refused other = ap (on_line number) (refused (λ is. cc))
found_on_line number Shape read refused other = ap (on_line number) (refused (λ is. cc))
found_on_line number (Tree f) read refused other = ap (on_line number) (refused (λ is. cc))
found_on_line number (Order f) read refused other = ap (on_line number) (refused (λ is. cc))
found_on_line number Limit read refused other = ap (on_line number) (refused (λ is. cc))
found_on_line number NoAtom read refused other = ap (on_line number) (refused (λ is. cc))
found_on_line number Read read refused other = ap (on_line number) (refused (λ is. cc))

-- a line with a fault is the first one that has one
pub line_refused : (number : ℕ) (lines rest : List (List ℕ)) (line : List ℕ) (plant : PlantText) (fault : Fault) (told : PlantFault) →
    lines ≡ line ∷ rest → told ≡ placed number fault → (fault ≢ Memory → line_row line plant ≡ Err fault) → told ≢ of_no_line Memory → lines_row number lines plant ≡ Err told
line_refused number lines rest line plant fault told taken is refused other =
    ap (λ (all : List (List ℕ)). lines_row number all plant) taken
    ∙ ap (λ told. told >>= λ next. lines_row (number + 1) rest next) (found_on_line number fault (line_row line plant) refused (λ same. other (is ∙ same)))
    ∙ ap Err (sym is)

-- the first line with a fault is after one that has none
pub line_passed : (lines rest : List (List ℕ)) (line : List ℕ) (plant next : PlantText) →
    lines ≡ line ∷ rest → line_row line plant ≡ Ok next → faulty_line lines plant ≡ faulty_line rest next
line_passed lines rest line plant next taken says =
    ap (λ (all : List (List ℕ)). faulty_line all plant) taken ∙ ap (λ told. if_refused told line (faulty_line rest)) says

-- a line with a fault is the first one that has one
refused_here : (row : Result PlantText Fault) (line : List ℕ) (behind : PlantText → Option (List ℕ)) → is_ok row ≡ false → if_refused row line behind ≡ Some line
refused_here (Ok next) line behind refused = absurd (true≢false refused)
refused_here (Err fault) line behind refused = refl

pub line_marked : (lines rest : List (List ℕ)) (line : List ℕ) (plant : PlantText) →
    lines ≡ line ∷ rest → is_ok (line_row line plant) ≡ false → faulty_line lines plant ≡ Some line
line_marked lines rest line plant taken refused =
    ap (λ (all : List (List ℕ)). faulty_line all plant) taken ∙ refused_here (line_row line plant) line (faulty_line rest) refused
