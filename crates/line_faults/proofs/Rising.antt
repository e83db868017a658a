-- The faults of a text stand in the order of their lines.
use Rattle.std.proofs.Common.{◌≡◌, ◌≢◌, ◌∙◌, refl, sym, ap, subst, ℕ, zero, suc, ◌-◌, ◌<◌, arith, Bool, true, false, List, ◌∷◌, length, inl, inr, ◌⊎◌, Option, Some, None, Result, Ok, Err}
use Rattle.std.specs.Prelude.{nat_lt, if◌then◌else◌}
use Rattle.std.specs.Option.{option_map_or}
use Rattle.std.specs.Result.{result_err}
use Rattle.std.proofs.lemmas.Bool.{cases_eq}
use Rattle.priority_filter.specs.Decided.{order_fault}
use Rattle.priority_filter.specs.declared.fault.OrderFault.{OrderFault}
use Rattle.text_io.specs.declared.reading.TheConstants.{MAX_TEXT}
use Rattle.plant_words.specs.Lines.{lines_of}
use Rattle.plant_words.specs.Reading.{◌>>=◌}
use Rattle.plant_text.specs.Text.{PlantText}
use Rattle.plant_text.specs.Interactions.{interactions_of}
use Rattle.plant_text.specs.Fault.{of_no_line}
use Rattle.plant_text.specs.Meaning.{lines_row, nothing, with_an_atom, with_an_order, meaning}
use Rattle.plant_text.specs.declared.fault.Fault.TheVariants as fault
use Rattle.plant_text.specs.declared.fault.PlantFault.{PlantFault}
use Rattle.line_faults.specs.Blank.{without_line}
use Rattle.line_faults.specs.Faults.{fault_in, faults_in, behind_line, with_those_behind}
use Rattle.line_faults.specs.InOrder.{StandAfter}
use Rattle.line_faults.proofs.Behind.{behind-line}
use Rattle.line_faults.proofs.Later.{line_found, next_is_later}

-- what is found at a line is the fault of one of the lines
of_a_line : (text : List ℕ) (told : PlantFault) → meaning text ≡ Err told → 0 < told.line → lines_row 1 (lines_of text) nothing ≡ Err told
of_a_line text told fails line = length_of (nat_lt MAX_TEXT (length text)) fails
  where
    order_of : (plant : PlantText) (o : Option OrderFault) → option_map_or (λ broken. Err (of_no_line (fault.Order broken))) o (Ok plant) ≡ Err told → lines_row 1 (lines_of text) nothing ≡ Err told
    order_of plant None fails = absurd (cc)
    order_of plant (Some broken) fails =
        let none : 0 ≡ told.line = ap line_found fails in
        absurd (omega (arith, line, none))

    atoms_of : (plant : PlantText) (some : Bool) → ((if some then Ok plant else Err (of_no_line fault.NoAtom)) >>= with_an_order) ≡ Err told → lines_row 1 (lines_of text) nothing ≡ Err told
    atoms_of plant true fails = order_of plant (order_fault plant.rules (interactions_of plant.wires)) fails
    atoms_of plant false fails =
        let none : 0 ≡ told.line = ap line_found fails in
        absurd (omega (arith, line, none))

    lines_are : (row : Result PlantText PlantFault) → lines_row 1 (lines_of text) nothing ≡ row → ((row >>= with_an_atom) >>= with_an_order) ≡ Err told → lines_row 1 (lines_of text) nothing ≡ Err told
    lines_are (Err broken) is fails = is ∙ fails
    lines_are (Ok plant) is fails = atoms_of plant (nat_lt 0 (length plant.atoms)) fails

    length_of : (long : Bool) → ((if long then Err (of_no_line fault.TooLong) else (lines_row 1 (lines_of text) nothing >>= with_an_atom)) >>= with_an_order) ≡ Err told → lines_row 1 (lines_of text) nothing ≡ Err told
    length_of true fails =
        let none : 0 ≡ told.line = ap line_found fails in
        absurd (omega (arith, line, none))
    length_of false fails = lines_are (lines_row 1 (lines_of text) nothing) refl fails

-- the fault of a text is that of its meaning
meant : (read : Result PlantText PlantFault) (told : PlantFault) → result_err read ≡ Some told → read ≡ Err told
meant (Ok plant) told is = absurd (cc)
meant (Err broken) told is = cc

-- once the line of a fault is blank, the next fault is of a later line, or of none
later_in_text : (text : List ℕ) (told next : PlantFault) → fault_in text ≡ Some told → told.line ≢ 0 → fault_in (without_line told.line text) ≡ Some next
    → (next.line ≡ 0) ⊎ (told.line < next.line)
unfolding fault_in
later_in_text text told next is line is_next = elim (cases_eq next.line 0) [
  | inl none ↦ inl none
  | inr some ↦
      let number : ℕ = told.line - 1 in
      let same : told.line ≡ suc number = omega (arith, line) in
      let fails : lines_row 1 (lines_of text) nothing ≡ Err told = of_a_line text told (meant (meaning text) told is) (omega (arith, line)) in
      let fails_next : lines_row 1 (lines_of (without_line told.line text)) nothing ≡ Err next =
      of_a_line (without_line told.line text) next (meant (meaning (without_line told.line text)) next is_next) (omega (arith, some)) in
      inr (next_is_later number 1 text nothing told next fails (omega (arith, same)) (sym (ap (λ n. lines_row 1 (lines_of (without_line n text)) nothing) same) ∙ fails_next))
]

-- the first fault is of a later line, or of none
abbrev FirstAfter : ℕ → List ℕ → Type 0
FirstAfter line text = (next : PlantFault) → fault_in text ≡ Some next → (next.line ≡ 0) ⊎ (line < next.line)

-- one fault, before those that stand in order behind it
one_stands : (most : ℕ) (text : List ℕ) (line : ℕ) (found : Option PlantFault) → fault_in text ≡ found → FirstAfter line text
    → ((rest : List ℕ) (at : ℕ) → FirstAfter at rest → StandAfter at (faults_in most rest))
    → StandAfter line (with_those_behind found (λ number. faults_in most (without_line number text)))
one_stands most text line None is after behind = tt
one_stands most text line (Some fault) is after behind =
    let rest : ℕ → List PlantFault = λ number. faults_in most (without_line number text) in
    elim (after fault is) as (λ w. StandAfter line (fault ∷ behind_line fault.line rest)) [
      | inl none ↦ inl (none, ap (λ n. behind_line n rest) none)
      | inr later ↦
          let some : fault.line ≢ 0 = omega (arith, later) in
          inr (
            later,
            subst (StandAfter fault.line) (sym (behind-line fault.line rest some))
                (behind (without_line fault.line text) fault.line (λ next is_next. later_in_text text fault next is some is_next)),
          )
    ]

-- all of them stand in order
stand_after : (most : ℕ) (text : List ℕ) (line : ℕ) → FirstAfter line text → StandAfter line (faults_in most text)
unfolding faults_in
stand_after zero text line after = tt
stand_after (suc most) text line after = one_stands most text line (fault_in text) refl after (λ rest at first. stand_after most rest at first)

-- behind line 0, which no text has
pub faults_rise : (most : ℕ) (text : List ℕ) → StandAfter 0 (faults_in most text)
faults_rise most text = stand_after most text 0 (λ next is. elim (cases_eq next.line 0) [ inl none ↦ inl none | inr some ↦ inr (omega (arith, some)) ])
