-- Where memory may be wanting: after words that have no fault.
use Rattle.std.proofs.Common.{◌≡◌, ◌∙◌, refl, sym, ap, subst, ℕ, List, length, Result, Ok, Err}
use Rattle.std.specs.Prelude.{nat_lt, IsOk}
use Rattle.petri_atom.specs.Expression.{Tree}
use Rattle.plant_words.specs.Expressions.{words_left}
use Rattle.plant_words.specs.declared.expression_fault.ExpressionFault.{ExpressionFault}
use Rattle.plant_model.specs.Plant.{WireDefinition}
use Rattle.plant_model.specs.declared.limits.TheConstants.{MAX_GUARDS, MAX_TRANSFERS}
use Rattle.plant_model.specs.declared.wire.Export.{Export}
use Rattle.plant_words.specs.declared.line_fault.LineFault.{LineFault}
use Rattle.plant_words.specs.declared.line_fault.LineFault.TheVariants.{Limit}
use Rattle.plant_words.specs.Reading.{◌>>=◌, check, at_end, on_line}
use Rattle.connector_lines.proofs.Adding.{guard_is_added, transfer_is_added}
use Rattle.connector_lines.specs.Rows.{Named, whole_expression, transfer_in, guard_added, transfer_added}

-- what has no fault is a value
value_of : {A : Type 0} (r : Result A LineFault) → IsOk r → (x : A) × (r ≡ Ok x)
value_of (Ok x) well = (x, refl)
value_of (Err fault) well = absurd (cc)

left_behind : (r : Result (Tree Export × List (List ℕ)) ExpressionFault) (rest : List (List ℕ)) → words_left r ≡ Ok rest → (tree : Tree Export) × (r ≡ Ok (tree, rest))
left_behind (Ok (tree, words)) rest left =
    let same : words ≡ rest = cc in
    (tree, ap (λ w. Ok (tree, w)) same)
left_behind (Err fault) rest left = absurd (cc)

-- a word after an expression is the fault of all
pub word_is_over : (r : Result (Tree Export × List (List ℕ)) ExpressionFault) (rest : List (List ℕ)) (fault : LineFault) → words_left r ≡ Ok rest → at_end rest ≡ Err fault →
    (on_line r >>= λ read. (at_end read.1 >>= λ _. Ok read.0)) ≡ Err fault
word_is_over r rest fault left over =
    let found = left_behind r rest left in
    ap (λ s. on_line s >>= λ read. (at_end read.1 >>= λ _. Ok read.0)) found.1 ∙ ap (λ end. end >>= λ _. Ok found.0) over

-- an expression with no word after it has no fault
pub none_is_over : (r : Result (Tree Export × List (List ℕ)) ExpressionFault) (rest : List (List ℕ)) (u : Unit {0}) → words_left r ≡ Ok rest → at_end rest ≡ Ok u →
    IsOk (on_line r >>= λ read. (at_end read.1 >>= λ _. Ok read.0))
none_is_over r rest u left ends =
    let found = left_behind r rest left in
    let whole = ap (λ s. on_line s >>= λ read. (at_end read.1 >>= λ _. Ok read.0)) found.1 ∙ ap (λ end. end >>= λ _. Ok found.0) ends in
    subst IsOk (sym whole) refl

-- a line has no fault if there is room and what it adds has none
pub guard_row_is_well : (named : Named) (words : List (List ℕ)) (w : WireDefinition) (u : Unit {0}) →
    check (nat_lt (length w.guards) MAX_GUARDS) Limit ≡ Ok u → IsOk (whole_expression named words) → IsOk (guard_added named words w)
guard_row_is_well named words w u room well =
    let guard = value_of (whole_expression named words) well in
    let added = guard_is_added named words w guard.0 u room guard.1 in
    subst IsOk (sym added) refl

pub transfer_row_is_well : (named : Named) (words : List (List ℕ)) (w : WireDefinition) (u : Unit {0}) →
    check (nat_lt (length w.transfers) MAX_TRANSFERS) Limit ≡ Ok u → IsOk (transfer_in named w.transfers words) → IsOk (transfer_added named words w)
transfer_row_is_well named words w u room well =
    let transfer = value_of (transfer_in named w.transfers words) well in
    let added = transfer_is_added named words w transfer.0 u room transfer.1 in
    subst IsOk (sym added) refl
