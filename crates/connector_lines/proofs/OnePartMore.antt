-- What a connector keeps with one part more.
use Rattle.std.proofs.Common.{◌≡◌, ◌∙◌, ap, refl, subst, ℕ, ◌<◌, Bool, true, false, ◌&&◌, if◌then◌else◌, List, [], ◌∷◌, ◌++◌, length, map, drop, not, nat_le, codes, Option, Some, None, Result, Ok, Err, IfOk, IfSome, arith}
use Rattle.std.specs.List.{list_all}
use Rattle.std.specs.Option.{ok_or}
use Rattle.std.proofs.lemmas.Bool.{and_from, and_parts, le-leb}
use Rattle.std.proofs.lemmas.List.{map-append}
use Rattle.std.proofs.Math.ListN.{length-map, length-append}
use Rattle.std.proofs.lemmas.List.Folds.{list_all-append}
use Rattle.petri_atom.specs.Expression.{Tree}
use Rattle.plant_model.specs.Plant.{TransferDefinition}
use Rattle.plant_model.specs.declared.wire.Export.{Export}
use Rattle.plant_words.specs.declared.line_fault.LineFault.{LineFault}
use Rattle.plant_words.specs.declared.line_fault.LineFault.TheVariants.{Twice, UnknownName}
use Rattle.plant_words.specs.Reading.{◌>>=◌, check, first_word, first_keyword}
use Rattle.connector_lines.specs.Rows.{Named, has_target, target_in, transfer_in, whole_expression}
use Rattle.connector_lines.specs.Parts.{Passes}
use Rattle.connector_lines.proofs.Expressions.{IsKept, whole_is_kept}

-- what holds of each element of a list and of another one holds of each where the other was added or not
pub all_after : {X Y : Type 0} (f : X → Y) (p : Y → Bool) (added : Bool) (before : List X) (another : X) (after : List X) →
    after ≡ (if added then before ++ another ∷ [] else before) →
    list_all p (map f before) ≡ true → p (f another) ≡ true → list_all p (map f after) ≡ true
all_after f p true before another after is all one =
    ap (λ xs. list_all p (map f xs)) is ∙ ap (list_all p) (map-append f before (another ∷ [])) ∙
    list_all-append p (map f before) (f another ∷ []) ∙ and_from _ _ all (and_from _ _ one refl)
all_after f p false before another after is all one = ap (λ xs. list_all p (map f xs)) is ∙ all

-- a list has no more elements than it may where another one was added or not, and there was room
within_after : {X Y : Type 0} (f : X → Y) (bound : ℕ) (added : Bool) (before : List X) (another : X) (after : List X) →
    after ≡ (if added then before ++ another ∷ [] else before) → length before < bound → nat_le (length (map f after)) bound ≡ true
within_after f bound true before another after is room =
    le-leb _ _ (simp (is, length-map, length-append) (omega arith))
within_after f bound false before another after is room =
    le-leb _ _ (simp (is, length-map) (omega arith))

-- the same of a list within a bound, if there is room for another one
pub small_after : {X Y : Type 0} (f : X → Y) (p : Y → Bool) (bound : ℕ) (added : Bool) (before : List X) (another : X) (after : List X) →
    after ≡ (if added then before ++ another ∷ [] else before) → length before < bound →
    (nat_le (length (map f before)) bound && list_all p (map f before)) ≡ true → p (f another) ≡ true →
    (nat_le (length (map f after)) bound && list_all p (map f after)) ≡ true
small_after f p bound added before another after is room small one =
    and_from _ _ (within_after f bound added before another after is room) (all_after f p added before another after is (and_parts _ _ small).1 one)

-- one target: where it is a new one
target_if_new : (P : Export → Type 0) (is_new : Bool) (target : Export) → P target → IfOk (check is_new Twice >>= λ _. Ok target) P
target_if_new P true target holds = holds
target_if_new P false target holds = tt

target_if_found : (P : Export → Type 0) (before : List TransferDefinition) (found : Option Export) → IfSome found P →
    IfOk (ok_or found UnknownName >>= λ target. (check (not (has_target before target)) Twice >>= λ _. Ok target)) P
target_if_found P before (Some target) holds = target_if_new P (not (has_target before target)) target holds
target_if_found P before None holds = tt

target_if_written : (P : Export → Type 0) (before : List TransferDefinition) (named : Named) (word : Result (List ℕ) LineFault) → ((w : List ℕ) → IfSome (named w) P) →
    IfOk (word >>= λ w. (ok_or (named w) UnknownName >>= λ target. (check (not (has_target before target)) Twice >>= λ _. Ok target))) P
target_if_written P before named (Ok w) holds = target_if_found P before (named w) (holds w)
target_if_written P before named (Err fault) holds = tt

-- a transfer whose target passes the test, and whose value is kept
pub record IsKeptTransfer (test : Export → Bool) (t : TransferDefinition) : Type 0 where
  pub target : test t.target ≡ true
  pub value : IsKept test t.value

transfer_if_read : (test : Export → Bool) (target : Result Export LineFault) (assigns : Result (Unit {0}) LineFault) (value : Result (Tree Export) LineFault) →
    IfOk target (λ t. test t ≡ true) → IfOk value (IsKept test) →
    IfOk (target >>= λ t. (assigns >>= λ _. (value >>= λ v. Ok (record { target = t; value = v })))) (IsKeptTransfer test)
transfer_if_read test (Ok t) (Ok u) (Ok v) first second = record { target = first; value = second }
transfer_if_read test (Ok t) (Ok u) (Err fault) first second = tt
transfer_if_read test (Ok t) (Err fault) value first second = tt
transfer_if_read test (Err fault) assigns value first second = tt

-- the target of a transfer and the variables of its value are named by words, and the value is small
pub transfer_is_kept : (test : Export → Bool) (named : Named) → Passes test named → (before : List TransferDefinition) (words : List (List ℕ)) (t : TransferDefinition) →
    transfer_in named before words ≡ Ok t → IsKeptTransfer test t
transfer_is_kept test named passing before words t is =
    subst (λ (read : Result TransferDefinition LineFault). IfOk read (IsKeptTransfer test)) is
    (transfer_if_read test (target_in named before words) (first_keyword (codes ":=") (drop 1 words)) (whole_expression named (drop 1 (drop 1 words)))
    (target_if_written (λ target. test target ≡ true) before named (first_word words) passing)
    (whole_is_kept test named passing (drop 1 (drop 1 words))))

always_some : (found : Option Export) → IfSome found (λ _. true ≡ true)
always_some None = tt
always_some (Some e) = refl

-- each word names a variable that passes a test that all pass
pub passes_always : (named : Named) → Passes (λ _. true) named
passes_always named word = always_some (named word)
