-- The last of a list.
use Rattle.std.proofs.Common.{◌≡◌, ◌∙◌, sym, ap, refl, arith, ℕ, ◌-◌, ◌<◌, List, length, map, get_or, Some, Result, Ok, Err}
use Rattle.std.specs.Prelude.{slice_get, slice_set}
use Rattle.std.specs.Option.{option_map, option_map_or}
use Rattle.std.proofs.lemmas.List.{length-map, map-set}
use Rattle.std.proofs.lemmas.Option.{slice_get_read, slice_get-map}
use Rattle.plant_words.specs.declared.line_fault.LineFault.{LineFault}
use Rattle.plant_text.specs.Fault.{of_line}
use Rattle.plant_words.specs.Reading.{◌>>=◌}
use Rattle.plant_text.specs.Rows.{told, with_last, last_changed}
use Rattle.plant_text.specs.declared.fault.Fault.TheVariants.{Misplaced}

-- what is shown of the last one of a list
last_shown : {X A : Type 0} (shown : X → A) (list : List X) (count : ℕ) (last : X) → count ≡ length list → 0 < length list → last ≡ get_or list (count - 1) last → slice_get (map shown list) (length (map shown list) - 1) ≡ Some (shown last)
last_shown shown list count last counted some read =
    let place : length (map shown list) - 1 ≡ count - 1 = ap (λ n. n - 1) (length-map list shown ∙ sym counted) in
    let inside : count - 1 < length list = omega arith in
    ap (slice_get (map shown list)) place ∙ slice_get-map shown list (count - 1) ∙ ap (option_map shown) (slice_get_read list (length list) (count - 1) last refl inside read)

-- the last one of a list becomes another by a row, and so it does in the list of what is shown of each
pub last_changed_of : {X A : Type 0} (shown : X → A) (row : A → Result A LineFault) (list : List X) (count : ℕ) (last changed : X) → count ≡ length list → 0 < length list → last ≡ get_or list (count - 1) last → row (shown last) ≡ Ok (shown changed) → last_changed row (map shown list) ≡ Ok (map shown (slice_set list (count - 1) changed))
last_changed_of shown row list count last changed counted some read changes =
    let place : length (map shown list) - 1 ≡ count - 1 = ap (λ n. n - 1) (length-map list shown ∙ sym counted) in
    let kept : with_last (map shown list) (shown changed) ≡ map shown (slice_set list (count - 1) changed) =
    ap (λ n. slice_set (map shown list) n (shown changed)) place ∙ sym (map-set shown list (count - 1) changed) in
    ap (λ there. option_map_or (λ x. told (row x) >>= λ y. Ok (with_last (map shown list) y)) there (Err Misplaced)) (last_shown shown list count last counted some read) ∙
    ap (λ r. told r >>= λ y. Ok (with_last (map shown list) y)) changes ∙ ap Ok kept

-- the fault of a row at the last one of a list is that of the list
pub last_refused_of : {X A : Type 0} (shown : X → A) (row : A → Result A LineFault) (list : List X) (count : ℕ) (last : X) (fault : LineFault) → count ≡ length list → 0 < length list → last ≡ get_or list (count - 1) last → row (shown last) ≡ Err fault → last_changed row (map shown list) ≡ Err (of_line fault)
last_refused_of shown row list count last fault counted some read refuses =
    ap (λ there. option_map_or (λ x. told (row x) >>= λ y. Ok (with_last (map shown list) y)) there (Err Misplaced)) (last_shown shown list count last counted some read) ∙
    ap (λ r. told r >>= λ y. Ok (with_last (map shown list) y)) refuses
