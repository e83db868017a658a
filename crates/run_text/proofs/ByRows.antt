-- What is said by the rows that a firing delivered is what is said of the choice that was fired.
use Rattle.std.proofs.Common.{◌≡◌, ℕ, suc, ◌+◌, ◌<◌, ◌∙◌, ap, refl, subst, sym, arith, List, [], ◌∷◌, ◌++◌, map, drop, get_or, length}
use Rattle.std.specs.Prelude.{Option, Some, flat_map, slice_get}
use Rattle.std.specs.Io.KnownBytes.{Appends}
use Rattle.std.proofs.lemmas.List.{get_or_default}
use Rattle.std.proofs.lemmas.Option.{get_or_from_slice_get}
use Rattle.petri_atom.specs.Local.{Local, Row}
use Rattle.plant_model.specs.Plant.{PlantDefinition}
use Rattle.plant_model.specs.Choice.{ChoiceDefinition}
use Rattle.plant_model.specs.Chosen.{choice_of}
use Rattle.plant_model.specs.Delivery.{IsDelivered}
use Rattle.plant_model.specs.Step.{transfer}
use Rattle.plant_model.specs.declared.choice.Move.{Move}
use Rattle.text_io.specs.Numbered.{numbered}
use Rattle.text_io.proofs.Leading.{Leads}
use Rattle.text_io.specs.declared.format.Format.{Format}
use Rattle.text_io.specs.declared.format.Format.TheVariants.{Lines, Csv, Jsonl}
use Rattle.run_text.specs.Alone.{alone}
use Rattle.run_text.specs.Csv.{fired_row, participant_words}
use Rattle.run_text.specs.Format.{step_text}
use Rattle.run_text.specs.Jsonl.{fired_object, move_object, participant_object}
use Rattle.run_text.specs.ByRows.{said_each, objects_by_rows, step_by_rows}
use Rattle.run_text.specs.Word.{after_words, separated_after}
use Rattle.run_text.specs.declared.fired.Firing.{Firing}
use Rattle.run_text.proofs.Separating.{leads-numbered}

-- where each element is said by its number as it is said by itself, all are
numbered-each : {X Y : Type 0} (say : ℕ → X → List Y) (words : X → List Y) (n : ℕ) (xs : List X)
    → ((k : ℕ) (x : X) → slice_get xs k ≡ Some x → say (k + n) x ≡ words x) → numbered say n xs ≡ flat_map words xs
numbered-each say words n [] same = refl
numbered-each say words n (x ∷ xs) same =
    let next : (k : ℕ) → suc k + n ≡ k + (n + 1) = λ k. omega arith in
    let none : 0 + n ≡ n = omega arith in
    ap (λ text. text ++ numbered say (n + 1) xs) (subst (λ k. say k x ≡ words x) none (same 0 x refl)) ∙
    ap (λ text. words x ++ text) (numbered-each say words (n + 1) xs (λ k y there. subst (λ i. say i y ≡ words y) (next k) (same (suc k) y there)))

-- one word for each element
flat-single : {X Y : Type 0} (say : X → Y) (xs : List X) → flat_map (λ x. say x ∷ []) xs ≡ map say xs
flat-single say [] = refl
flat-single say (x ∷ xs) = ap (λ words. say x ∷ words) (flat-single say xs)

-- each move is said with what its atom got
each-by-rows : (say : Move → Row → List (List ℕ)) (moves : List Move) (delivered : ℕ → Row) (rows : List Row)
    → IsDelivered moves delivered rows → said_each say rows moves ≡ flat_map (λ m. say m (delivered m.atom)) moves
each-by-rows say moves delivered rows rows_are =
    numbered-each (λ place m. say m (get_or rows place [])) (λ m. say m (delivered m.atom)) 0 moves
    (λ k m there. subst (λ place. say m (get_or rows place []) ≡ say m (delivered m.atom)) (let e : k ≡ k + 0 = omega arith in e)
    (ap (say m) (get_or_from_slice_get rows k (delivered m.atom) [] (rows_are k m there))))

-- the objects by the rows are those of the participants
pub objects-by-rows : (plant : PlantDefinition) (states : List Local) (c : ChoiceDefinition) (rows : List Row)
    → IsDelivered c.moves (transfer plant states (alone c)) rows → objects_by_rows plant rows c.moves ≡ map (participant_object plant states c) c.moves
objects-by-rows plant states c rows rows_are =
    each-by-rows (λ m d. move_object plant m d ∷ []) c.moves (transfer plant states (alone c)) rows rows_are ∙ flat-single (participant_object plant states c) c.moves

-- the line that is printed by the rows is the line of the choice
pub step-by-rows : (format : Format) (plant : PlantDefinition) (states : List Local) (f : Firing)
    → IsDelivered f.choice.now.moves (transfer plant states (alone (choice_of f.choice.now))) f.delivered.now
    → step_by_rows format plant f ≡ step_text format plant states f.number (choice_of f.choice.now)
step-by-rows Lines plant states f rows_are = refl
step-by-rows Csv plant states f rows_are =
    let c = choice_of f.choice.now in
    ap (fired_row plant f.number c) (each-by-rows (participant_words plant) c.moves (transfer plant states (alone c)) f.delivered.now rows_are)
step-by-rows Jsonl plant states f rows_are =
    let c = choice_of f.choice.now in
    ap (fired_object plant f.number c) (objects-by-rows plant states c f.delivered.now rows_are)

-- atom 0 and its transition 0
abbrev pub no_move : Move
no_move = record { atom = 0; transition = 0 }

-- what is said of the next move, whose row is this, is printed, and what is said of those after it is left
pub leads-move : (say : Move → Row → List (List ℕ)) (rows : List Row) (moves : List Move) (k : ℕ) (row : Row) (before between : List ℕ) (start now next : Option (List ℕ)) (all : List ℕ)
    → k < length moves → k < length rows → row ≡ get_or rows k row
    → Leads start now (separated_after before between (numbered (λ place m. say m (get_or rows place [])) k (drop k moves))) all
    → Appends now next (separated_after before between (say (get_or moves k no_move) row))
    → Leads start next
    (separated_after (after_words before between (say (get_or moves k no_move) row)) between (numbered (λ place m. say m (get_or rows place [])) (k + 1) (drop (k + 1) moves))) all
leads-move say rows moves k row before between start now next all within row_within row_is left shown =
    let m = get_or moves k no_move in
    let words : ℕ → Move → List (List ℕ) = λ (place : ℕ) (m : Move). say m (get_or rows place []) in
    let same : say m row ≡ words k m = ap (say m) (row_is ∙ get_or_default rows k row [] row_within) in
    subst (λ ws. Leads start next (separated_after (after_words before between ws) between (numbered words (k + 1) (drop (k + 1) moves))) all) (sym same)
    (leads-numbered words moves k m before between start now next all within (get_or_default moves k no_move m within) left
    (subst (λ ws. Appends now next (separated_after before between ws)) same shown))
