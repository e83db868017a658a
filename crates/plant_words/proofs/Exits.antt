-- What a function says of its result where a step of it had a fault, and what the steps before it were. The faults are those of a
-- line or of a whole text.
use Rattle.std.proofs.Common.{◌≡◌, ◌≢◌, ◌∙◌, refl, sym, ap, arith, ℕ, ◌+◌, ◌<◌, ◌≤◌, Bool, true, false, not, List, [], ◌∷◌, ◌++◌, length, map, Option, Some, None, Result, Ok, Err}
use Rattle.std.specs.Prelude.{nat_lt, is_none, OnErr, IfErr}
use Rattle.std.specs.Option.{is_some}
use Rattle.std.specs.Result.{IsErrAnd}
use Rattle.std.proofs.Math.ListN.{length-map}
use Rattle.std.proofs.lemmas.List.{length-append}
use Rattle.plant_words.specs.Reading.{◌>>=◌, check}

-- a step that had a fault ends what is read
pub fails : {A B F : Type 0} {first : Result A F} {fault : F} (next : A → Result B F) → first ≡ Err fault → (first >>= next) ≡ Err fault
fails next is = ap (λ step. step >>= next) is

-- a step that had none leads to the next
pub passes : {A B F : Type 0} {first : Result A F} {x : A} {last : Result B F} (next : A → Result B F) → first ≡ Ok x → next x ≡ last → (first >>= next) ≡ last
passes next is rest = ap (λ step. step >>= next) is ∙ rest

-- the fault that leaves a function is the one of what was read, unless it is that memory ran out
pub found_fault : {A B F : Type 0} (memory : F) (read : Result A F) (result : Result B F) (fault : F) → IsErrAnd result (λ told. told ≡ fault) → (fault ≢ memory → read ≡ Err fault) → IfErr result (λ told. told ≢ memory → read ≡ Err told)
found_fault memory read (Ok x) fault left is = tt
found_fault memory read (Err told) fault left is = λ other. is (λ wants. other (left ∙ wants)) ∙ ap Err (sym left)

-- want of memory is the fault of nothing that was read
pub found_memory : {A B F : Type 0} (memory : F) (read : Result A F) (result : Result B F) → IsErrAnd result (λ told. told ≡ memory) → IfErr result (λ told. told ≢ memory → read ≡ Err told)
found_memory memory read (Ok x) left = tt
found_memory memory read (Err told) left = λ other. absurd (other left)

-- what holds in any case holds at a fault
pub at_fault : {A F P : Type 0} (result : Result A F) → P → OnErr result P
at_fault (Ok x) holds = tt
at_fault (Err fault) holds = holds

-- whether one more part may come
pub room_for : {A B F : Type 0} (list : List A) (part : A → B) (limit count : ℕ) (full : F) (end : Result (Unit {0}) F) → count ≡ length list → end ≡ check (nat_lt count limit) full → check (nat_lt (length (map part list)) limit) full ≡ end
room_for list part limit count full end counted is = ap (λ n. check (nat_lt n limit) full) (length-map list part ∙ sym counted) ∙ sym is

-- no more than a bound, if there was room for one
pub room_for_one : {X : Type 0} (bound : ℕ) (xs : List X) (x : X) → length xs < bound → length (xs ++ x ∷ []) ≤ bound
room_for_one bound xs x room = let more : length (xs ++ x ∷ []) ≡ length xs + 1 = length-append xs (x ∷ []) in omega (arith, more, room)

none_from : {N : Type 0} (found : Option N) (none : Bool) → is_some found ≡ not none → is_none found ≡ none
none_from None true is = refl
none_from None false is = sym is
none_from (Some n) true is = sym is
none_from (Some n) false is = refl

-- whether a name is new
pub new_name : {N F : Type 0} (find : List ℕ → Option N) (name bytes : List ℕ) (found : Option N) (none : Bool) (twice : F) (end : Result (Unit {0}) F) →
    bytes ≡ name → found ≡ find bytes → is_some found ≡ not none → end ≡ check none twice → check (is_none (find name)) twice ≡ end
new_name find name bytes found none twice end same looked is told =
    ap (λ b. check b twice) (ap (λ text. is_none (find text)) (sym same) ∙ ap is_none (sym looked) ∙ none_from found none is) ∙ sym told
