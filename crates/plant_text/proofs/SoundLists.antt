-- Lists to which lines add one at the end, or whose last they change, and the steps of a line without a fault.
use Rattle.std.proofs.Common.{◌≡◌, ◌∙◌, refl, sym, ap, subst, ℕ, suc, ◌+◌, ◌-◌, arith, Bool, true, List, [], ◌∷◌, ◌++◌, append-nil, append_assoc, length, map, take, Option, Some, None, Result, Ok, Err}
use Rattle.std.specs.Prelude.{slice_get, slice_set, is_none}
use Rattle.std.specs.List.{list_all}
use Rattle.std.specs.Option.{option_map_or}
use Rattle.std.proofs.lemmas.Bool.{and_from}
use Rattle.std.proofs.lemmas.List.{length-append, map-append}
use Rattle.std.proofs.Math.Seq.{set-append_seam, take-append_seam}
use Rattle.plant_model.specs.Rules.{first_of, first_fault_in}
use Rattle.plant_words.specs.declared.line_fault.LineFault.{LineFault}
use Rattle.plant_words.specs.Reading.{◌>>=◌}
use Rattle.plant_words.proofs.Steps.{led_on, same_end}
use Rattle.plant_text.specs.Rows.{told, with_last, last_changed}
use Rattle.plant_text.specs.declared.fault.Fault.{Fault}
use Rattle.plant_text.specs.declared.fault.Fault.TheVariants.{Misplaced}

-- ---- steps

-- a value that was not there
pub was_none : {A : Type 0} (o : Option A) → is_none o ≡ true → o ≡ None
was_none None told = refl
was_none (Some x) told = absurd (cc)

-- what words of a part had no fault
pub was_found : {A : Type 0} (r : Result A LineFault) (x : A) → told r ≡ Ok x → r ≡ Ok x
was_found (Ok y) x is = cc
was_found (Err fault) x is = absurd (cc)

-- ---- the last of a list

-- a list whose last became another by a row
pub record ChangedLast {A : Type 0} (row : A → Result A LineFault) (list next : List A) : Type 0 where
  pub front : List A
  pub last : A
  pub changed : A
  pub before : list ≡ front ++ last ∷ []
  pub after : next ≡ front ++ changed ∷ []
  pub by : row last ≡ Ok changed

-- the last one, and those before it
abbrev HasLast : {A : Type 0} → List A → Type 0
HasLast {A = A} list = (front : List A) × (last : A) × (list ≡ front ++ last ∷ [])

has_last : {A : Type 0} (x : A) (xs : List A) → HasLast (x ∷ xs)
has_last x [] = ([], x, refl)
has_last x (y ∷ ys) = let rest = has_last y ys in (x ∷ rest.0, rest.1, ap (λ zs. x ∷ zs) rest.2)

get-seam : {A : Type 0} (front : List A) (last : A) → slice_get (front ++ last ∷ []) (length front) ≡ Some last
get-seam [] last = refl
get-seam (x ∷ front) last = get-seam front last

last_place : {A : Type 0} (front : List A) (last : A) → length (front ++ last ∷ []) - 1 ≡ length front
last_place front last = let more : length (front ++ last ∷ []) ≡ length front + 1 = length-append front (last ∷ []) in omega (arith, more)

changed_of : {A : Type 0} (row : A → Result A LineFault) (front : List A) (last : A) (next : List A) →
    last_changed row (front ++ last ∷ []) ≡ Ok next → ChangedLast row (front ++ last ∷ []) next
changed_of {A = A} row front last next is =
    let list : List A = front ++ last ∷ [] in
    let made : A → Result (List A) Fault = λ changed. Ok (with_last list changed) in
    let found : slice_get list (length list - 1) ≡ Some last = ap (slice_get list) (last_place front last) ∙ get-seam front last in
    let by : (told (row last) >>= made) ≡ Ok next = sym (ap (λ o. option_map_or (λ x. told (row x) >>= made) o (Err Misplaced)) found) ∙ is in
    let changed = led_on (told (row last)) made next by in
    let end : with_last list changed.0 ≡ next = same_end (with_last list changed.0) next changed.2 in
    record {
      front = front;
      last = last;
      changed = changed.0;
      before = refl;
      after = sym end ∙ ap (λ n. slice_set list n changed.0) (last_place front last) ∙ set-append_seam front last [] changed.0;
      by = was_found (row last) changed.0 changed.1;
    }

pub changed_last : {A : Type 0} (row : A → Result A LineFault) (list next : List A) → last_changed row list ≡ Ok next → ChangedLast row list next
changed_last row [] next is = absurd (cc)
changed_last row (x ∷ xs) next is =
    let split = has_last x xs in
    subst (λ list. ChangedLast row list next) (sym split.2) (changed_of row split.0 split.1 next (subst (λ list. last_changed row list ≡ Ok next) split.2 is))

-- ---- what holds of each by those before it

-- something holds of each element and of those before it, where these are before them all
pub EachAfter : {X : Type 0} → (List X → X → Type 0) → List X → List X → Type 0
EachAfter P before [] = Unit {0}
EachAfter P before (x ∷ xs) = P before x × EachAfter P (before ++ x ∷ []) xs

-- it holds of no elements
pub each_of_none : {X : Type 0} (P : List X → X → Type 0) (before : List X) → EachAfter P before []
unfolding EachAfter
each_of_none P before = tt

-- it holds of the elements and one more
pub each_and_one : {X : Type 0} (P : List X → X → Type 0) (before xs : List X) (y : X) → EachAfter P before xs →
    P (before ++ xs) y → EachAfter P before (xs ++ y ∷ [])
unfolding EachAfter
each_and_one P before [] y each one = (subst (λ b. P b y) (append-nil before) one, tt)
each_and_one P before (x ∷ xs) y each one =
    (each.0, each_and_one P (before ++ x ∷ []) xs y each.1 (subst (λ b. P b y) (sym (append_assoc before (x ∷ []) xs)) one))

-- it holds of those before the last, and of the last
pub each_before_last : {X : Type 0} (P : List X → X → Type 0) (before xs : List X) (y : X) → EachAfter P before (xs ++ y ∷ []) →
    EachAfter P before xs × P (before ++ xs) y
unfolding EachAfter
each_before_last P before [] y each = (tt, subst (λ b. P b y) (sym (append-nil before)) each.0)
each_before_last P before (x ∷ xs) y each =
    let rest = each_before_last P (before ++ x ∷ []) xs y each.1 in
    ((each.0, rest.0), subst (λ b. P b y) (append_assoc before (x ∷ []) xs) rest.1)

-- what is weaker holds too
pub each_weaker : {X : Type 0} (P Q : List X → X → Type 0) → ((before : List X) (x : X) → P before x → Q before x) →
    (before xs : List X) → EachAfter P before xs → EachAfter Q before xs
unfolding EachAfter
each_weaker P Q weaker before [] each = tt
each_weaker P Q weaker before (x ∷ xs) each = (weaker before x each.0, each_weaker P Q weaker (before ++ x ∷ []) xs each.1)

-- a test that each passes of which it holds
pub each_passes : {X : Type 0} (P : List X → X → Type 0) (test : X → Bool) →
    ((before : List X) (x : X) → P before x → test x ≡ true) → (before xs : List X) → EachAfter P before xs → list_all test xs ≡ true
unfolding EachAfter
each_passes P test passes before [] each = refl
each_passes P test passes before (x ∷ xs) each = and_from _ _ (passes before x each.0) (each_passes P test passes (before ++ x ∷ []) xs each.1)

-- it holds of what a function makes of each
pub each_mapped : {X Y : Type 0} (P : List Y → Y → Type 0) (v : X → Y) (before xs : List X) →
    EachAfter P (map v before) (map v xs) → EachAfter (λ b x. P (map v b) (v x)) before xs
unfolding EachAfter
each_mapped P v before [] each = tt
each_mapped P v before (x ∷ xs) each =
    (each.0, each_mapped P v (before ++ x ∷ []) xs (subst (λ b. EachAfter P b (map v xs)) (sym (map-append v before (x ∷ []))) each.1))

-- if something holds of each by those before it that lets it find nothing, nothing is found
pub none_told : {X F : Type 0} (tell : ℕ → X → Option F) (P : List X → X → Type 0) (all : List X) →
    ((n : ℕ) (x : X) → P (take n all) x → tell n x ≡ None) →
    (before xs : List X) → before ++ xs ≡ all → EachAfter P before xs → first_fault_in tell (length before) xs ≡ None
unfolding EachAfter
none_told tell P all none before [] is each = refl
none_told tell P all none before (x ∷ xs) is each =
    let taken : take (length before) all ≡ before = ap (take (length before)) (sym is) ∙ take-append_seam before (x ∷ xs) in
    let here : tell (length before) x ≡ None = none (length before) x (subst (λ b. P b x) (sym taken) each.0) in
    let longer : length (before ++ x ∷ []) ≡ length before + 1 = length-append before (x ∷ []) in
    let next : suc (length before) ≡ length (before ++ x ∷ []) = omega (arith, longer) in
    ap (λ o. first_of o (first_fault_in tell (suc (length before)) xs)) here ∙
    ap (λ n. first_fault_in tell n xs) next ∙
    none_told tell P all none (before ++ x ∷ []) xs (append_assoc before (x ∷ []) xs ∙ is) each.1
