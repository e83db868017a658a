-- Words that are printed one after another, with lines broken between them.
use Rattle.std.proofs.Common.{◌≡◌, ℕ, ◌∙◌, refl, ap, sym, subst, List, [], ◌∷◌, ◌++◌, length, append_assoc, append-nil}
use Rattle.std.specs.Prelude.{Option, Result, Ok, Err, IfOk}
use Rattle.std.specs.Io.KnownBytes.{Appends}
use Rattle.std.proofs.KnownBytes.{Appends-nil, Appends-trans}
use Rattle.plant_drawing.specs.Wrapped.{Wraps, fits, gap, left_after, left_past, wrapped}

-- words and further ones are printed as the words, and then the further ones after them
pub wrapped-append : (left : ℕ) (ws vs : List (List ℕ)) → wrapped left (ws ++ vs) ≡ wrapped left ws ++ wrapped (left_after left ws) vs
wrapped-append left [] vs = refl
wrapped-append left (w ∷ ws) vs =
    let begun = gap (fits left (length w)) ++ w in
    let room = left_past left (length w) in
    ap (λ text. begun ++ text) (wrapped-append room ws vs)
    ∙ sym (append_assoc begun (wrapped room ws) (wrapped (left_after room ws) vs))

pub left_after-append : (left : ℕ) (ws vs : List (List ℕ)) → left_after left (ws ++ vs) ≡ left_after (left_after left ws) vs
left_after-append left [] vs = refl
left_after-append left (w ∷ ws) vs = left_after-append (left_past left (length w)) ws vs

-- no word is printed
pub wraps-none : (left : ℕ) (a : Option (List ℕ)) → Wraps left [] a a left
wraps-none left a = record { text = Appends-nil a; room = refl }

-- a word is printed after its gap
pub wraps-word : (left : ℕ) (word : List ℕ) (a b c : Option (List ℕ)) (now : ℕ) → Appends a b (gap (fits left (length word))) → now ≡ left_past left (length word) → Appends b c word
    → Wraps left (word ∷ []) a c now
wraps-word left word a b c now begins room ends = record {
  text = subst (Appends a c) (sym (append-nil (gap (fits left (length word)) ++ word))) (Appends-trans a b c (gap (fits left (length word))) word begins ends);
  room = room;
}

-- words are printed, and further ones after them
pub wraps-then : (left between now : ℕ) (ws vs : List (List ℕ)) (a b c : Option (List ℕ)) → Wraps left ws a b between → Wraps between vs b c now → Wraps left (ws ++ vs) a c now
wraps-then left between now ws vs a b c first second = record {
  text = subst (Appends a c) (sym (wrapped-append left ws vs))
      (Appends-trans a b c (wrapped left ws) (wrapped (left_after left ws) vs) first.text (subst (λ l. Appends b c (wrapped l vs)) first.room second.text));
  room = second.room ∙ ap (λ l. left_after l vs) first.room ∙ sym (left_after-append left ws vs);
}

-- the same where the last call may fail
pub wraps-last : {E : Type 0} (left between : ℕ) (result : Result ℕ E) (ws vs : List (List ℕ)) (a b c : Option (List ℕ)) → Wraps left ws a b between → IfOk result (Wraps between vs b c) → IfOk result (Wraps left (ws ++ vs) a c)
wraps-last left between (Err fault) ws vs a b c first second = tt
wraps-last left between (Ok now) ws vs a b c first second = wraps-then left between now ws vs a b c first second

-- a writer that goes on to take the words that are left has taken all of them
pub record WrapsOn (start now : Option (List ℕ)) (first left : ℕ) (rest all : List (List ℕ)) : Type 0 where
  pub by : (later : Option (List ℕ)) (end : ℕ) → Wraps left rest now later end → Wraps first all start later end

-- some of them are printed
pub wraps-more : (start now next : Option (List ℕ)) (first left between : ℕ) (piece rest all : List (List ℕ)) → WrapsOn start now first left (piece ++ rest) all → Wraps left piece now next between → WrapsOn start next first between rest all
wraps-more start now next first left between piece rest all l p =
    record { by = λ later end w. l.by later end (wraps-then left between end piece rest now next later p w) }

-- the same words are left, written in another way
pub wraps-same : {start now : Option (List ℕ)} {first left : ℕ} {rest other all : List (List ℕ)} → WrapsOn start now first left rest all → rest ≡ other → WrapsOn start now first left other all
wraps-same {start} {now} {first} {left} {rest} {other} {all} l e = subst (λ words. WrapsOn start now first left words all) e l
