-- Printing step by step what a text has left.
use Rattle.std.proofs.Common.{◌≡◌, ℕ, ◌+◌, ◌<◌, ◌∙◌, sym, ap, subst, List, ◌++◌, length, drop, get_or}
use Rattle.std.specs.Prelude.{Option, Result, Ok, Err, OnOk}
use Rattle.std.specs.Io.KnownBytes.{Appends}
use Rattle.std.proofs.KnownBytes.{Appends-trans}
use Rattle.std.proofs.lemmas.List.{drop_more}
use Rattle.text_io.specs.Numbered.{numbered}

-- a writer that goes on to take what is left of a text has taken all of it
pub record Leads (start now : Option (List ℕ)) (left all : List ℕ) : Type 0 where
  pub by : (later : Option (List ℕ)) → Appends now later left → Appends start later all

-- a piece is printed
pub leads-more : (start now next : Option (List ℕ)) (piece left all : List ℕ) → Leads start now (piece ++ left) all → Appends now next piece → Leads start next left all
leads-more start now next piece left all l p = record { by = λ later h. l.by later (Appends-trans now next later piece left p h) }

-- the same text is left, written in another way
pub leads-same : {start now : Option (List ℕ)} {left other all : List ℕ} → Leads start now left all → left ≡ other → Leads start now other all
leads-same {start} {now} {left} {other} {all} l e = subst (λ text. Leads start now text all) e l

-- of numbered elements the first that is left is said next
pub numbered-left : {X Y : Type 0} (say : ℕ → X → List Y) (xs : List X) (i : ℕ) (x : X) → i < length xs → x ≡ get_or xs i x
    → numbered say i (drop i xs) ≡ say i x ++ numbered say (i + 1) (drop (i + 1) xs)
numbered-left say xs i x within here =
    ap (numbered say i) (drop_more xs i x within) ∙ ap (λ y. say i y ++ numbered say (i + 1) (drop (i + 1) xs)) (sym here)

-- a numbered element is printed
pub leads-element : {X : Type 0} (say : ℕ → X → List ℕ) (xs : List X) (i : ℕ) (x : X) (start now next : Option (List ℕ)) (all : List ℕ)
    → i < length xs → x ≡ get_or xs i x → Leads start now (numbered say i (drop i xs)) all → Appends now next (say i x)
    → Leads start next (numbered say (i + 1) (drop (i + 1) xs)) all
leads-element say xs i x start now next all within here l p = leads-more _ _ _ _ _ _ (leads-same l (numbered-left say xs i x within here)) p

-- a text is printed, and after it what the last call prints
pub printed-last : {T E : Type 0} (result : Result T E) (start now after : Option (List ℕ)) (text last : List ℕ)
    → Appends start now text → OnOk result (Appends now after last) → OnOk result (Appends start after (text ++ last))
printed-last (Err fault) start now after text last begins ends = tt
printed-last (Ok done) start now after text last begins ends = Appends-trans start now after text last begins ends

-- all of a text is printed where the last call prints what is left of it
pub printed-left : {T E : Type 0} (result : Result T E) (start now after : Option (List ℕ)) (left all : List ℕ)
    → Leads start now left all → OnOk result (Appends now after left) → OnOk result (Appends start after all)
printed-left (Err fault) start now after left all l ends = tt
printed-left (Ok done) start now after left all l ends = l.by after ends
