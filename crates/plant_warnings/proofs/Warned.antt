-- Printing the warnings of the elements of a list, one after another.
use Rattle.std.proofs.Common.{◌≡◌, ℕ, ◌+◌, ◌<◌, ◌∙◌, ap, sym, subst, Bool, List, ◌++◌, map, length, drop, get_or}
use Rattle.std.specs.Prelude.{Option, Result, OnOk, flat_map}
use Rattle.std.specs.Io.KnownBytes.{Appends}
use Rattle.std.proofs.KnownBytes.{Appends-trans}
use Rattle.std.proofs.lemmas.Grind.{flat_map-append}
use Rattle.std.proofs.lemmas.List.{drop_more, get_or-map, length-map}
use Rattle.text_io.specs.Numbered.{numbered}
use Rattle.text_io.proofs.Leading.{Leads, leads-more, leads-same, numbered-left, printed-last}
use Rattle.plant_warnings.specs.Lines.{warned_if}
use Rattle.plant_warnings.specs.declared.warning.Warning.{Warning}

-- a warning is printed if it applies, by a test that is the same
pub warned-if : (say : Warning → List ℕ) (now next : Option (List ℕ)) (applies known : Bool) (w : Warning)
    → applies ≡ known → Appends now next (flat_map say (warned_if applies w)) → Appends now next (flat_map say (warned_if known w))
warned-if say now next applies known w same printed = subst (λ b. Appends now next (flat_map say (warned_if b w))) same printed

-- the same, where the last call tells it
pub warned-if_last : {T E : Type 0} (say : Warning → List ℕ) (result : Result T E) (now next : Option (List ℕ)) (applies known : Bool) (w : Warning)
    → applies ≡ known → OnOk result (Appends now next (flat_map say (warned_if applies w))) → OnOk result (Appends now next (flat_map say (warned_if known w)))
warned-if_last say result now next applies known w same printed = subst (λ b. OnOk result (Appends now next (flat_map say (warned_if b w)))) same printed

-- two lists of warnings are printed, one after the other
pub warned-on : (say : Warning → List ℕ) (start now next : Option (List ℕ)) (xs ys : List Warning)
    → Appends start now (flat_map say xs) → Appends now next (flat_map say ys) → Appends start next (flat_map say (xs ++ ys))
warned-on say start now next xs ys first second =
    subst (Appends start next) (sym (flat_map-append say xs ys)) (Appends-trans start now next (flat_map say xs) (flat_map say ys) first second)

-- the same, where the last call tells the second
pub warned-end : {T E : Type 0} (say : Warning → List ℕ) (result : Result T E) (start now after : Option (List ℕ)) (xs ys : List Warning)
    → Appends start now (flat_map say xs) → OnOk result (Appends now after (flat_map say ys)) → OnOk result (Appends start after (flat_map say (xs ++ ys)))
warned-end say result start now after xs ys first ends =
    subst (λ text. OnOk result (Appends start after text)) (sym (flat_map-append say xs ys)) (printed-last result start now after (flat_map say xs) (flat_map say ys) first ends)

-- the warnings of a numbered element are printed, and those of the elements after it are left
pub leads-warned : {D : Type 0} (give : ℕ → D → List Warning) (say : Warning → List ℕ) (xs : List D) (i : ℕ) (x : D) (start now next : Option (List ℕ)) (all : List ℕ)
    → i < length xs → x ≡ get_or xs i x → Leads start now (flat_map say (numbered give i (drop i xs))) all → Appends now next (flat_map say (give i x))
    → Leads start next (flat_map say (numbered give (i + 1) (drop (i + 1) xs))) all
leads-warned give say xs i x start now next all within here l p =
    leads-more _ _ _ _ _ _ (leads-same l (ap (flat_map say) (numbered-left give xs i x within here) ∙ flat_map-append say (give i x) (numbered give (i + 1) (drop (i + 1) xs)))) p

-- the same of a list that is known as another
pub leads-warned_of : {D : Type 0} (give : ℕ → D → List Warning) (say : Warning → List ℕ) (xs ys : List D) (i : ℕ) (x : D) (start now next : Option (List ℕ)) (all : List ℕ)
    → xs ≡ ys → i < length xs → x ≡ get_or xs i x → Leads start now (flat_map say (numbered give i (drop i ys))) all → Appends now next (flat_map say (give i x))
    → Leads start next (flat_map say (numbered give (i + 1) (drop (i + 1) ys))) all
leads-warned_of give say xs ys i x start now next all known within here l p =
    subst (λ zs. Leads start next (flat_map say (numbered give (i + 1) (drop (i + 1) zs))) all) known
    (leads-warned give say xs i x start now next all within here (subst (λ zs. Leads start now (flat_map say (numbered give i (drop i zs))) all) (sym known) l) p)

-- the same of elements of numbers alone, of which the one that is left is written with a default
pub leads-warned_at : {D : Type 0} (give : ℕ → D → List Warning) (say : Warning → List ℕ) (xs : List D) (i : ℕ) (d : D) (start now next : Option (List ℕ)) (all : List ℕ)
    → i < length xs → Leads start now (flat_map say (numbered give i (drop i xs))) all → Appends now next (flat_map say (give i (get_or xs i d)))
    → Leads start next (flat_map say (numbered give (i + 1) (drop (i + 1) xs))) all
leads-warned_at give say xs i d start now next all within l p =
    leads-more _ _ _ _ _ _ (leads-same l (ap (flat_map say) (ap (numbered give i) (drop_more xs i d within)) ∙ flat_map-append say (give i (get_or xs i d)) (numbered give (i + 1) (drop (i + 1) xs)))) p

-- the same of elements that are seen as what a function makes of them
pub leads-warned_as : {X D : Type 0} (f : X → D) (give : ℕ → D → List Warning) (say : Warning → List ℕ) (xs : List X) (i : ℕ) (x : X) (start now next : Option (List ℕ)) (all : List ℕ)
    → i < length xs → x ≡ get_or xs i x → Leads start now (flat_map say (numbered give i (drop i (map f xs)))) all → Appends now next (flat_map say (give i (f x)))
    → Leads start next (flat_map say (numbered give (i + 1) (drop (i + 1) (map f xs)))) all
leads-warned_as f give say xs i x start now next all within here l p =
    let found : f x ≡ get_or (map f xs) i (f x) = ap f here ∙ sym (get_or-map f xs i x (f x) within) in
    leads-warned give say (map f xs) i (f x) start now next all (subst (λ n. i < n) (sym (length-map xs f)) within) found l p
