-- Words with a text between two.
use Rattle.std.proofs.Common.{◌≡◌, ℕ, ◌+◌, ◌<◌, ◌∙◌, ap, refl, sym, subst, zero, suc, arith, append-nil, List, [], ◌∷◌, ◌++◌, length, drop, get_or, append_assoc}
use Rattle.std.specs.Prelude.{Option, None, flat_map, slice_get}
use Rattle.std.specs.List.{range_with_len}
use Rattle.std.proofs.KnownBytes.{Appends-nil}
use Rattle.std.proofs.lemmas.Option.{none-some}
use Rattle.std.specs.Io.KnownBytes.{Appends}
use Rattle.text_io.specs.Numbered.{numbered}
use Rattle.text_io.proofs.Leading.{Leads, leads-more, leads-same, numbered-left}
use Rattle.blocked_text.specs.Separated.{after_words, separated_after}

-- where the same stands before the first word and between two, it stands before the next
after-same : (between : List ℕ) (words : List (List ℕ)) → after_words between between words ≡ between
after-same between [] = refl
after-same between (word ∷ words) = refl

-- words and then others
separated-append : (before between : List ℕ) (xs ys : List (List ℕ))
    → separated_after before between (xs ++ ys) ≡ separated_after before between xs ++ separated_after (after_words before between xs) between ys
separated-append before between [] ys = refl
separated-append before between (x ∷ xs) ys =
    ap (λ text. before ++ x ++ text) (separated-append between between xs ys) ∙
    ap (λ b. before ++ x ++ (separated_after between between xs ++ separated_after b between ys)) (after-same between xs) ∙
    sym (append_assoc (before ++ x) (separated_after between between xs) (separated_after between between ys))

-- the words of a numbered element are printed, and those of the elements after it are left
pub leads-numbered : {X : Type 0} (words : ℕ → X → List (List ℕ)) (xs : List X) (i : ℕ) (x : X) (before between : List ℕ) (start now next : Option (List ℕ)) (all : List ℕ)
    → i < length xs → x ≡ get_or xs i x → Leads start now (separated_after before between (numbered words i (drop i xs))) all
    → Appends now next (separated_after before between (words i x))
    → Leads start next (separated_after (after_words before between (words i x)) between (numbered words (i + 1) (drop (i + 1) xs))) all
leads-numbered words xs i x before between start now next all within here l p =
    leads-more _ _ _ _ _ _ (leads-same l (ap (separated_after before between) (numbered-left words xs i x within here) ∙ separated-append before between (words i x) _)) p

-- if no text is left, all of it is printed
pub printed-all : (start now : Option (List ℕ)) (left all : List ℕ) → Leads start now left all → left ≡ [] → Appends start now all
printed-all start now left all l none = l.by now (subst (Appends now now) (sym none) (Appends-nil now))

-- none is left of a list from a place on if it has no entry
pub none-left : {X : Type 0} (xs : List X) (k : ℕ) → slice_get xs k ≡ None → drop k xs ≡ []
none-left [] zero none = refl
none-left [] (suc k) none = refl
none-left (x ∷ xs) zero none = absurd (none-some x (sym none))
none-left (x ∷ xs) (suc k) none = none-left xs k none

-- ---- what is said of numbers one after another

-- of one more number
pub said-more : {X : Type 0} (say : ℕ → List X) (n : ℕ) → flat_map say (range_with_len 0 (n + 1)) ≡ flat_map say (range_with_len 0 n) ++ say n
said-more say n =
    ap (λ k. flat_map say (range_with_len 0 k)) (let e : n + 1 ≡ suc n = omega arith in e) ∙ from 0 n ∙
    ap (λ k. flat_map say (range_with_len 0 n) ++ say k) (let e : 0 + n ≡ n = omega arith in e)
  where
    from : (a n : ℕ) → flat_map say (range_with_len a (suc n)) ≡ flat_map say (range_with_len a n) ++ say (a + n)
    from a zero = append-nil (say a) ∙ ap say (let e : a ≡ a + 0 = omega arith in e)
    from a (suc n) =
        ap (λ text. say a ++ text) (from (a + 1) n) ∙ sym (append_assoc (say a) (flat_map say (range_with_len (a + 1) n)) (say (a + 1 + n))) ∙
        ap (λ k. say a ++ flat_map say (range_with_len (a + 1) n) ++ say k) (let e : a + 1 + n ≡ a + suc n = omega arith in e)
