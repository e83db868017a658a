-- Words with a text between two.
use Rattle.std.proofs.Common.{◌≡◌, ℕ, ◌+◌, ◌<◌, ◌∙◌, ap, refl, sym, List, [], ◌∷◌, ◌++◌, map, length, drop, get_or, append_assoc}
use Rattle.std.specs.Prelude.{Option, flat_map}
use Rattle.std.specs.Io.KnownBytes.{Appends}
use Rattle.text_io.specs.Numbered.{numbered}
use Rattle.text_io.proofs.Leading.{Leads, leads-more, leads-same, numbered-left}
use Rattle.run_text.specs.Word.{after_words, separated_after}

-- where the same stands before the first word and between two, it stands before the next
pub after-same : (between : List ℕ) (words : List (List ℕ)) → after_words between between words ≡ between
after-same between [] = refl
after-same between (word ∷ words) = refl

-- words and then others
pub separated-append : (before between : List ℕ) (xs ys : List (List ℕ))
    → separated_after before between (xs ++ ys) ≡ separated_after before between xs ++ separated_after (after_words before between xs) between ys
separated-append before between [] ys = refl
separated-append before between (x ∷ xs) ys =
    ap (λ text. before ++ x ++ text) (separated-append between between xs ys) ∙
    ap (λ b. before ++ x ++ (separated_after between between xs ++ separated_after b between ys)) (after-same between xs) ∙
    sym (append_assoc (before ++ x) (separated_after between between xs) (separated_after between between ys))

-- what stands before the next one, after words and then others
pub after-append : (before between : List ℕ) (xs ys : List (List ℕ))
    → after_words before between (xs ++ ys) ≡ after_words (after_words before between xs) between ys
after-append before between [] ys = refl
after-append before between (x ∷ xs) ys = sym (after-same between ys)

-- words with the same before each
pub separated-each : {X : Type 0} (before : List ℕ) (say : X → List ℕ) (xs : List X) → separated_after before before (map say xs) ≡ flat_map (λ x. before ++ say x) xs
separated-each before say [] = refl
separated-each before say (x ∷ xs) = ap (λ text. before ++ say x ++ text) (separated-each before say xs)

-- the same of numbered words
pub separated-numbered : {X : Type 0} (before : List ℕ) (say : ℕ → X → List ℕ) (n : ℕ) (xs : List X)
    → separated_after before before (numbered (λ k x. say k x ∷ []) n xs) ≡ numbered (λ k x. before ++ say k x) n xs
separated-numbered before say n [] = refl
separated-numbered before say n (x ∷ xs) = ap (λ text. before ++ say n x ++ text) (separated-numbered before say (n + 1) xs)

-- the words of a numbered element are printed, and those of the elements after it are left
pub leads-numbered : {X : Type 0} (words : ℕ → X → List (List ℕ)) (xs : List X) (i : ℕ) (x : X) (before between : List ℕ) (start now next : Option (List ℕ)) (all : List ℕ)
    → i < length xs → x ≡ get_or xs i x → Leads start now (separated_after before between (numbered words i (drop i xs))) all
    → Appends now next (separated_after before between (words i x))
    → Leads start next (separated_after (after_words before between (words i x)) between (numbered words (i + 1) (drop (i + 1) xs))) all
leads-numbered words xs i x before between start now next all within here l p =
    leads-more _ _ _ _ _ _ (leads-same l (ap (separated_after before between) (numbered-left words xs i x within here) ∙ separated-append before between (words i x) _)) p

-- what stands before the next word, after those of a numbered element
pub after-numbered : {X : Type 0} (words : ℕ → X → List (List ℕ)) (xs : List X) (i : ℕ) (x : X) (before between : List ℕ)
    → i < length xs → x ≡ get_or xs i x
    → after_words (after_words before between (words i x)) between (numbered words (i + 1) (drop (i + 1) xs)) ≡ after_words before between (numbered words i (drop i xs))
after-numbered words xs i x before between within here =
    sym (ap (after_words before between) (numbered-left words xs i x within here) ∙ after-append before between (words i x) _)
