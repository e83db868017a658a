-- Texts that are cut into words: a word before a blank, words with a space before each, and what stands on both sides of a byte.
use Rattle.std.proofs.Common.{◌≡◌, ◌∙◌, refl, ap, ℕ, Bool, true, not, cond, ◌&&◌, if◌then◌else◌, List, [], ◌∷◌, ◌++◌, append-nil, map, filter, flat_map, codes, Some, None, ◌==◌, eq-eqb}
use Rattle.std.specs.List.{slice_split, onto_first, list_all}
use Rattle.std.proofs.lemmas.Bool.{and_parts, and_from, not-true, false≢true}
use Rattle.std.proofs.lemmas.List.Folds.{list_all-append}
use Rattle.std.proofs.lemmas.List.Splits.{slice_split-cons_yes, slice_split-cons_no}
use Rattle.plant_words.specs.Splits.{both_of, sides_in}
use Rattle.plant_words.specs.Words.{is_blank, is_filled, words_of}

-- ---- cuts

-- a list is cut at the first element that passes
pub cut_at : (p : ℕ → Bool) (front : List ℕ) (byte : ℕ) (rest : List ℕ) → list_all (λ b. not (p b)) front ≡ true → p byte ≡ true →
    slice_split p (front ++ byte ∷ rest) ≡ front ∷ slice_split p rest
cut_at p [] byte rest none cut = slice_split-cons_yes p byte rest cut
cut_at p (b ∷ bs) byte rest none cut =
    let parts = and_parts (not (p b)) (list_all (λ c. not (p c)) bs) none in
    slice_split-cons_no p b (bs ++ byte ∷ rest) (not-true (p b) parts.0) ∙ ap (onto_first b) (cut_at p bs byte rest parts.1 cut)

-- and not at all if none passes
pub uncut : (p : ℕ → Bool) (bytes : List ℕ) → list_all (λ b. not (p b)) bytes ≡ true → slice_split p bytes ≡ bytes ∷ []
uncut p [] none = refl
uncut p (b ∷ bs) none =
    let parts = and_parts (not (p b)) (list_all (λ c. not (p c)) bs) none in
    slice_split-cons_no p b bs (not-true (p b) parts.0) ∙ ap (onto_first b) (uncut p bs parts.1)

-- what stands on both sides of a byte that neither side has
pub two_sides : (byte : ℕ) (left right : List ℕ) → list_all (λ b. not (b == byte)) left ≡ true → list_all (λ b. not (b == byte)) right ≡ true →
    is_filled left ≡ true → is_filled right ≡ true → sides_in byte (left ++ byte ∷ right) ≡ Some (left, right)
two_sides byte left right none_left none_right some_left some_right =
    ap both_of (cut_at (λ b. b == byte) left byte right none_left (eq-eqb byte byte refl) ∙ ap (λ (parts : List (List ℕ)). left ∷ parts) (uncut (λ b. b == byte) right none_right))
    ∙ ap (λ (b : Bool). if b then Some (left, right) else None) (and_from (is_filled left) (is_filled right) some_left some_right)

-- and no sides if there is no such byte
pub no_sides : (byte : ℕ) (word : List ℕ) → list_all (λ b. not (b == byte)) word ≡ true → sides_in byte word ≡ None
no_sides byte word none = ap both_of (uncut (λ b. b == byte) word none)

-- ---- words

-- a word: there is a byte, and none of its bytes is a blank
abbrev pub is_one_word : List ℕ → Bool
is_one_word text = is_filled text && list_all (λ byte. not (is_blank byte)) text

filled_more : (text more : List ℕ) → is_filled text ≡ true → is_filled (text ++ more) ≡ true
filled_more [] more some = absurd (false≢true some)
filled_more (b ∷ bs) more some = refl

-- a word with more bytes that are no blanks is a word
pub one_word_more : (word more : List ℕ) → is_one_word word ≡ true → list_all (λ byte. not (is_blank byte)) more ≡ true → is_one_word (word ++ more) ≡ true
one_word_more word more one none =
    let parts = and_parts (is_filled word) (list_all (λ byte. not (is_blank byte)) word) one in
    and_from (is_filled (word ++ more)) (list_all (λ byte. not (is_blank byte)) (word ++ more)) (filled_more word more parts.0)
    (list_all-append (λ byte. not (is_blank byte)) word more ∙ and_from _ _ parts.1 none)

-- a word alone is the only one
pub word_alone : (word : List ℕ) → is_one_word word ≡ true → words_of word ≡ word ∷ []
word_alone word one =
    let parts = and_parts (is_filled word) (list_all (λ byte. not (is_blank byte)) word) one in
    ap (filter is_filled) (uncut is_blank word parts.1) ∙ ap (λ (b : Bool). cond b (word ∷ []) []) parts.0

-- a word before a space is the first one
pub word_before : (word rest : List ℕ) → is_one_word word ≡ true → words_of (word ++ 32 ∷ rest) ≡ word ∷ words_of rest
word_before word rest one =
    let parts = and_parts (is_filled word) (list_all (λ byte. not (is_blank byte)) word) one in
    ap (filter is_filled) (cut_at is_blank word 32 rest parts.1 refl) ∙ ap (λ (b : Bool). cond b (word ∷ words_of rest) (words_of rest)) parts.0

-- what may stand after a word: nothing, or a space and more. The line's words are then the word and these.
abbrev pub IsBehind : List ℕ → List (List ℕ) → Type 0
IsBehind text words = (word : List ℕ) → is_one_word word ≡ true → words_of (word ++ text) ≡ word ∷ words

pub nothing_after : IsBehind [] []
nothing_after word one = ap words_of (append-nil word) ∙ word_alone word one

pub space_after : (rest : List ℕ) → IsBehind (32 ∷ rest) (words_of rest)
space_after rest word one = word_before word rest one

-- words with a space before each may stand after a word
found_after : {X : Type 0} (say : X → List ℕ) (xs : List X) → words_of (flat_map (λ x. codes " " ++ say x) xs) ≡ map say xs →
    IsBehind (flat_map (λ x. codes " " ++ say x) xs) (map say xs)
found_after say [] told word one = nothing_after word one
found_after say (x ∷ xs) told word one = word_before word (say x ++ flat_map (λ y. codes " " ++ say y) xs) one ∙ ap (λ (words : List (List ℕ)). word ∷ words) told

-- and they are the words of their line
pub words_found : {X : Type 0} (say : X → List ℕ) (xs : List X) → list_all (λ x. is_one_word (say x)) xs ≡ true →
    words_of (flat_map (λ x. codes " " ++ say x) xs) ≡ map say xs
words_found say [] all = refl
words_found say (x ∷ xs) all =
    let parts = and_parts (is_one_word (say x)) (list_all (λ y. is_one_word (say y)) xs) all in
    found_after say xs (words_found say xs parts.1) (say x) parts.0
