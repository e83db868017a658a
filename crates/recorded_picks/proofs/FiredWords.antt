-- The words of a fired line without its number.
use Rattle.std.proofs.Common.{◌≡◌, ℕ, ◌+◌, ◌*◌, ◌≤◌, Bool, true, false, not, cond, refl, ◌∙◌, ap, List, [], ◌∷◌, ◌++◌, append-nil, append_assoc, length, length-append, map, filter, codes, Contains, arith}
use Rattle.std.specs.Prelude.{flat_map}
use Rattle.std.specs.List.{slice_split}
use Rattle.std.proofs.lemmas.Bool.{and_from}
use Rattle.std.proofs.lemmas.List.Folds.{list_all-append}
use Rattle.std.proofs.lemmas.List.Splits.{slice_split_at, slice_split_none}
use Rattle.plant_words.specs.Words.{is_blank, is_filled, words_of}
use Rattle.plant_model.proofs.Membership.{here, later}
use Rattle.recorded_picks.proofs.Plain.{none-at, none_is}

-- a word has no blank, and a byte
pub record IsPlain (word : List ℕ) : Type 0 where
  pub unblank : none_is is_blank word ≡ true
  pub some : is_filled word ≡ true

one-word : (word : List ℕ) (parts : List (List ℕ)) → IsPlain word → filter is_filled (word ∷ parts) ≡ word ∷ filter is_filled parts
one-word word parts plain = ap (λ b. cond b (word ∷ filter is_filled parts) (filter is_filled parts)) plain.some

module _ {X : Type 0} (say : X → List ℕ) where
  -- the words of a word, and of others with a space before each
  pub words-spaced : (word : List ℕ) (xs : List X) → IsPlain word → ((x : X) → Contains xs x → IsPlain (say x)) → words_of (word ++ flat_map (λ x. codes " " ++ say x) xs) ≡ word ∷ map say xs
  words-spaced word [] plain each =
      ap words_of (append-nil word) ∙ ap (filter is_filled) (slice_split_none is_blank word (none-at is_blank word plain.unblank)) ∙ one-word word [] plain
  words-spaced word (x ∷ xs) plain each =
      let rest = say x ++ flat_map (λ y. codes " " ++ say y) xs in
      ap (filter is_filled) (slice_split_at is_blank word 32 rest (none-at is_blank word plain.unblank) refl)
      ∙ one-word word (slice_split is_blank rest) plain
      ∙ ap (λ ws. word ∷ ws) (words-spaced (say x) xs (each x (here x xs)) (λ y at. each y (later x xs y at)))

  -- how long they are
  pub length-spaced : (most : ℕ) (xs : List X) → ((x : X) → Contains xs x → length (say x) ≤ most) → length (flat_map (λ x. codes " " ++ say x) xs) ≤ length xs * (most + 1)
  length-spaced most [] each = omega arith
  length-spaced most (x ∷ xs) each =
      let rest = length-spaced most xs (λ y at. each y (later x xs y at)) in
      let first = each x (here x xs) in
      omega (arith, rest, first, length-append (codes " " ++ say x) (flat_map (λ y. codes " " ++ say y) xs), length-append (codes " ") (say x))

  -- and that none of their bytes passes a test
  pub none-spaced : (p : ℕ → Bool) → p 32 ≡ false → (xs : List X) → ((x : X) → Contains xs x → none_is p (say x) ≡ true) → none_is p (flat_map (λ x. codes " " ++ say x) xs) ≡ true
  none-spaced p no_space [] each = refl
  none-spaced p no_space (x ∷ xs) each =
      list_all-append (λ (b : ℕ). not (p b)) (codes " " ++ say x) (flat_map (λ y. codes " " ++ say y) xs)
      ∙ and_from (none_is p (codes " " ++ say x)) (none_is p (flat_map (λ y. codes " " ++ say y) xs))
      (and_from (not (p 32)) (none_is p (say x)) (ap not no_space) (each x (here x xs)))
      (none-spaced p no_space xs (λ y at. each y (later x xs y at)))

-- ---- the word of a participant

module _ (atom port number : List ℕ) where
  -- its parts around the slash, and around the dot
  pub regrouped : atom ++ codes "." ++ port ++ codes "/" ++ number ≡ (atom ++ 46 ∷ port) ++ 47 ∷ number
  regrouped =
      append_assoc (atom ++ codes "." ++ port) (codes "/") number
      ∙ ap (λ front. front ++ 47 ∷ number) (append_assoc atom (codes ".") port)

  module _ (p : ℕ → Bool) (no_dot : p 46 ≡ false) (no_slash : p 47 ≡ false) where
    -- none of its bytes passes a test where none of its parts' does
    pub none-in-participant : none_is p atom ≡ true → none_is p port ≡ true → none_is p number ≡ true → none_is p (atom ++ codes "." ++ port ++ codes "/" ++ number) ≡ true
    none-in-participant first second third =
        let test = λ (b : ℕ). not (p b) in
        let names : none_is p (atom ++ 46 ∷ port) ≡ true = list_all-append test atom (46 ∷ port) ∙ and_from (none_is p atom) (none_is p (46 ∷ port)) first (and_from (not (p 46)) (none_is p port) (ap not no_dot) second) in
        ap (none_is p) regrouped ∙ list_all-append test (atom ++ 46 ∷ port) (47 ∷ number)
        ∙ and_from (none_is p (atom ++ 46 ∷ port)) (none_is p (47 ∷ number)) names (and_from (not (p 47)) (none_is p number) (ap not no_slash) third)

  -- how long it is
  pub length-participant : length (atom ++ codes "." ++ port ++ codes "/" ++ number) ≡ length atom + length port + length number + 2
  length-participant =
      ap length regrouped ∙ omega (arith, length-append (atom ++ 46 ∷ port) (47 ∷ number), length-append atom (46 ∷ port))
