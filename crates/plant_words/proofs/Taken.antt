-- What one step of a reading makes of the words that were left.
use Rattle.std.proofs.Common.{◌≡◌, ◌∙◌, refl, sym, ap, ℕ, Bool, true, false, List, [], ◌∷◌, drop, Option, Result, Ok, Err}
use Rattle.std.specs.Option.{ok_or}
use Rattle.std.specs.Result.{IsErrAnd}
use Rattle.std.proofs.lemmas.Result.{err_from_is_err_and}
use Rattle.petri_atom.specs.Name.{is_same_text}
use Rattle.plant_words.specs.Reading.{◌>>=◌, check, first_word}
use Rattle.plant_words.specs.declared.line_fault.LineFault.{LineFault}

-- the fault that leaves a function is the one that a step of it had
pub same_fault : {A : Type 0} (result : Result A LineFault) (fault : LineFault) → IsErrAnd result (λ told. told ≡ fault) → result ≡ Err fault
same_fault result fault left = let told = err_from_is_err_and result left in told.1 ∙ ap Err told.2

-- the words after the one that was taken
pub rest_after : (words rest : List (List ℕ)) (word : List ℕ) → words ≡ word ∷ rest → rest ≡ drop 1 words
rest_after words rest word taken = sym (ap (drop 1) taken)

-- if none was left, none is after it
pub none_after : (words rest : List (List ℕ)) → words ≡ [] → rest ≡ [] → rest ≡ drop 1 words
none_after words rest none end = end ∙ sym (ap (drop 1) none)

-- what the first word says, where there must be one: nothing else is at fault where there is none
module _ {A : Type 0} (words : List (List ℕ)) (says : List ℕ → Option A) (wrong : LineFault) where
  -- the fault that there is none
  pub none_said : (result : Result A LineFault) (fault : LineFault) → IsErrAnd result (λ told. told ≡ fault) → first_word words ≡ Err fault → result ≡ (first_word words >>= λ word. ok_or (says word) wrong)
  none_said result fault left none = same_fault result fault left ∙ sym (ap (λ step. step >>= λ word. ok_or (says word) wrong) none)

  -- what the word says, or its fault
  pub word_said : (result : Result A LineFault) (word : List ℕ) (said : Option A) → first_word words ≡ Ok word → said ≡ says word → result ≡ ok_or said wrong → result ≡ (first_word words >>= λ w. ok_or (says w) wrong)
  word_said result word said taken is told = told ∙ ap (λ o. ok_or o wrong) is ∙ sym (ap (λ step. step >>= λ w. ok_or (says w) wrong) taken)

-- a test that was not passed, and its fault
pub refused : (passes : Bool) (fault told : LineFault) → check passes fault ≡ Err told → (passes ≡ false) × (fault ≡ told)
refused true fault told is = absurd (cc)
refused false fault told is = (refl, cc)

-- what a test of a word said, where the text is this one
pub tested : (word text expected : List ℕ) (same answer : Bool) → text ≡ expected → same ≡ is_same_text word text → same ≡ answer → is_same_text word expected ≡ answer
tested word text expected same answer is test said = sym (test ∙ ap (is_same_text word) is) ∙ said
