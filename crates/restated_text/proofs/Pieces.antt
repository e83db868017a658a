-- The line of a variable with another value, piece by piece.
use Rattle.std.proofs.Common.{◌≡◌, ◌∙◌, refl, sym, ap, ℕ, ℤ, Bool, true, false, if◌then◌else◌, List, [], ◌∷◌, ◌++◌, append_assoc, Result, Ok, Err}
use Rattle.std.specs.Prelude.{OnOk, is_ok}
use Rattle.std.specs.Fmt.{signed_decimal}
use Rattle.restated_text.specs.Cuts.{blanks_before, word_at, behind_word, behind_name, up_to_name}
use Rattle.restated_text.specs.Lines.{says_value, valued_line, variable_line}

-- the last piece ends a text, if there is memory for it
pub ends_with : {A E : Type 0} (r : Result A E) (new old rest whole : List ℕ) → new ≡ (if is_ok r then old ++ rest else old) → old ++ rest ≡ whole → OnOk r (new ≡ whole)
ends_with (Ok u) new old rest whole is same = is ∙ same
ends_with (Err e) new old rest whole is same = tt

-- the pieces are the line
pub valued_pieces : (value : ℤ) (line text behind word up blanks rest one two three : List ℕ) → behind ≡ behind_name line → word ≡ word_at behind → says_value value word ≡ false →
    up ≡ up_to_name line → blanks ≡ blanks_before behind → rest ≡ behind_word behind → one ≡ text ++ up → two ≡ one ++ blanks → three ≡ two ++ signed_decimal value →
    three ++ rest ≡ text ++ variable_line value line
valued_pieces value line text behind word up blanks rest one two three behind_is word_is fails up_is blanks_is rest_is first second third =
    let digits : List ℕ = signed_decimal value in
    let other : says_value value (word_at (behind_name line)) ≡ false = sym (ap (says_value value) (word_is ∙ ap word_at behind_is)) ∙ fails in
    ap (λ (t : List ℕ). t ++ rest) (third ∙ ap (λ (t : List ℕ). t ++ digits) (second ∙ ap (λ (t : List ℕ). t ++ blanks) first)) ∙
    append_assoc ((text ++ up) ++ blanks) digits rest ∙ append_assoc (text ++ up) blanks (digits ++ rest) ∙ append_assoc text up (blanks ++ (digits ++ rest)) ∙
    ap (λ (x : List ℕ). text ++ (x ++ (blanks ++ (digits ++ rest)))) up_is ∙
    ap (λ (x : List ℕ). text ++ (up_to_name line ++ (x ++ (digits ++ rest)))) (blanks_is ∙ ap blanks_before behind_is) ∙
    ap (λ (x : List ℕ). text ++ (up_to_name line ++ (blanks_before (behind_name line) ++ (digits ++ x)))) (rest_is ∙ ap behind_word behind_is) ∙
    sym (ap (λ (b : Bool). text ++ (if b then line else valued_line value line)) other)
