-- The characters of a word, as they are kept.
use Rattle.std.proofs.Common.{◌≡◌, ℕ, suc, ◌+◌, ◌-◌, ◌<◌, ◌≤◌, ◌&&◌, true, refl, sym, ap, ◌∙◌, List, [], ◌∷◌, ◌++◌, append_assoc, length, map, take, arith}
use Rattle.std.specs.Prelude.{nat_le, replicate, IsUtf8}
use Rattle.std.specs.List.{list_all}
use Rattle.std.proofs.Math.ListN.{set}
use Rattle.std.proofs.Math.Seq.{set-append_seam}
use Rattle.std.proofs.lemmas.Bool.{and_from, and_parts, leb-true}
use Rattle.std.proofs.lemmas.List.{length-map, length-take, length-take-le, length_push, take_at}
use Rattle.std.proofs.lemmas.List.Elements.{All-weaker}
use Rattle.std.proofs.lemmas.List.Folds.{list_all-append}
use Rattle.std.proofs.lemmas.List.Sums.{AllPass-from_list_all}
use Rattle.std.proofs.lemmas.Str.{IsUtf8-from_ascii}
use Rattle.std.proofs.lemmas.Str.Ascii.{IsAscii-from_all}
use Rattle.run_text.specs.ShownWord.{is_printable, kept_row, shown_byte}
use Rattle.run_text.specs.declared.shown_word.TheConstants.{MOST_CHARACTERS, MOST_SHOWN}

module _ (count : ℕ) (row : List ℕ) (c : ℕ) (whole : length row ≡ MOST_CHARACTERS) (room : count < MOST_CHARACTERS) (kept : row ≡ kept_row (take count row)) where
  abbrev text : List ℕ
  text = take count row

  abbrev zeros : List ℕ
  zeros = replicate (MOST_CHARACTERS - (count + 1)) 0

  long : length text ≡ count
  long = length-take-le count row (omega (arith, whole, room))

  behind : replicate (MOST_CHARACTERS - length text) 0 ≡ 0 ∷ zeros
  behind = ap (λ n. replicate {A = ℕ} n 0) more
    where
      more : MOST_CHARACTERS - length text ≡ suc (MOST_CHARACTERS - (count + 1))
      more = omega (arith, long, room)

  now : set row count c ≡ text ++ c ∷ zeros
  now =
      ap (λ r. set r count c) (kept ∙ ap (λ z. text ++ z) behind)
      ∙ ap (λ n. set (text ++ 0 ∷ zeros) n c) (sym long)
      ∙ set-append_seam text 0 zeros c

  -- a character that is put behind the others
  pub put : take (count + 1) (set row count c) ≡ text ++ c ∷ []
  put =
      ap (take (count + 1)) (now ∙ sym (append_assoc text (c ∷ []) zeros))
      ∙ take_at (text ++ c ∷ []) zeros (count + 1) (length_push text c ∙ ap (λ n. n + 1) long)

  pub put-kept : set row count c ≡ kept_row (take (count + 1) (set row count c))
  put-kept =
      now ∙ sym (append_assoc text (c ∷ []) zeros)
      ∙ ap (λ n. (text ++ c ∷ []) ++ replicate (MOST_CHARACTERS - n) 0) (sym (length_push text c ∙ ap (λ n. n + 1) long))
      ∙ ap kept_row (sym put)

  pub put-printable : list_all is_printable text ≡ true → is_printable c ≡ true → list_all is_printable (take (count + 1) (set row count c)) ≡ true
  put-printable all one =
      ap (list_all is_printable) put ∙ list_all-append is_printable text (c ∷ [])
      ∙ and_from (list_all is_printable text) (is_printable c && true) all (and_from (is_printable c) true one refl)

-- printable characters are ASCII
printable-ascii : (c : ℕ) → is_printable c ≡ true → c < 128
printable-ascii c is = let most = leb-true c 126 (and_parts (nat_le 32 c) (nat_le c 126) is).1 in omega (arith, most)

-- so they are text
pub printed : (text : List ℕ) → list_all is_printable text ≡ true → IsUtf8 text
printed text all =
    IsUtf8-from_ascii text
    (IsAscii-from_all text (All-weaker (λ c. is_printable c ≡ true) (λ c. c < 128) printable-ascii text (AllPass-from_list_all is_printable text all)))

-- the first bytes of a word are no more than are shown
pub front-within : (word : List ℕ) → length (map shown_byte (take MOST_SHOWN word)) ≤ MOST_SHOWN
front-within word = omega (arith, length-map (take MOST_SHOWN word) shown_byte, length-take MOST_SHOWN word)
