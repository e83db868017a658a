-- Values of the definitions, computed.
use Rattle.std.proofs.Common.{◌≡◌, ◌++◌, ◌∷◌, [], Some, codes, refl, negsuc, ◌^◌, ◌-◌, arith}
use Rattle.std.specs.Fmt.{decimal, digits, signed_decimal}
use Rattle.sha2.specs.Sha256.{sha256, digest_bytes, hash_after, compress, first_words, schedule, rounds}
use Rattle.text_io.specs.declared.reading.TheConstants.{MAX_TEXT}
use Rattle.text_io.specs.declared.reading.TextFault.TheVariants.{TooLong, Read}
use Rattle.text_io.specs.Reading.{IsReadBefore, GivesUp, message_of}

-- numbers as text
zero_is_one_digit : decimal 0 ≡ codes "0"
unfolding digits
zero_is_one_digit = refl

greatest_number : decimal (2 ^ 64 - 1) ≡ codes "18446744073709551615"
unfolding digits
greatest_number = refl

least_number : signed_decimal (negsuc (2 ^ 63 - 1)) ≡ codes "-9223372036854775808"
unfolding digits
least_number = refl

minus_four : signed_decimal (negsuc 3) ≡ codes "-4"
unfolding digits
minus_four = refl

-- a line of parts
line_of_parts : decimal 12 ++ codes " state A n=" ++ signed_decimal (negsuc 2) ++ codes "\n" ≡ codes "12 state A n=-3\n"
unfolding digits
line_of_parts = refl

-- a text has 1,048,576 bytes at most
most_bytes_of_a_text : MAX_TEXT ≡ 1048576
most_bytes_of_a_text = refl

-- a text of 1,048,577 bytes is too long, and no other fault comes after so many
one_byte_more : IsReadBefore TooLong 1048577
one_byte_more = refl

-- the limit is printed in decimal
limit_is_printed : message_of TooLong ≡ codes "the text has more than 1048576 bytes"
unfolding digits
limit_is_printed = refl

-- an error after two of three bytes leaves the third
error_after_two : GivesUp Read (Some (97 ∷ 98 ∷ 99 ∷ [])) (Some (99 ∷ []))
error_after_two = (97 ∷ 98 ∷ [], omega arith, refl)

-- SHA-256 of "abc", an example of FIPS 180-4
digest_of_abc : sha256 (codes "abc") ≡ 186 ∷ 120 ∷ 22 ∷ 191 ∷ 143 ∷ 1 ∷ 207 ∷ 234 ∷ 65 ∷ 65 ∷ 64 ∷ 222 ∷ 93 ∷ 174 ∷ 34 ∷ 35 ∷ 176 ∷ 3 ∷ 97 ∷ 163 ∷ 150 ∷ 23 ∷ 122 ∷ 156 ∷ 180 ∷ 16 ∷ 255 ∷ 97 ∷ 242 ∷ 0 ∷ 21 ∷ 173 ∷ []
unfolding sha256 digest_bytes hash_after compress first_words schedule rounds
digest_of_abc = refl

-- and of the empty text
digest_of_nothing : sha256 [] ≡ 227 ∷ 176 ∷ 196 ∷ 66 ∷ 152 ∷ 252 ∷ 28 ∷ 20 ∷ 154 ∷ 251 ∷ 244 ∷ 200 ∷ 153 ∷ 111 ∷ 185 ∷ 36 ∷ 39 ∷ 174 ∷ 65 ∷ 228 ∷ 100 ∷ 155 ∷ 147 ∷ 76 ∷ 164 ∷ 149 ∷ 153 ∷ 27 ∷ 120 ∷ 82 ∷ 184 ∷ 85 ∷ []
unfolding sha256 digest_bytes hash_after compress first_words schedule rounds
digest_of_nothing = refl

-- and of the sample plant, as `sha256sum` prints it
digest_of_the_sample : sha256 (codes "atom A\nplace s init\nvar n 0\nport t n\ntrans t from s to s do n := + n 1\natom B\nplace s init\nvar m 0\nport u m\ntrans u from s to s\nconnector tick A.t\nconnector send A.t B.u\nmove B.m := A.n\n") ≡ 156 ∷ 126 ∷ 17 ∷ 69 ∷ 201 ∷ 174 ∷ 8 ∷ 196 ∷ 35 ∷ 240 ∷ 247 ∷ 202 ∷ 144 ∷ 228 ∷ 51 ∷ 16 ∷ 224 ∷ 174 ∷ 219 ∷ 217 ∷ 76 ∷ 189 ∷ 191 ∷ 184 ∷ 37 ∷ 160 ∷ 221 ∷ 239 ∷ 178 ∷ 8 ∷ 27 ∷ 72 ∷ []
unfolding sha256 digest_bytes hash_after compress first_words schedule rounds
digest_of_the_sample = refl
