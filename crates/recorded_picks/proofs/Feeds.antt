-- The first line feed of some bytes, and what stands through it and after it.
use Rattle.std.proofs.Common.{◌≡◌, ℕ, suc, ◌+◌, ◌==◌, Bool, true, false, not, cond, refl, sym, ◌∙◌, ap, List, [], ◌∷◌, take, drop, arith}
use Rattle.std.specs.Io.BufRead.{drop_through, take_through}
use Rattle.std.specs.List.{position_or_len}

-- a line feed
abbrev pub is_feed : ℕ → Bool
is_feed byte = byte == 10

-- what stands through the first line feed, and after it
pub through-feed : (bytes : List ℕ) → take_through 10 bytes ≡ take (position_or_len is_feed bytes + 1) bytes
through-feed [] = refl
through-feed (byte ∷ bytes) =
    let n = position_or_len is_feed bytes in
    let e : 1 + n + 1 ≡ suc (n + 1) = omega arith in
    elim (is_feed byte) as (λ b. cond b (byte ∷ []) (byte ∷ take_through 10 bytes) ≡ take (cond (not b) (1 + n) 0 + 1) (byte ∷ bytes)) [
      | true ↦ refl
      | false ↦ ap (λ l. byte ∷ l) (through-feed bytes) ∙ sym (ap (λ k. take k (byte ∷ bytes)) e)
    ]

pub behind-feed : (bytes : List ℕ) → drop_through 10 bytes ≡ drop (position_or_len is_feed bytes + 1) bytes
behind-feed [] = refl
behind-feed (byte ∷ bytes) =
    let n = position_or_len is_feed bytes in
    let e : 1 + n + 1 ≡ suc (n + 1) = omega arith in
    elim (is_feed byte) as (λ b. cond b bytes (drop_through 10 bytes) ≡ drop (cond (not b) (1 + n) 0 + 1) (byte ∷ bytes)) [
      | true ↦ refl
      | false ↦ behind-feed bytes ∙ sym (ap (λ k. drop k (byte ∷ bytes)) e)
    ]
