-- What is seen of one atom, and of the others, where its row is written again.
use Rattle.std.specs.Bool.{beq}
use Rattle.std.proofs.Common.{◌≡◌, ◌≢◌, ℕ, ◌+◌, ◌%◌, ◌<◌, ◌≤◌, ◌==◌, Bool, true, false, not, ◌&&◌, ◌||◌, eqb, List, ◌∷◌, length, get_or, set, replicate, refl, sym, ap, ◌∙◌, ⊎_elim, arith, bit_and}
use Rattle.std.specs.Int.{bit_at}
use Rattle.std.specs.Int.Bits.{bit_xor}
use Rattle.std.specs.Option.{option_map_or}
use Rattle.std.proofs.lemmas.Bool.{cases_eq, cases_lt, ne_eqb, or_from}
use Rattle.std.proofs.lemmas.Bool.Decides.{nat_tests}
use Rattle.std.proofs.lemmas.List.{length-set, length-replicate, get_or-replicate, get_or-set_same, get_or-set_other}
use Rattle.std.proofs.lemmas.Nat.Bits.{bit_at-lt, bit_at-zero, bit_at_xor}
use Rattle.std.proofs.lemmas.Option.{slice_get-get_or, slice_get_past}
use Rattle.petri_atom.specs.Local.{Local, is_in}
use Rattle.priority_filter.specs.Active.{may_be_marked}
use Rattle.priority_filter.specs.Members.{has_bit}
use Rattle.priority_filter.specs.declared.rule.Rule.{Rule}
use Rattle.priority_filter.specs.declared.seen.At.{At}
use Rattle.priority_filter.specs.declared.seen.Seen.{Seen}
use Rattle.priority_filter.proofs.Words.{bit-and}
use Rattle.plant_model.specs.Choice.{is_marked_at}
use Rattle.plant_model.specs.Sights.{AreSeenBut, says}

-- ---- rows

abbrev pub unseen : Seen
unseen = record { known = true; places = 0 }

pub seen-at : (seen : List Seen) (at : At) → at.atom < length seen → (d : Seen) → may_be_marked seen at ≡ says (get_or seen at.atom d) at.place
seen-at seen at within d = ap (λ o. option_map_or (λ s. not s.known || has_bit s.places at.place) o false) (slice_get-get_or seen at.atom d within)

pub seen-past : (seen : List Seen) (at : At) → length seen ≤ at.atom → may_be_marked seen at ≡ false
seen-past seen at past = ap (λ o. option_map_or (λ s. not s.known || has_bit s.places at.place) o false) (slice_get_past seen at.atom past)

pub marked-past : (states : List Local) (at : At) → length states ≤ at.atom → is_marked_at states at ≡ false
marked-past states at past = ap (λ o. option_map_or (λ s. eqb (bit_at s.marking at.place) 1) o false) (slice_get_past states at.atom past)

-- rows that show nothing
pub none-seen : (n : ℕ) (at : At) → may_be_marked (replicate n unseen) at ≡ false
none-seen n at =
    ⊎_elim
    (λ within.
    seen-at (replicate n unseen) at (omega (arith, within, length-replicate n unseen)) unseen ∙
    ap (λ s. says s at.place) (get_or-replicate n at.atom unseen unseen within) ∙
    ap (λ b. eqb b 1) (bit_at-zero at.place))
    (λ past. seen-past (replicate n unseen) at (omega (arith, past, length-replicate n unseen)))
    (cases_lt at.atom n)

-- the row that is written, and the others
module _ (seen : List Seen) (i : ℕ) (s : Seen) (at : At) where
  pub written-here : i < length seen → at.atom ≡ i → may_be_marked (set seen i s) at ≡ says s at.place
  written-here within same =
      seen-at (set seen i s) at (omega (arith, length-set seen i s)) unseen ∙
      ap (λ j. says (get_or (set seen i s) j unseen) at.place) same ∙
      ap (λ row. says row at.place) (get_or-set_same seen i s unseen within)

  pub written-other : at.atom ≢ i → may_be_marked (set seen i s) at ≡ may_be_marked seen at
  written-other apart =
      ⊎_elim
      (λ within.
      seen-at (set seen i s) at (omega (arith, length-set seen i s)) unseen ∙
      ap (λ row. says row at.place) (get_or-set_other seen i at.atom s unseen apart) ∙
      sym (seen-at seen at within unseen))
      (λ past. seen-past (set seen i s) at (omega (arith, length-set seen i s)) ∙ sym (seen-past seen at past))
      (cases_lt at.atom (length seen))

-- ---- places that changed

-- two truth values that do not differ are the same
pub same-known : (a b : Bool) → not (beq a b) ≡ false → a ≡ b
same-known true true same = refl
same-known true false same = same
same-known false true same = sym same
same-known false false same = refl

-- two words that differ at none of some bits are the same at each of them
same_digits : (a b : ℕ) → a < 2 → b < 2 → eqb ((a + b) % 2) 1 ≡ false → eqb a 1 ≡ eqb b 1
same_digits a b a_digit b_digit same = grind (arith, nat_tests)

pub same-bit : (now before asked k : ℕ) → bit_and (bit_xor now before) asked ≡ 0 → has_bit asked k ≡ true → has_bit now k ≡ has_bit before k
same-bit now before asked k none there =
    let both : (has_bit (bit_xor now before) k && has_bit asked k) ≡ false = sym (bit-and (bit_xor now before) asked k) ∙ ap (λ w. has_bit w k) none ∙ ap (λ b. eqb b 1) (bit_at-zero k) in
    let differs : has_bit (bit_xor now before) k ≡ false = sym (and_true (has_bit (bit_xor now before) k)) ∙ ap (λ b. has_bit (bit_xor now before) k && b) (sym there) ∙ both in
    same_digits (bit_at now k) (bit_at before k) (bit_at-lt now k) (bit_at-lt before k) (ap (λ n. eqb n 1) (sym (bit_at_xor now before k)) ∙ differs)
  where
    and_true : (b : Bool) → (b && true) ≡ b
    and_true true = refl
    and_true false = refl

-- ---- one atom after another

-- once the first of the changed atoms is seen again, and the others stay, that atom is done
pub after-sight : (k : ℕ) (rest : List ℕ) (rules : List Rule) (marked : At → Bool) (old new : List Seen)
    → ((at : At) → at.atom ≡ k → may_be_marked new at ≡ marked at)
    → ((at : At) → at.atom ≢ k → may_be_marked new at ≡ may_be_marked old at)
    → AreSeenBut (k ∷ rest) rules marked old → AreSeenBut rest rules marked new
after-sight k rest rules marked old new here others before left right at there out =
    ⊎_elim
    (λ same. here at same)
    (λ differs. others at differs ∙ before left right at there (or_from (k == at.atom) (is_in rest at.atom) (ne_eqb k at.atom (λ same. differs (sym same))) out))
    (cases_eq at.atom k)
