use Rattle.std.proofs.Common.{◌≡◌, ◌≢◌, ◌∙◌, ◌*◌, ◌%◌, ◌^◌, ◌<◌, ℕ, true, false, refl, sym, ap, subst, arith, mod-eq_of_lt, w64, to_z, of_z, ⊎_elim}
use Rattle.std.specs.Prelude.{bit_and, bit_or, slice_set}
use Rattle.std.specs.Int.{bit_at}
use Rattle.std.proofs.lemmas.Bool.{cases_eq, eq-eqb, ne_eqb}
use Rattle.std.proofs.lemmas.Int.{to_z-of_z}
use Rattle.std.proofs.lemmas.Nat.{pow_below, pow_pos}
use Rattle.std.proofs.lemmas.Nat.Bits.{and_pow, bit_at-lt}
use Rattle.petri_atom.specs.Local.{AreOfRow, given, has, row_in}
use Rattle.petri_atom.proofs.Giving.{given-kept, given-own, given-present}
use Rattle.petri_atom.proofs.state.Delivered.give_at.Goals as goal

-- the bit of a number in a mask
module _ (mask export bit : ℕ) (low : export < 4) (is : bit ≡ 2 ^ export) where
  is-shift : bit ≡ 1 * 2 ^ export % 2 ^ 8
  is-shift =
      let one : 2 ^ export ≡ 1 * 2 ^ export = omega arith in
      is ∙ sym (mod-eq_of_lt (pow_below export 8 (omega (arith, low)))) ∙ ap (λ x. x % 2 ^ 8) one

  tested : bit_and mask bit ≡ bit_at mask export * 2 ^ export
  tested = ap (bit_and mask) is ∙ and_pow mask export

  fresh : bit_and mask bit ≡ 0 → has mask export ≡ false
  fresh none = ne_eqb (bit_at mask export) 1 (λ one. omega (arith, none, tested, ap (λ b. b * 2 ^ export) one, pow_pos export))

  present : bit_and mask bit ≢ 0 → has mask export ≡ true
  present some =
      ⊎_elim
      (λ one. eq-eqb (bit_at mask export) 1 one)
      (λ other.
      let zero : bit_at mask export ≡ 0 = omega (arith, other, bit_at-lt mask export) in
      let nothing : 0 * 2 ^ export ≡ 0 = omega arith in
      absurd (some (tested ∙ ap (λ b. b * 2 ^ export) zero ∙ nothing)))
      (cases_eq (bit_at mask export) 1)

pub invariant_of-self : goal.invariant_of-self
invariant_of-self c =
    let inside = c.self.inside in
    let e = c.from.result in
    let low : e < 4 = omega (arith, c.requires.export, c.from.ensures) in
    let is = c.requires.bit ∙ ap (λ n. 2 ^ n) (sym c.from.ensures) in
    subst (λ b. AreOfRow (bit_or inside.mask b) (slice_set inside.values e (to_z w64 (of_z w64 c.args.value)))) (sym (is-shift inside.mask e c.args.bit low is))
    (given-own inside.mask inside.values c.self.invariant e _ low (fresh inside.mask e c.args.bit low is c.if-self-bit-eq0.true))

pub returns-then-self-bit-eq0 : goal.returns-then-self-bit-eq0
returns-then-self-bit-eq0 c =
    let inside = c.self.inside in
    let e = c.from.result in
    let low : e < 4 = omega (arith, c.requires.export, c.from.ensures) in
    let is = c.requires.bit ∙ ap (λ n. 2 ^ n) (sym c.from.ensures) in
    ap (λ b. row_in (bit_or inside.mask b) (slice_set inside.values e (to_z w64 (of_z w64 c.args.value)))) (is-shift inside.mask e c.args.bit low is) ∙
    given-kept inside.mask inside.values c.self.invariant e _ low (fresh inside.mask e c.args.bit low is c.if-self-bit-eq0.true) ∙
    ap (given e (to_z w64 (of_z w64 c.args.value))) c.self.view_is ∙
    ap (λ v. given e v c.args.self.now) (to_z-of_z w64 c.args.value c.ranges.value) ∙
    ap (λ place. given place c.args.value c.args.self.now) c.from.ensures

pub returns-else-self-bit-eq0 : goal.returns-else-self-bit-eq0
returns-else-self-bit-eq0 c =
    let inside = c.self.inside in
    let own = c.self.invariant in
    sym c.self.view_is ∙
    given-present (row_in inside.mask inside.values) c.args.export c.args.value refl c.requires.export
    (ap (λ m. has m c.args.export) (sym own.0) ∙ present inside.mask c.args.export c.args.bit c.requires.export c.requires.bit c.if-self-bit-eq0.false) ∙
    ap (given c.args.export c.args.value) c.self.view_is
