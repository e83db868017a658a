use Rattle.std.proofs.Common.{◌≡◌, ◌*◌, ◌%◌, ◌^◌, ◌∙◌, ap, refl, Bool, true, false, cond, not, ◌&&◌, ◌||◌, eqb, bit_and, arith}
use Rattle.std.specs.Int.{w16, bit_not}
use Rattle.connector_tree.specs.Masks.{is_set}
use Rattle.petri_atom.proofs.Sets.{has-or, has-minus, has-bit}
use Rattle.step_core.proofs.leaves.put_bit.Goals as goal

-- a bit that is taken out, and put in if a test passes
put : (here was set : Bool) → ((was && not (here && true)) || (here && set)) ≡ cond here set was
put true true true = refl
put true true false = refl
put true false true = refl
put true false false = refl
put false true set = refl
put false false set = refl

pub returns : goal.returns
returns c j =
    let old = c.args.word.now in
    let bit = c.args.bit in
    let one = 1 * 2 ^ bit % 2 ^ 16 in
    let added = c.from.result * 2 ^ bit % 2 ^ 16 in
    has-or (bit_and old (bit_not w16 one)) added j ∙
    ap (λ x. x || is_set added j) (has-minus w16 old one j (omega arith) (omega arith) ∙ ap (λ x. is_set old j && not x) (has-bit w16 bit j true c.requires)) ∙
    ap (λ x. (is_set old j && not (eqb j bit && true)) || x) (ap (λ x. is_set (x * 2 ^ bit % 2 ^ 16) j) c.from.ensures ∙ has-bit w16 bit j c.args.set c.requires) ∙
    put (eqb j bit) (is_set old j) c.args.set
