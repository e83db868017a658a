use Rattle.std.proofs.Common.{◌≡◌, ℕ, ◌+◌, Bool, true, false, ◌^◌, ◌<◌, ◌&&◌, ◌||◌, refl, sym, ◌∙◌, ap, subst, arith, length, get_or, ⊎_elim}
use Rattle.std.specs.Prelude.{bit_and, bit_xor, slice_get, Some}
use Rattle.std.specs.Int.{w64, trailing_zeros}
use Rattle.std.specs.Option.{option_map_or}
use Rattle.std.proofs.lemmas.Bool.{both_ways, cases_lt}
use Rattle.std.proofs.lemmas.Option.{slice_get_read}
use Rattle.petri_atom.specs.Atom.{definition_of}
use Rattle.petri_atom.specs.Definition.{TransitionDefinition}
use Rattle.petri_atom.specs.Expression.{Tree, bare, is_true, value_of}
use Rattle.petri_atom.specs.Groups.{passes_bare}
use Rattle.petri_atom.specs.Local.{Local, has, value_in}
use Rattle.petri_atom.specs.StraightCode.{IsCodeOf, IsTransitionCode}
use Rattle.petri_atom.specs.declared.atom.Atom.{Atom}
use Rattle.petri_atom.specs.declared.transition_code.TransitionCode.{TransitionCode}
use Rattle.petri_atom.proofs.Coded.{element-at}
use Rattle.petri_atom.proofs.Grouping.{passing-all}
use Rattle.petri_atom.proofs.Guards.{alike-fewer, alike-more, alike-own, alike-passes, alike-smaller, alike-within}
use Rattle.petri_atom.proofs.Members.{lowest-below, there}
use Rattle.petri_atom.proofs.Sets.{has-above}
use Rattle.petri_atom.proofs.atom.Atom.bare_from.Goals as goal
use Rattle.petri_atom.proofs.atom.Atom.bare_from.Goals.{then-bare_holds, else-bare_holds}

-- what an atom keeps of the transition with a number that is there
module _ (atom : Atom) (state : Local) (n : ℕ) (below : n < length (definition_of atom).transitions) where
  abbrev passes : ℕ → Bool
  passes = passes_bare (definition_of atom).transitions state

  coded-below : n < length atom.codes.items
  coded-below = subst (λ k. n < k) (sym atom.coded.0) below

  module _ (code : TransitionCode) (read : code ≡ get_or atom.codes.items n code) where
    is_code : (t : TransitionDefinition) → slice_get (definition_of atom).transitions n ≡ Some t → IsTransitionCode (definition_of atom).transitions code t
    is_code t at =
        atom.coded.1 n code t (slice_get_read atom.codes.items (length atom.codes.items) n code refl coded-below read) at

    own : has code.alike n ≡ true
    own = element-at (definition_of atom).transitions n below
        (λ t at. alike-own (definition_of atom).transitions state code.alike n t at (is_code t at).2)

    told : (k : ℕ) → has code.alike k ≡ true → passes k ≡ passes n
    told k inside = element-at (definition_of atom).transitions n below
        (λ t at. alike-passes (definition_of atom).transitions state code.alike n t at (is_code t at).2 k inside)

    judged : (holds : Bool) → ((guard : Tree ℕ) → IsCodeOf code.guard guard → holds ≡ is_true (value_of (value_in state.values) guard)) → passes n ≡ holds
    judged holds is = element-at (definition_of atom).transitions n below
        (λ t at. ap (λ o. option_map_or (λ u. is_true (value_of (value_in state.values) (bare u.guard))) o false) at ∙ sym (is (bare t.guard) (is_code t at).0))

-- the same of 64 transitions from a number on
told-from : (passes : ℕ → Bool) (all alike first n : ℕ) → alike < 2 ^ 64 → ((k : ℕ) → k < 64 → has alike k ≡ has all (first + k)) → ((k : ℕ) → has all k ≡ true → passes k ≡ passes (first + n)) → (k : ℕ) → has alike k ≡ true → passes (first + k) ≡ passes (first + n)
told-from passes all alike first n small is told k inside = ⊎_elim
    (λ below. told (first + k) (sym (is k below) ∙ inside))
    (λ past. absurd (both_ways _ (has-above alike 64 k small past) inside))
    (cases_lt k 64)

pub index-code-requires : goal.index-code-requires
index-code-requires c =
    let atom = c.args.self.now in
    let left = c.loop-left.left in
    let some : 0 < left = omega (arith, c.loop-left-test.true) in
    let n = trailing_zeros w64 left in
    let below = c.requires.there n (c.loop-left.invariant.1 n (there w64 left some (omega arith))) in
    omega (arith, coded-below atom c.args.state.now (c.args.first + n) below, atom.codes.ok.0)

pub loop-left-smaller : goal.loop-left-smaller
loop-left-smaller c =
    let atom = c.args.self.now in
    let state = c.args.state.now in
    let first = c.args.first in
    let left = c.loop-left.left in
    let some : 0 < left = omega (arith, c.loop-left-test.true) in
    let small : left < 2 ^ 64 = omega arith in
    let n = trailing_zeros w64 left in
    let inside = there w64 left some small in
    let below = c.requires.there n (c.loop-left.invariant.1 n inside) in
    let code = c.index-code.result.now in
    let alike = c.alike_from.result in
    let few : alike < 2 ^ 64 = omega (arith, c.alike_from.type_inv) in
    let p : ℕ → Bool = λ k. passes atom state (first + n) below (first + k) in
    let tells = told-from (passes atom state (first + n) below) code.alike alike first n few c.alike_from.ensures (told atom state (first + n) below code c.index-code.ensures) in
    alike-smaller p c.args.set c.loop-left.holding left alike n tells c.loop-left.invariant.0 small few inside (c.alike_from.ensures n (lowest-below w64 left some small) ∙ own atom state (first + n) below code c.index-code.ensures)

pub loop-left-preserved : goal.loop-left-preserved
loop-left-preserved c =
    let atom = c.args.self.now in
    let state = c.args.state.now in
    let first = c.args.first in
    let left = c.loop-left.left in
    let some : 0 < left = omega (arith, c.loop-left-test.true) in
    let small : left < 2 ^ 64 = omega arith in
    let n = trailing_zeros w64 left in
    let below = c.requires.there n (c.loop-left.invariant.1 n (there w64 left some small)) in
    let code = c.index-code.result.now in
    let alike = c.alike_from.result in
    let few : alike < 2 ^ 64 = omega (arith, c.alike_from.type_inv) in
    let p : ℕ → Bool = λ k. passes atom state (first + n) below (first + k) in
    let tells = told-from (passes atom state (first + n) below) code.alike alike first n few c.alike_from.ensures (told atom state (first + n) below code c.index-code.ensures) in
    let holds : p n ≡ c.bare_holds.result = judged atom state (first + n) below code c.index-code.ensures c.bare_holds.result c.bare_holds.ensures in (
      elim c.if-bare_holds.branch [
        | then-bare_holds w ↦ λ k. ap (λ x. has x k || has (bit_xor left (bit_and left alike)) k && p k) w.holding-is ∙ alike-more p c.args.set c.loop-left.holding left alike n tells c.loop-left.invariant.0 (holds ∙ w.if-bare_holds.true) k
        | else-bare_holds w ↦ λ k. ap (λ x. has x k || has (bit_xor left (bit_and left alike)) k && p k) w.holding-is ∙ alike-fewer p c.args.set c.loop-left.holding left alike n tells c.loop-left.invariant.0 (holds ∙ w.if-bare_holds.false) k
      ],
      alike-within p c.args.set c.loop-left.holding left alike n tells c.loop-left.invariant.0 c.loop-left.invariant.1,
    )

pub returns : goal.returns
returns c =
    passing-all 64 (λ n. passes_bare (definition_of c.args.self.now).transitions c.args.state.now (c.args.first + n)) c.args.set c.loop-left.holding c.loop-left.left (omega (arith, c.loop-left-test.false)) (omega arith) c.loop-left.invariant.0
