use Rattle.std.proofs.Common.{◌≡◌, ◌+◌, ◌*◌, ◌/◌, ◌%◌, ◌^◌, ◌<◌, ◌∙◌, ℕ, ap, sym, refl, true, length, get_or, arith, ⊎_elim, w64}
use Rattle.std.specs.Prelude.{slice_index_or}
use Rattle.std.specs.FinSet.{contains}
use Rattle.std.specs.Int.{trailing_zeros}
use Rattle.std.proofs.lemmas.Bool.{cases_eq, false≢true, or_cases, or_left, or_right}
use Rattle.std.proofs.lemmas.Option.{same_Some, slice_get-get_or, slice_get_read}
use Rattle.petri_atom.proofs.Sets.{has-or}
use Rattle.priority_filter.specs.Members.{has_bit}
use Rattle.plant_model.specs.declared.system.System.{System}
use Rattle.plant_model.proofs.WithoutLowest.{fewer-less}
use Rattle.plant_model.proofs.BitsLeft.{fewer-in, fewer-out, lowest-below, lowest-set, no-bit}
use Rattle.step_core.proofs.Ranked.{head-there}
use Rattle.step_core.proofs.standing.below_heads.Goals as goal

pub loop-left-init : goal.loop-left-init
loop-left-init c = record {
  part = λ k inside. inside;
  some = λ k set. absurd (false≢true (sym (no-bit k) ∙ set));
  all = λ k m here inside out. absurd (false≢true (sym out ∙ inside));
}

-- the lowest that is left is a head
module _ (system : System) (place word left : ℕ) (some : 0 < left) (small : left < 2 ^ 64) (part : (k : ℕ) → has_bit left k ≡ true → has_bit word k ≡ true)
    (heads : (m : ℕ) → m / 64 ≡ place → has_bit word (m % 64) ≡ true → contains system.ranks.heads m ≡ true) where
  abbrev bit : ℕ
  bit = trailing_zeros w64 left

  abbrev head : ℕ
  head = 64 * place + bit

  here : head / 64 ≡ place
  here = omega (arith, lowest-below left some small)

  at : head % 64 ≡ bit
  at = omega (arith, lowest-below left some small)

  in-word : has_bit word (head % 64) ≡ true
  in-word = ap (has_bit word) at ∙ part bit (lowest-set left some small)

  there : head < length system.ranks.below_head.items
  there = head-there system head (heads head here in-word)

  -- whose connectors are read there
  read : (connectors : ℕ) → connectors ≡ get_or system.ranks.below_head.items head connectors → slice_index_or system.ranks.below_head.items head 0 ≡ connectors
  read connectors is =
      same_Some (get_or system.ranks.below_head.items head 0) connectors
      (sym (slice_get-get_or system.ranks.below_head.items head 0 there) ∙ slice_get_read system.ranks.below_head.items (length system.ranks.below_head.items) head connectors refl there is)

pub overflow_mul-place : goal.overflow_mul-place
overflow_mul-place c =
    omega (arith, there c.args.system.now c.args.place c.args.word c.loop-left.left (omega (arith, c.loop-left-test.true)) (omega arith) c.loop-left.invariant.part c.requires.heads, c.args.system.now.ranks.below_head.ok.0)

pub overflow_add-place : goal.overflow_add-place
overflow_add-place c =
    omega (arith, there c.args.system.now c.args.place c.args.word c.loop-left.left (omega (arith, c.loop-left-test.true)) (omega arith) c.loop-left.invariant.part c.requires.heads, c.args.system.now.ranks.below_head.ok.0)

pub index-requires : goal.index-requires
index-requires c =
    omega (arith, there c.args.system.now c.args.place c.args.word c.loop-left.left (omega (arith, c.loop-left-test.true)) (omega arith) c.loop-left.invariant.part c.requires.heads, c.args.system.now.ranks.below_head.ok.0)

pub loop-left-smaller : goal.loop-left-smaller
loop-left-smaller c = fewer-less w64 c.loop-left.left (omega (arith, c.loop-left-test.true)) (omega arith)

pub loop-left-preserved : goal.loop-left-preserved
loop-left-preserved c =
    let system = c.args.system.now in
    let place = c.args.place in
    let word = c.args.word in
    let left = c.loop-left.left in
    let some : 0 < left = omega (arith, c.loop-left-test.true) in
    let small : left < 2 ^ 64 = omega arith in
    let before = c.loop-left.invariant in
    let heads = c.requires.heads in
    let m = head system place word left some small before.part heads in
    let more = c.index.result.now in
    let below = c.loop-left.below in
    let is = read system place word left some small before.part heads more c.index.ensures in
    let its-place = here system place word left some small before.part heads in
    record {
      part = λ k inside. before.part k (fewer-in left some small k inside);
      some = λ k set. ⊎_elim
          (before.some k)
          (λ told. (m, its-place, in-word system place word left some small before.part heads, ap (λ w. has_bit w k) is ∙ told))
          (or_cases (has_bit below k) (has_bit more k) (sym (has-or below more k) ∙ set));
      all = λ k n at_place inside out under. has-or below more k ∙ ⊎_elim
          (λ same.
          let same_number : n ≡ m = omega (arith, at_place, same, its-place, at system place word left some small before.part heads) in
          or_right (has_bit below k) (has_bit more k) (ap (λ w. has_bit w k) (sym is) ∙ ap (λ l. has_bit (slice_index_or system.ranks.below_head.items l 0) k) (sym same_number) ∙ under))
          (λ other. or_left (has_bit below k) (has_bit more k) (before.all k n at_place inside (fewer-out left some small (n % 64) other out) under))
          (cases_eq (n % 64) (trailing_zeros w64 left));
    }
