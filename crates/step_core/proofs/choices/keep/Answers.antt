use Rattle.std.proofs.Common.{◌≡◌, ◌∙◌, ◌*◌, ◌/◌, ◌%◌, ◌&&◌, ℕ, ap, sym, not, map, false, arith, ⊎_elim}
use Rattle.std.specs.FinSet.{contains, contains-empty}
use Rattle.std.specs.Ordering.{nat_cmp}
use Rattle.std.specs.Int.Bits.{bit_xor}
use Rattle.std.proofs.lemmas.Bool.{cases_Bool, cases_eq, cases_lt, false≢true, or_from, or_parts}
use Rattle.std.proofs.lemmas.Bool.Decides.{nat_tests}
use Rattle.std.proofs.lemmas.Nat.Bits.{bit_at-lt, bit_at_xor}
use Rattle.petri_atom.proofs.Sets.{has-or}
use Rattle.priority_filter.specs.Active.{active, may_be_marked}
use Rattle.priority_filter.specs.Decided.{is_overruled}
use Rattle.priority_filter.specs.Members.{has_bit}
use Rattle.plant_model.specs.Choice.{named}
use Rattle.plant_model.specs.System.{interactions_in, plant_of}
use Rattle.plant_model.proofs.BitsLeft.{no-bit}
use Rattle.step_core.proofs.SystemConnectors.{interaction-count, of-one}
use Rattle.step_core.proofs.choices.keep.Goals as goal

-- a bit in which two words do not differ
no-difference : (a b k : ℕ) → has_bit (bit_xor a b) k ≡ false → has_bit a k ≡ has_bit b k
no-difference a b k = grind (arith, nat_tests, bit_at_xor a b k, bit_at-lt a k, bit_at-lt b k)

pub loop-place-init : goal.loop-place-init
loop-place-init c = (λ k _. no-bit k, λ n k none. absurd (omega (arith, none)))

pub loop-place-preserved : goal.loop-place-preserved
loop-place-preserved c =
    let before = c.loop-place.invariant in
    let old = c.loop-place.changed in
    let more = c.connectors_of-changed.result in (
      λ k past. has-or old more k ∙ or_from (has_bit old k) (has_bit more k) (before.0 k past) (c.connectors_of-changed.ensures.within k past),
      λ n k low its out.
          let parts = or_parts (has_bit old k) (has_bit more k) (sym (has-or old more k) ∙ out) in
          ⊎_elim
          (λ here.
          sym (c.word-in-loop-place.ensures n here) ∙
          sym (no-difference c.word.result c.word-in-loop-place.result (n % 64) (⊎_elim
          (λ differs. absurd (false≢true (sym parts.1 ∙ c.connectors_of-changed.ensures.told n k here its differs)))
          (λ same. same)
          (cases_Bool (has_bit (bit_xor c.word.result c.word-in-loop-place.result) (n % 64))))) ∙
          c.word.ensures n here ∙ ap (λ set. contains set n) c.copy-before.ensures)
          (λ other. before.1 n k (omega (arith, low, other)) its parts.0)
          (cases_eq (n / 64) c.loop-place.place),
    )

pub returns-clause-kept : goal.returns-clause-kept
returns-clause-kept c n =
    let system = c.args.system.now in
    let over : (list : _) → _ = λ list. is_overruled (active (may_be_marked c.args.seen.now) (plant_of system).rules) list (contains c.args.rivals.now) n in
    ⊎_elim
    (λ within. c.filter.ensures.within n within ∙ ap (λ list. contains c.args.possible.now n && not (over list)) system.ordered)
    (λ past.
    let never : contains c.args.possible.now n ≡ false = c.requires n (omega (arith, past, interaction-count system, system.interactions.ok.0, c.len.ensures, c.div_ceil-words.ensures)) in
    c.filter.ensures.past n past ∙ ap (λ set. contains set n) c.clear.ensures ∙ contains-empty nat_cmp n ∙
    sym (ap (λ b. b && not (over (map named (interactions_in system)))) never))
    (cases_lt n (64 * c.div_ceil-words.result))

pub returns-clause-within : goal.returns-clause-within
returns-clause-within c = c.loop-place.invariant.0

pub returns-clause-told : goal.returns-clause-told
returns-clause-told c n k its out =
    let system = c.args.system.now in
    c.loop-place.invariant.1 n k (omega (arith, of-one system n k its, interaction-count system, system.interactions.ok.0, c.len.ensures, c.div_ceil-words.ensures, c.loop-place-test.false)) its out
