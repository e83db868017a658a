use Rattle.std.proofs.Common.{◌≡◌, ◌+◌, ◌∙◌, ℕ, [], ◌∷◌, ⊎_elim, ap, sym, map, get_or, length, arith}
use Rattle.std.specs.Prelude.{slice_get}
use Rattle.std.proofs.lemmas.Bool.{cases_lt}
use Rattle.std.proofs.lemmas.List.{get_or_append_left, get_or_push, length-append}
use Rattle.priority_filter.specs.Members.{has_bit}
use Rattle.plant_model.specs.Reach.{IsPortReach, can_read}
use Rattle.plant_model.specs.Wire.{wire_of}
use Rattle.plant_model.specs.declared.reach.PortReach.{PortReach}
use Rattle.plant_model.proofs.Pushed.{each-pushed}
use Rattle.plant_model.proofs.reach.reach_of.Goals as goal

pub loop-place-preserved : goal.loop-place-preserved
loop-place-preserved c =
    let rows = c.loop-place.at_ports.items in
    let made = c.in_ok-reach_at.field-0 in
    let pushed = c.in_ok-push.ensures.items in
    let Right : ℕ → PortReach → Type 0 = λ k p. IsPortReach (map wire_of c.args.wires.now) k p in (
      ap length pushed ∙ length-append rows (made ∷ []) ∙ ap (λ n. n + 1) c.loop-place.invariant.0,
      λ k p there. each-pushed Right rows made c.loop-place.place c.loop-place.invariant.0 c.loop-place.invariant.1 c.in_ok-reach_at.ensures k p (sym (ap (λ xs. slice_get xs k) pushed) ∙ there),
    )

pub loop-atom-preserved : goal.loop-atom-preserved
loop-atom-preserved c =
    let words = c.loop-atom.readers.items in
    let word = c.readers_of.result in
    let atom = c.loop-atom.atom in
    let before = c.loop-atom.invariant in
    let pushed = c.in_ok-push-2.ensures.items in (
      ap length pushed ∙ length-append words (word ∷ []) ∙ ap (λ n. n + 1) before.0,
      λ a k below.
          ap (λ xs. has_bit (get_or xs a 0) k) pushed ∙
          ⊎_elim
          (λ earlier. ap (λ x. has_bit x k) (get_or_append_left words (word ∷ []) 0 a (omega (arith, earlier, before.0))) ∙ before.1 a k earlier)
          (λ past.
          let last : a ≡ atom = omega (arith, below, past) in
          ap (λ x. has_bit x k) (get_or_push words word 0 a (before.0 ∙ sym last)) ∙ c.readers_of.ensures k ∙ ap (λ m. can_read (map wire_of c.args.wires.now) m k) (sym last))
          (cases_lt a atom),
    )
