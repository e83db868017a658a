use Rattle.std.proofs.Common.{inl, inr, ℕ, Bool, if◌then◌else◌, sym, ◌∙◌, ap}
use Rattle.std.proofs.lemmas.Bool.{cases_Bool}
use Rattle.snapshot_writer.specs.Slots.{is_newer, saved_at}
use Rattle.snapshot_writer.proofs.NewestStates.{slot_is_slot, either_is_reached}
use Rattle.snapshot_writer.proofs.laws.the_newest_stands_in_its_slot.Goals as goal

pub returns-clause-slot : goal.returns-clause-slot
returns-clause-slot c atom cells = slot_is_slot (saved_at atom 0 cells) (saved_at atom 1 cells)

pub returns-clause-held : goal.returns-clause-held
returns-clause-held c atom cells =
    let first = saved_at atom 0 cells in
    let second = saved_at atom 1 cells in
    elim (cases_Bool (is_newer second first)) [
      | inl is ↦ ap (λ (t : Bool). saved_at atom (if t then 1 else 0) cells) is ∙ sym (ap (λ (t : Bool). if t then second else first) is)
      | inr is ↦ ap (λ (t : Bool). saved_at atom (if t then 1 else 0) cells) is ∙ sym (ap (λ (t : Bool). if t then second else first) is)
    ]

pub returns-clause-greatest : goal.returns-clause-greatest
returns-clause-greatest c atom slot cells saved within is = either_is_reached saved slot (λ (k : ℕ). saved_at atom k cells) within is
