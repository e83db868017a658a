-- How a plant goes on that was booted from what a stop left.
use Rattle.std.proofs.Common.{◌≡◌, ⊎_elim, ℕ, ◌+◌, ◌-◌, ◌≤◌, Bool, false, List, [], ◌++◌, length, take, drop, Option, None, Some, sym, ◌∙◌, ap, subst, arith}
use Rattle.std.proofs.lemmas.Bool.{false≢true}
use Rattle.std.proofs.lemmas.List.{drop_all, length-drop, length-take-le, take_all, take-append-drop}
use Rattle.std.proofs.lemmas.Option.{none-some}
use Rattle.disk_model.specs.declared.cells.TheConstants.{BODY}
use Rattle.disk_model.specs.Cells.{Cell, cells_of, seen_cells}
use Rattle.disk_model.specs.DiskState.{DiskState, Moment, size_of}
use Rattle.disk_model.specs.declared.change.Tear.{Tear}
use Rattle.plant_core.specs.Plants.{view_of}
use Rattle.plant_image.specs.Contents.{contents_of, last_number}
use Rattle.plant_image.specs.Faults.{fault_of}
use Rattle.plant_image.specs.Standing.{StandsFor}
use Rattle.plant_image.specs.declared.fault.ImageFault.TheVariants.{NotFormatted}
use Rattle.recovery.specs.Booting.{IsBooted}
use Rattle.plant_model.specs.Firing.{FiringDefinition}
use Rattle.plant_model.specs.Plant.{PlantDefinition}
use Rattle.crash_explorer.specs.Judging.{IsRight, IsRightStop, IsRunOf, state_after}
use Rattle.crash_explorer.specs.Outcomes.{IsNextOf, IsRightNext}
use Rattle.crash_explorer.specs.Verdicts.{IsFound, IsOpened, found_in}
use Rattle.crash_explorer.specs.declared.booting.Found.{Found}
use Rattle.crash_explorer.specs.declared.booting.Found.TheVariants.{Booted, Refused}
use Rattle.crash_explorer.specs.declared.booting.Opened.{Opened}
use Rattle.crash_explorer.specs.declared.booting.Opened.TheVariants as opened
use Rattle.crash_explorer.specs.declared.outcome.Next.{Next}
use Rattle.crash_explorer.proofs.Fronts.{acked-run, front-of}

module _ (plant : PlantDefinition) (digest : List ℕ) where
  -- while the plant runs nothing else is right than what stands so
  pub right-running : (bytes : ℕ) (acked tail : List FiringDefinition) (cells : List Cell) → IsRightStop plant digest bytes acked tail false cells → IsRight plant digest bytes acked tail cells
  right-running bytes acked tail cells right = ⊎_elim (λ is. is) (λ wrong. absurd (false≢true wrong.0)) right

  -- and where all that was fired is acknowledged, it stands for all of it
  pub right-all : (bytes acked : ℕ) (fired : List FiringDefinition) (cells : List Cell) → length fired ≤ acked → IsRight plant digest bytes (take acked fired) (drop acked fired) cells → IsRight plant digest bytes fired [] cells
  right-all bytes acked fired cells all right =
      subst (λ (cs : List FiringDefinition). IsRight plant digest bytes fired cs cells) (drop_all acked fired all)
      (subst (λ (cs : List FiringDefinition). IsRight plant digest bytes cs (drop acked fired) cells) (take_all acked fired all) right)

  -- the first so many firings of a run are a run
  pub front-is-run : (number : ℕ) (fired : List FiringDefinition) → IsRunOf plant fired → IsRunOf plant (take number fired)
  front-is-run number fired run = acked-run plant (take number fired) (drop number fired) (subst (λ (cs : List FiringDefinition). IsRunOf plant cs) (sym (take-append-drop number fired)) run)

  -- cells that are right and hold so many firings stand for the state after the first so many
  pub right-stands : (bytes number acked : ℕ) (fired : List FiringDefinition) (formatting : Bool) (cells : List Cell) → acked ≤ length fired
      → fault_of plant digest bytes cells ≡ None → number ≡ last_number (contents_of (length plant.atoms) cells)
      → IsRightStop plant digest bytes (take acked fired) (drop acked fired) formatting cells
      → StandsFor plant digest bytes cells (state_after plant (take number fired)) (length (take number fired))
  right-stands bytes number acked fired formatting cells within sound last right = ⊎_elim
      (λ is.
      let k : ℕ = is.0 in
      let long : length (take acked fired) ≡ acked = length-take-le acked fired within in
      let same : acked + k ≡ number = omega (arith, is.2.number_is, last, long) in
      let rest : length (drop acked fired) ≡ length fired - acked = length-drop acked fired in
      let all : number ≤ length fired = omega (arith, is.1, rest, same, within) in
      let front : take acked fired ++ take k (drop acked fired) ≡ take number fired = front-of fired acked k ∙ ap (λ (n : ℕ). take n fired) same in
      let many : length (take number fired) ≡ number = length-take-le number fired all in
      record {
        sound = is.2.sound;
        states_are = is.2.states_are ∙ ap (λ (cs : List FiringDefinition). state_after plant cs) front;
        number_is = sym last ∙ sym many;
      })
      (λ wrong. absurd (none-some NotFormatted (sym sound ∙ wrong.1)))
      right

  -- what was opened is found as what its cells boot to
  pub found-opened : (s : DiskState) (o : Opened) → IsOpened plant digest s o → IsFound plant digest (size_of s) (seen_cells (BODY + 1) s) (found_in o)
  found-opened s (opened.Plant p) is =
      let none : length (view_of p).tail ≡ 0 = ap (λ (cs : List FiringDefinition). length cs) is.3.tail in
      (is.3.sound, omega (arith, is.3.number, none))
  found-opened s (opened.Refused fault) is = is

  -- and it is the same of a device of which nothing was changed
  pub opened-alike : (s t : DiskState) (o : Opened) → t.now ≡ s.now → IsOpened plant digest t o → IsOpened plant digest s o
  opened-alike s t (opened.Plant p) same is = (
    is.0,
    is.1,
    is.2 ∙ ap (λ (m : Moment). length m.seen) same,
    subst (λ (m : Moment). IsBooted plant digest (length m.seen) (cells_of (BODY + 1) m.seen) (view_of p)) same is.3,
  )
  opened-alike s t (opened.Refused fault) same is = subst (λ (m : Moment). fault_of plant digest (length m.seen) (cells_of (BODY + 1) m.seen) ≡ Some fault) same is

  -- a plant that goes on as it should is right, where there is one
  pub next-right : (bytes : ℕ) (tear : Tear) (fired : List FiringDefinition) (cells : List Cell) (found : Found) (next : Option Next) → IsNextOf plant digest bytes tear fired cells found next → IsRightNext next
  next-right bytes tear fired cells (Booted number) next is = subst (λ (o : Option Next). IsRightNext o) (sym is.3) is.4.right_is
  next-right bytes tear fired cells (Refused fault) next is = subst (λ (o : Option Next). IsRightNext o) (sym is) tt
