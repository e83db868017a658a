use Rattle.std.proofs.Common.{◌+◌, ◌≡◌, ◌≤◌, ℕ, true, List, ◌++◌, length, drop, map, take, inl, refl, sym, ◌∙◌, ap, subst}
use Rattle.std.proofs.lemmas.List.{length-map}
use Rattle.disk_model.specs.declared.cells.TheConstants.{BODY}
use Rattle.disk_model.specs.Cells.{Cell, MayBe}
use Rattle.disk_model.specs.DiskState.{DiskState, size_of}
use Rattle.disk_model.specs.MemDisk.{state_of}
use Rattle.petri_atom.specs.Atom.{definition_of as definition_of_atom}
use Rattle.plant_core.specs.Driven.{IsDriven}
use Rattle.plant_core.specs.Events.{IsEventRun, all_fired}
use Rattle.plant_core.specs.Handed.{hands_of}
use Rattle.plant_core.specs.Hands.{HandFields, empty_hands}
use Rattle.plant_core.specs.Plants.{definition_of, device_of, text_digest, view_of}
use Rattle.plant_core.specs.Stops.{StandsForFront}
use Rattle.plant_core.specs.View.{View}
use Rattle.plant_core.specs.declared.events.Happened.{Happened}
use Rattle.plant_model.specs.Firing.{FiringDefinition}
use Rattle.plant_model.specs.Chosen.{fired_of}
use Rattle.plant_model.specs.Plant.{PlantDefinition}
use Rattle.crash_explorer.specs.Judging.{IsRight, IsRunOf}
use Rattle.crash_explorer.proofs.Stopped.{is-run, running-right, within}
use Rattle.crash_explorer.proofs.running.run_booted.Goals as goal

pub returns : goal.returns
returns c =
    let plant : PlantDefinition = definition_of c.args.plant in
    let digest : List ℕ = text_digest c.args.plant in
    let bytes : ℕ = size_of (device_of c.args.plant) in
    let v : View = view_of c.args.plant in
    let driven = c.drive.new.plant in
    let w : View = view_of driven in
    let hs : List Happened = c.in_ok-answers.answers.items in
    let behind : List FiringDefinition = map fired_of c.args.behind.items in
    let at = c.requires in
    let run : IsEventRun plant v hs w = c.in_ok-answers.ensures.driven.run in
    let as_many : length c.atoms.result.now ≡ length plant.atoms =
    sym (length-map c.atoms.result.now definition_of_atom) ∙ ap length c.atoms.ensures ∙ ap (λ (p : PlantDefinition). length p.atoms) c.system.ensures.plant in
    let empty : hands_of c.in_ok-hands.hands ≡ empty_hands (length plant.atoms) = c.in_ok-hands.ensures ∙ ap empty_hands as_many in
    let fired : List FiringDefinition = map fired_of c.in_ok-fired.fired.items in
    let all : List FiringDefinition = behind ++ all_fired hs in
    let same : fired ≡ all = c.in_ok-fired.ensures ∙ ap (λ (l : List Happened). behind ++ all_fired l) c.deref.ensures.value in
    let acked : c.front-acked.result.acked ≡ w.number = c.front-acked.ensures.acked in
    let left : state_of c.into_disk.result.disk ≡ device_of driven = c.into_disk.ensures in
    let keeps : (device_of driven).keeps ≡ true = ap (λ (s : DiskState). s.keeps) (sym left) in
    let fronts : (cells : List Cell) → MayBe (BODY + 1) (device_of driven) cells → StandsForFront plant digest bytes w cells =
    subst (λ (n : ℕ). (cells : List Cell) → MayBe (BODY + 1) (device_of driven) cells → StandsForFront plant digest n w cells) c.drive.ensures.size
    (subst (λ (d : List ℕ). (cells : List Cell) → MayBe (BODY + 1) (device_of driven) cells → StandsForFront plant d (size_of (device_of driven)) w cells) c.drive.ensures.digest
    (subst (λ (p : PlantDefinition). (cells : List Cell) → MayBe (BODY + 1) (device_of driven) cells → StandsForFront p (text_digest driven) (size_of (device_of driven)) w cells) c.drive.ensures.plant
    (c.stands_for_a_front.ensures keeps))) in
    record {
      ended = record {
        run = subst (λ (l : List FiringDefinition). IsRunOf plant l) (sym same) (is-run plant digest bytes behind v w hs at run);
        acked = subst (λ (l : List FiringDefinition). c.front-acked.result.acked ≤ length l) (sym same) (subst (λ (n : ℕ). n ≤ length all) (sym acked) (within plant digest bytes behind v w hs at run));
        size = ap size_of left ∙ c.drive.ensures.size;
        stops = λ cells may.
            let right : IsRight plant digest bytes (take w.number all) (drop w.number all) cells =
            running-right plant digest bytes behind v w hs at run cells (fronts cells (subst (λ (s : DiskState). MayBe (BODY + 1) s cells) left may)) in
            inl (subst (λ (n : ℕ). IsRight plant digest bytes (take n fired) (drop n fired) cells) (sym acked)
            (subst (λ (l : List FiringDefinition). IsRight plant digest bytes (take w.number l) (drop w.number l) cells) (sym same) right));
      };
      lived = record {
        happened = hs;
        closed = w;
        began = device_of c.args.plant;
        hands = hands_of c.drive.new.hands;
        driven = subst (λ (s : DiskState). IsDriven plant digest v (device_of c.args.plant) (empty_hands (length plant.atoms)) c.args.events.now hs w s (hands_of c.drive.new.hands)) (sym left)
            (subst (λ (held : HandFields). IsDriven plant digest v (device_of c.args.plant) held c.args.events.now hs w (device_of driven) (hands_of c.drive.new.hands)) empty c.in_ok-answers.ensures.driven);
        fired_are = same;
        acked_are = acked;
      };
      stage = refl;
    }
