use Rattle.std.proofs.Common.{◌≡◌, ◌+◌, ℕ, refl, sym, ◌∙◌, ap, subst, List, length, set, arith}
use Rattle.petri_atom.specs.Local.{Local}
use Rattle.plant_model.specs.Plant.{PlantDefinition}
use Rattle.plant_model.specs.System.{plant_of}
use Rattle.plant_image.specs.Contents.{Contents, replayed}
use Rattle.plant_image.specs.Faults.{fault_of_replay}
use Rattle.plant_image.specs.Reading.{contents_in}
use Rattle.plant_image.specs.declared.replaying.Reached.{Reached}
use Rattle.plant_image.proofs.ByAtoms.{element_at}
use Rattle.plant_image.proofs.FirstFault.{told_first}
use Rattle.plant_image.proofs.SoFar.{SoFar, ends_told, none_so_far, so_far_more, told_of_atom}
use Rattle.parallel_replay.specs.Shares.{IsFoundOf, IsPlaced}
use Rattle.parallel_replay.proofs.Placing.{found_at}
use Rattle.parallel_replay.proofs.gathering.gather.Goals as goal

pub loop-number-init : goal.loop-number-init
loop-number-init c = none_so_far (plant_of c.args.system.now) (contents_in c.args.held) c.in_ok-states.states c.in_ok-states.ensures.of_plant c.in_ok-states.ensures.fits

pub unreachable-requires : goal.unreachable-requires
unreachable-requires c =
    let plant : PlantDefinition = plant_of c.args.system.now in
    let held : Contents = contents_in c.args.held in
    let n : ℕ = c.loop-number.number in
    let there = element_at plant.atoms n (omega (arith, c.loop-number-test.true, c.len-number-end.ensures, c.requires.sound.as_many)) in
    let placed = found_at plant held c.args.workers n c.args.shares.now c.index-shares-number.result c.in-Ok.share c.index.result.now there.0 c.requires.some c.requires.shares c.index-shares-number.is c.in-Ok.is c.index.ensures there.1 in
    subst (IsPlaced held n there.0) c.in_default-index.is placed

pub returns-in-Err : goal.returns-in-Err
returns-in-Err c =
    let plant : PlantDefinition = plant_of c.args.system.now in
    let held : Contents = contents_in c.args.held in
    let n : ℕ = c.loop-number.number in
    let there = element_at plant.atoms n (omega (arith, c.loop-number-test.true, c.len-number-end.ensures, c.requires.sound.as_many)) in
    let placed = found_at plant held c.args.workers n c.args.shares.now c.index-shares-number.result c.in-Ok.share c.index.result.now there.0 c.requires.some c.requires.shares c.index-shares-number.is c.in-Ok.is c.index.ensures there.1 in
    told_first (fault_of_replay n (replayed held n there.0)) _ _ c.in-Err.fault
    (told_of_atom plant held n c.loop-number.states c.loop-number.counts c.loop-number.invariant there.0 there.1)
    (subst (IsFoundOf held n there.0) c.in-Err.is (subst (IsPlaced held n there.0) c.in-Some.is placed))

pub loop-number-preserved : goal.loop-number-preserved
loop-number-preserved c =
    let plant : PlantDefinition = plant_of c.args.system.now in
    let held : Contents = contents_in c.args.held in
    let n : ℕ = c.loop-number.number in
    let there = element_at plant.atoms n (omega (arith, c.loop-number-test.true, c.len-number-end.ensures, c.requires.sound.as_many)) in
    let placed = found_at plant held c.args.workers n c.args.shares.now c.index-shares-number.result c.in-Ok.share c.index.result.now there.0 c.requires.some c.requires.shares c.index-shares-number.is c.in-Ok.is c.index.ensures there.1 in
    let reached : Reached = c.in-Ok-found.reached in
    let found = subst (IsFoundOf held n there.0) c.in-Ok-found.is (subst (IsPlaced held n there.0) c.in-Some.is placed) in
    let far : SoFar plant held (n + 1) (set c.loop-number.states n reached.state) (set c.loop-number.counts n reached.count) =
    so_far_more plant held n c.loop-number.states c.loop-number.counts c.loop-number.invariant there.0 there.1 c.keeps_its_rules.ensures.few (record { state = reached.state; count = reached.count }) found.0 found.1 in
    subst (λ (s : List Local). SoFar plant held (n + 1) s (set c.loop-number.counts n reached.count)) (sym (c.set.ensures ∙ ap (λ (l : Local). set c.loop-number.states n l) c.copy.ensures)) far

pub returns : goal.returns
returns c =
    let plant : PlantDefinition = plant_of c.args.system.now in
    let all : c.loop-number.number ≡ length plant.atoms = omega (arith, c.loop-number-test.false, c.loop-number.auto.number-end, c.len-number-end.ensures, c.requires.sound.as_many) in
    ends_told plant (contents_in c.args.held) c.loop-number.number c.loop-number.states c.loop-number.counts c.loop-number.invariant all _ refl refl refl
