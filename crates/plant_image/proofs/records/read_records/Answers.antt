use Rattle.std.proofs.Common.{◌≡◌, ◌+◌, ◌-◌, ◌≤◌, ℕ, suc, List, [], ◌∷◌, ◌++◌, Some, None, length, sym, ◌∙◌, ap, append-nil, append_assoc, arith}
use Rattle.std.specs.List.{range_with_len}
use Rattle.std.proofs.lemmas.List.{length-append}
use Rattle.std.proofs.lemmas.Result.{err_from_is_err_and}
use Rattle.gated_journal.specs.Live.{live_among}
use Rattle.gated_journal.proofs.Fronts.{front}
use Rattle.record_codec.specs.Fired.{FiredFields}
use Rattle.record_codec.specs.Ring.{record_cell}
use Rattle.record_codec.specs.declared.layout.TheConstants.{LAST_NUMBER}
use Rattle.plant_model.specs.Plant.{PlantDefinition}
use Rattle.plant_model.specs.System.{plant_of}
use Rattle.plant_image.specs.Faults.{numbers_fault, record_fault}
use Rattle.plant_image.specs.Reading.{added}
use Rattle.plant_image.proofs.FirstFault.{told_first}
use Rattle.plant_image.proofs.NumberFaults.{record_at, numbers_first, numbers_rest, numbers_end, live_first, live_ends, none_there, some_there}
use Rattle.plant_image.proofs.records.read_records.Goals as goal

pub returns-in_err-push_record-clause-records : goal.returns-in_err-push_record-clause-records
returns-in_err-push_record-clause-records c =
    let p = err_from_is_err_and c.from_residual-in_err-push_record.result c.from_residual-in_err-push_record.ensures.1 in
    let n : ℕ = c.loop-number.number in
    let m : ℕ = c.args.base + c.args.ring - n in
    let k : ℕ = c.args.base + c.args.ring - (n + 1) in
    let is : m ≡ suc k = omega arith in
    rw (p.1, p.2) (told_first (record_fault (plant_of c.args.system.now) c.args.cells.now c.args.ring n) _ _ _
    (c.loop-number.invariant.rest ∙ numbers_first (plant_of c.args.system.now) c.args.cells.now c.args.ring n k m is)
    c.in_err-push_record.ensures.record)

pub returns-then-not-branch-clause-records : goal.returns-then-not-branch-clause-records
returns-then-not-branch-clause-records c =
    let n : ℕ = c.loop-number.number in
    let m : ℕ = c.args.base + c.args.ring - n in
    let there : record_at (plant_of c.args.system.now) c.args.cells.now c.args.ring n ≡ None = none_there (record_at (plant_of c.args.system.now) c.args.cells.now c.args.ring n) (sym c.in_ok-push_record.ensures.record.1 ∙ c.if-not-branch.true) in (
      c.loop-number.invariant.rest ∙ numbers_end (plant_of c.args.system.now) c.args.cells.now c.args.ring n m there c.in_ok-push_record.ensures.record.0,
      c.in_ok-push_record.ensures.added ∙ ap (added c.loop-number.records.items) there
          ∙ sym (c.loop-number.invariant.read ∙ ap (λ (l : List FiredFields). c.loop-number.records.items ++ l) (live_ends (plant_of c.args.system.now) c.args.cells.now c.args.ring n m there) ∙ append-nil c.loop-number.records.items),
    )

pub loop-number-init : goal.loop-number-init
loop-number-init c =
    let plant : PlantDefinition = plant_of c.args.system.now in
    let all : c.args.base + c.args.ring - c.args.base ≡ c.args.ring = omega arith in
    let read_for : ℕ → List FiredFields = λ m. live_among c.args.cells.now (record_cell (length plant.atoms) c.args.ring) (range_with_len c.args.base m) in
    record {
      room = c.in_ok-records.ensures.exact;
      long = omega (arith, c.in_ok-records.ensures.len);
      read = ap read_for (sym all) ∙ ap (λ (l : List FiredFields). l ++ read_for (c.args.base + c.args.ring - c.args.base)) (sym c.in_ok-records.ensures.items);
      rest = ap (λ (m : ℕ). numbers_fault plant c.args.cells.now c.args.ring (range_with_len c.args.base m)) (sym all);
      in_range = c.requires.base;
    }

pub loop-number-preserved : goal.loop-number-preserved
loop-number-preserved c =
    let plant : PlantDefinition = plant_of c.args.system.now in
    let n : ℕ = c.loop-number.number in
    let m : ℕ = c.args.base + c.args.ring - n in
    let k : ℕ = c.args.base + c.args.ring - (n + 1) in
    let is : m ≡ suc k = omega arith in
    let found = some_there (record_at plant c.args.cells.now c.args.ring n) (sym c.in_ok-push_record.ensures.record.1 ∙ c.if-not-branch.false) in
    let x : FiredFields = found.0 in
    let there : record_at plant c.args.cells.now c.args.ring n ≡ Some x = found.1 in
    let items : c.push_record.new.records.items ≡ c.loop-number.records.items ++ x ∷ [] = c.in_ok-push_record.ensures.added ∙ ap (added c.loop-number.records.items) there in
    let within : n ≤ LAST_NUMBER = c.in_ok-push_record.ensures.in_range c.if-not-branch.false in
    record {
      room = omega (arith, c.in_ok-push_record.ensures.room, c.loop-number.invariant.room);
      long = omega (arith, c.loop-number.invariant.long, ap length items, length-append c.loop-number.records.items (x ∷ []), c.loop-number.records.ok.0, c.push_record.new.records.ok.0);
      read = c.loop-number.invariant.read
          ∙ ap (λ (l : List FiredFields). c.loop-number.records.items ++ l) (live_first plant c.args.cells.now c.args.ring n k m x is there)
          ∙ sym (append_assoc c.loop-number.records.items (x ∷ []) (front (record_at plant c.args.cells.now c.args.ring) (n + 1) k))
          ∙ ap (λ (l : List FiredFields). l ++ front (record_at plant c.args.cells.now c.args.ring) (n + 1) k) (sym items);
      rest = c.loop-number.invariant.rest ∙ numbers_rest plant c.args.cells.now c.args.ring n k m x is there c.in_ok-push_record.ensures.record.0;
      in_range = omega (arith, within);
    }
