use Rattle.std.proofs.Common.{◌≡◌, ◌+◌, ◌-◌, ◌≤◌, ℕ, List, [], ◌∷◌, ◌++◌, Option, Some, None, map, sym, ◌∙◌, ap, append-nil, append_assoc, arith}
use Rattle.std.specs.List.{range_with_len}
use Rattle.std.specs.Option.{some_prefix}
use Rattle.disk_model.specs.Cells.{cell}
use Rattle.gated_journal.specs.Live.{live_among, record_in}
use Rattle.record_codec.specs.Fired.{FiredFields}
use Rattle.record_codec.specs.Ring.{record_cell}
use Rattle.record_codec.specs.declared.layout.TheConstants.{LAST_NUMBER}
use Rattle.image_inspection.proofs.Ranges.{prefix-first, prefix-ends}
use Rattle.image_inspection.proofs.contents.live_records.Goals as goal

pub returns-in_default-clause-records : goal.returns-in_default-clause-records
returns-in_default-clause-records c =
    let n : ℕ = c.loop-number.number in
    let end : ℕ = c.args.base + c.args.ring in
    let at : ℕ → Option FiredFields = λ (k : ℕ). record_in k (cell c.args.cells.now (record_cell c.args.atoms c.args.ring k)) in
    let there : at n ≡ None = sym c.record_in.ensures.record ∙ c.in_default.is in
    sym (c.loop-number.invariant.read ∙ ap (λ (l : List FiredFields). c.loop-number.records.items ++ l) (prefix-ends at n end (omega arith) there) ∙ append-nil c.loop-number.records.items)

pub loop-number-init : goal.loop-number-init
loop-number-init c =
    let all : c.args.base + c.args.ring - c.args.base ≡ c.args.ring = omega arith in
    let read_for : ℕ → List FiredFields = λ m. live_among c.args.cells.now (record_cell c.args.atoms c.args.ring) (range_with_len c.args.base m) in
    record {
      room = c.in_ok-records.ensures.exact;
      long = omega (arith, c.in_ok-records.ensures.len);
      read = ap read_for (sym all) ∙ ap (λ (l : List FiredFields). l ++ read_for (c.args.base + c.args.ring - c.args.base)) (sym c.in_ok-records.ensures.items);
      in_range = c.requires.base;
    }

pub loop-number-preserved : goal.loop-number-preserved
loop-number-preserved c =
    let n : ℕ = c.loop-number.number in
    let end : ℕ = c.args.base + c.args.ring in
    let x : FiredFields = c.in-Some.fired in
    let at : ℕ → Option FiredFields = λ (k : ℕ). record_in k (cell c.args.cells.now (record_cell c.args.atoms c.args.ring k)) in
    let there : at n ≡ Some x = sym c.record_in.ensures.record ∙ c.in-Some.is in
    let within : n ≤ LAST_NUMBER = rw c.in-Some.is at c.record_in.ensures.in_range in
    let rest : List FiredFields = some_prefix (map at (range_with_len (n + 1) (end - (n + 1)))) in
    record {
      room = omega arith;
      long = omega arith;
      read = c.loop-number.invariant.read
          ∙ ap (λ (l : List FiredFields). c.loop-number.records.items ++ l) (prefix-first at n end x (omega arith) there)
          ∙ sym (append_assoc c.loop-number.records.items (x ∷ []) rest)
          ∙ ap (λ (l : List FiredFields). l ++ rest) (sym c.push_reserved.ensures.items);
      in_range = omega (arith, within);
    }
