use Rattle.std.proofs.Common.{◌≡◌, ℕ, List, refl, sym, subst, get_or, length, arith, Some, slice_get}
use Rattle.std.proofs.lemmas.Option.{slice_get_read, slice_get_within}
use Rattle.record_codec.specs.Fired.{FiredFields}
use Rattle.record_replay.specs.Parts.{IsOfParts}
use Rattle.plant_image.proofs.PartWords.{parts-more}
use Rattle.plant_image.proofs.parts.parts_of.Goals as goal

pub loop-fired-preserved : goal.loop-fired-preserved
loop-fired-preserved c =
    let records : List FiredFields = c.args.records.now in
    let n : ℕ = c.loop-fired.fired-index in
    let words : List ℕ = c.loop-fired.parts.items in
    let x : FiredFields = c.fired-item.result in
    let long : length words ≡ n = omega (arith, c.loop-fired.invariant.long, c.loop-fired.parts.ok.0) in
    let there : slice_get records n ≡ Some x = slice_get_read records (length records) n x refl c.loop-fired-test.true c.fired-item.is in
    record {
      room = omega (arith, c.push_reserved.ensures.capacity, c.loop-fired.invariant.room);
      long = omega (arith, c.push_reserved.ensures.len, c.loop-fired.invariant.long);
      each = λ k r below at. subst (λ (l : List ℕ). IsOfParts r (get_or l k 0)) (sym c.push_reserved.ensures.items)
          (parts-more records words n c.atoms_in.result x long there c.atoms_in.ensures c.loop-fired.invariant.each k r below at);
    }

pub returns : goal.returns
returns c =
    let records : List FiredFields = c.args.records.now in
    record {
      as_many = omega (arith, c.loop-fired.invariant.long, c.loop-fired.parts.ok.0, c.loop-fired-test.false);
      each = λ k r at. c.loop-fired.invariant.each k r (omega (arith, slice_get_within records k r at, c.loop-fired-test.false)) at;
    }
