use Rattle.std.proofs.Common.{◌++◌, ◌∷◌, [], ◌∙◌, List, ap, sym, arith, map, ℕ}
use Rattle.std.specs.List.{range_with_len}
use Rattle.std.proofs.lemmas.List.FromFn.{map-range_with_len_more}
use Rattle.record_codec.specs.Saved.{SavedFields}
use Rattle.plant_image.specs.Contents.{newest_held}
use Rattle.image_inspection.proofs.contents.newest_states.Goals as goal

pub loop-atom-preserved : goal.loop-atom-preserved
loop-atom-preserved c =
    let i : ℕ = c.loop-atom.atom in
    record {
      room = omega arith;
      long = omega arith;
      read = c.push_reserved.ensures.items
          ∙ ap (λ (l : List SavedFields). l ++ c.newest_held.result ∷ []) c.loop-atom.invariant.read
          ∙ ap (λ (s : SavedFields). map (newest_held c.args.cells.now) (range_with_len 0 i) ++ s ∷ []) c.newest_held.ensures
          ∙ sym (map-range_with_len_more (newest_held c.args.cells.now) 0 i i (omega arith));
    }
