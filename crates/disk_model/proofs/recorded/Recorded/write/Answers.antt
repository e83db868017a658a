use Rattle.std.proofs.Common.{◌≡◌, ◌+◌, ◌-◌, ◌<◌, ◌≤◌, ◌++◌, ◌∷◌, [], Bool, ℕ, List, true, length, vec_len, take, drop, replicate, arith, refl, sym, ◌∙◌, ap, subst}
use Rattle.std.proofs.lemmas.List.{length-replicate, length-take-le}
use Rattle.std.proofs.lemmas.Slice.{pushed}
use Rattle.std.proofs.lemmas.Grind.{common_steps}
use Rattle.disk_model.specs.declared.change.Change.{Change}
use Rattle.disk_model.specs.declared.change.Change.TheVariants.{Write}
use Rattle.disk_model.specs.DiskState.{Moment, overwritten}
use Rattle.disk_model.specs.Recording.{Recording, at_rest}
use Rattle.disk_model.proofs.Overwrites.{length-overwritten}
use Rattle.disk_model.proofs.Replay.{replayed_more, past_more, lent_back, moment_same, kept_part}
use Rattle.disk_model.specs.Stretch.{AreClearOutside, AreSameOutside}
use Rattle.disk_model.proofs.Stretches.{clear_outside, same_outside, wider_inside}
use Rattle.disk_model.proofs.recorded.Recorded.write.Goals as goal

pub invariant_of-self : goal.invariant_of-self
invariant_of-self c =
    let inside = c.self.inside in
    let whole : c.overwrite.new.whole ≡ overwritten c.args.at (take c.args.put c.args.from.now) inside.bytes.items = grind (arith, common_steps) in
    let marks : c.mark.new.marks ≡ overwritten c.args.at (replicate (length c.args.from.now) true) inside.marks.items = grind (arith, common_steps) in
    let piece : c.overwrite-2.new.whole ≡ overwritten 0 (take c.args.put c.args.from.now) (replicate 1024 0) = grind (arith, common_steps) in
    let left : 0 < inside.room - vec_len inside.changes = subst (λ (s : Recording). 0 < s.room) (sym c.self.view_is) c.requires.room in
    let fits : c.args.at + length c.args.from.now ≤ length inside.bytes.items = subst (λ (s : Recording). c.args.at + length c.args.from.now ≤ length s.present.seen) (sym c.self.view_is) c.requires.inside in
    let part : length (take c.args.put c.args.from.now) ≡ c.args.put = length-take-le c.args.put c.args.from.now c.requires.part in
    let marked : length (replicate (length c.args.from.now) true) ≡ length c.args.from.now = length-replicate (length c.args.from.now) true in
    let held : inside.bytes.len ≡ length inside.bytes.items = inside.bytes.ok.0 in
    let held_marks : inside.marks.len ≡ length inside.marks.items = inside.marks.ok.0 in
    let many : length c.overwrite.new.whole ≡ length inside.bytes.items = ap (λ (l : List ℕ). length l) whole ∙ length-overwritten c.args.at (take c.args.put c.args.from.now) inside.bytes.items (omega (arith, part, fits, c.requires.part)) in
    let many_marks : length c.mark.new.marks ≡ length inside.marks.items = ap (λ (l : List Bool). length l) marks ∙ length-overwritten c.args.at (replicate (length c.args.from.now) true) inside.marks.items (omega (arith, marked, fits, c.self.invariant.marks)) in
    let back : take inside.bytes.len (c.overwrite.new.whole ++ drop (length c.overwrite.new.whole) inside.bytes.items) ≡ c.overwrite.new.whole = lent_back inside.bytes.len c.overwrite.new.whole inside.bytes.items (many ∙ sym held) (sym held) in
    let back_marks : take inside.marks.len (c.mark.new.marks ++ drop (length c.mark.new.marks) inside.marks.items) ≡ c.mark.new.marks = lent_back inside.marks.len c.mark.new.marks inside.marks.items (many_marks ∙ sym held_marks) (sym held_marks) in
    let seen_long : length (take inside.bytes.len (c.overwrite.new.whole ++ drop (length c.overwrite.new.whole) inside.bytes.items)) ≡ length inside.bytes.items = ap (λ (l : List ℕ). length l) back ∙ many in
    let present : Moment = record { seen = inside.bytes.items; pending = inside.marks.items } in
    let change : Change = Write (record { at = c.args.at; count = length c.args.from.now; put = c.args.put; bytes = c.overwrite-2.new.whole }) in
    let kept : take c.args.put c.overwrite-2.new.whole ≡ take c.args.put c.args.from.now = ap (λ (l : List ℕ). take c.args.put l) piece ∙ kept_part (take c.args.put c.args.from.now) (replicate 1024 0) c.args.put part in
    let seen : overwritten c.args.at (take c.args.put c.overwrite-2.new.whole) inside.bytes.items ≡ take inside.bytes.len (c.overwrite.new.whole ++ drop (length c.overwrite.new.whole) inside.bytes.items) = ap (λ (l : List ℕ). overwritten c.args.at l inside.bytes.items) kept ∙ sym whole ∙ sym back in
    record {
      marks = ap (λ (l : List Bool). length l) back_marks ∙ many_marks ∙ c.self.invariant.marks ∙ sym many ∙ ap (λ (l : List ℕ). length l) (sym back);
      synced = c.self.invariant.synced ∙ sym many ∙ ap (λ (l : List ℕ). length l) (sym back);
      first = c.self.invariant.first ∙ sym many ∙ ap (λ (l : List ℕ). length l) (sym back);
      replayed = replayed_more (at_rest inside.first.items) present _ inside.changes.items c.push.new.self.items change c.self.invariant.replayed (pushed (change ∷ []) refl c.unwrap.ensures c.push.ensures.items) (moment_same _ _ _ _ seen (sym marks ∙ sym back_marks));
      within = omega (arith, left, c.push.ensures.upper_bound);
      made = omega (arith, c.push.ensures.capacity, c.self.invariant.made);
      inside = wider_inside inside.written c.over-self-inside.result c.args.at (length c.args.from.now) c.over-self-inside.ensures _ (omega (arith, c.self.invariant.inside, seen_long)) (omega (arith, fits, seen_long));
      same =
          subst (λ (l : List ℕ). AreSameOutside c.over-self-inside.result inside.synced.items l) (sym (back ∙ whole))
          (same_outside inside.written c.over-self-inside.result c.args.at (length c.args.from.now) c.over-self-inside.ensures inside.synced.items inside.bytes.items (take c.args.put c.args.from.now) c.self.invariant.same (omega (arith, part, c.requires.part)) fits);
      clear =
          subst (λ (l : List Bool). AreClearOutside c.over-self-inside.result l) (sym (back_marks ∙ marks))
          (clear_outside inside.written c.over-self-inside.result c.args.at (length c.args.from.now) c.over-self-inside.ensures inside.marks.items (replicate (length c.args.from.now) true) c.self.invariant.clear marked (omega (arith, fits, c.self.invariant.marks)));
    }

pub returns-clause-past : goal.returns-clause-past
returns-clause-past c =
    let change : Change = Write (record { at = c.args.at; count = length c.args.from.now; put = c.args.put; bytes = c.overwrite-2.new.whole }) in
    past_more c.self.inside _ c.push.new.self.items change c.self.invariant c.self.view_is (pushed (change ∷ []) refl c.unwrap.ensures c.push.ensures.items)
