use Rattle.std.proofs.Common.{◌≡◌, ◌-◌, vec_len, ◌<◌, ◌++◌, ◌∷◌, [], Bool, ℕ, List, false, length, get_or, take, drop, replicate, arith, refl, sym, ◌∙◌, ap, subst}
use Rattle.std.proofs.lemmas.List.{length-replicate}
use Rattle.std.proofs.lemmas.Slice.{pushed}
use Rattle.disk_model.specs.declared.change.Change.TheVariants.{Sync}
use Rattle.disk_model.specs.DiskState.{Moment}
use Rattle.disk_model.specs.Recording.{Recording, at_rest}
use Rattle.disk_model.proofs.Replay.{replayed_more, past_more, lent_back, moment_of_marks}
use Rattle.disk_model.proofs.Stretches.{get_or-clear}
use Rattle.disk_model.proofs.recorded.Recorded.sync.Goals as goal

pub invariant_of-self : goal.invariant_of-self
invariant_of-self c =
    let inside = c.self.inside in
    let as_many : length c.unmark.new.marks ≡ length inside.marks.items = ap (λ (l : List Bool). length l) c.unmark.ensures ∙ length-replicate (length c.deref_mut-2.result.now) false ∙ ap (λ (l : List Bool). length l) c.deref_mut-2.ensures.value in
    let held : inside.marks.len ≡ length inside.marks.items = inside.marks.ok.0 in
    let marks : take inside.marks.len (c.unmark.new.marks ++ drop (length c.unmark.new.marks) inside.marks.items) ≡ c.unmark.new.marks = lent_back inside.marks.len c.unmark.new.marks inside.marks.items (as_many ∙ sym held) (sym held) in
    let present : Moment = record { seen = inside.bytes.items; pending = inside.marks.items } in
    let all_clear : replicate (length inside.marks.items) false ≡ c.unmark.new.marks = ap (λ (l : List Bool). replicate (length l) false) (sym c.deref_mut-2.ensures.value) ∙ sym c.unmark.ensures in
    let left : 0 < inside.room - vec_len inside.changes = subst (λ (s : Recording). 0 < s.room) (sym c.self.view_is) c.requires in
    let taken : c.take_over.new.bytes ≡ inside.bytes.items = c.take_over.ensures ∙ c.deref.ensures.value in
    let held_synced : inside.synced.len ≡ length inside.synced.items = inside.synced.ok.0 in
    let as_long : length c.take_over.new.bytes ≡ inside.synced.len = ap (λ (l : List ℕ). length l) taken ∙ sym c.self.invariant.synced ∙ sym held_synced in
    let synced : take inside.synced.len (c.take_over.new.bytes ++ drop (length c.take_over.new.bytes) inside.synced.items) ≡ inside.bytes.items = lent_back inside.synced.len c.take_over.new.bytes inside.synced.items as_long (sym held_synced) ∙ taken in
    record {
      marks = ap (λ (l : List Bool). length l) marks ∙ as_many ∙ c.self.invariant.marks;
      synced = ap (λ (l : List ℕ). length l) synced;
      first = c.self.invariant.first;
      replayed = replayed_more (at_rest inside.first.items) present _ inside.changes.items c.push.new.self.items Sync c.self.invariant.replayed (pushed (Sync ∷ []) refl c.unwrap.ensures c.push.ensures.items) (moment_of_marks inside.bytes.items _ _ (all_clear ∙ sym marks));
      within = omega (arith, left, c.push.ensures.upper_bound);
      made = omega (arith, c.push.ensures.capacity, c.self.invariant.made);
      inside = omega arith;
      same = λ i out. ap (λ (l : List ℕ). get_or l i 0) synced;
      clear = λ i out. ap (λ (l : List Bool). get_or l i false) (marks ∙ sym all_clear) ∙ get_or-clear (length inside.marks.items) i;
    }

pub returns-clause-past : goal.returns-clause-past
returns-clause-past c = past_more c.self.inside _ c.push.new.self.items Sync c.self.invariant c.self.view_is (pushed (Sync ∷ []) refl c.unwrap.ensures c.push.ensures.items)
