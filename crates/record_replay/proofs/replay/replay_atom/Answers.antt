use Rattle.std.proofs.Common.{◌≡◌, ◌∙◌, sym, subst, Ok}
use Rattle.petri_atom.specs.Atom.{definition_of}
use Rattle.petri_atom.specs.Definition.{Fits}
use Rattle.record_replay.specs.Replay.{Position, replay_record}
use Rattle.record_replay.proofs.PartWords.{goes-on, goes-past}
use Rattle.record_replay.proofs.replay.replay_atom.Goals as goal
use Rattle.record_replay.proofs.replay.replay_atom.Goals.{then-has_atom+in_ok-count, else-has_atom}

pub loop-place-preserved : goal.loop-place-preserved
loop-place-preserved c =
    let a = definition_of c.args.atom.now in
    let before : Position = record { state = c.loop-place.state; count = c.loop-place.count } in
    let after : Position = record { state = c.if-has_atom.state; count = c.if-has_atom.count } in
    elim c.if-has_atom.branch [
      | then-has_atom+in_ok-count w ↦
          let r = w.index-records-place.result in
          let fires : replay_record a c.args.number c.args.saved r before ≡ Ok after = rw (w.state-is, w.count-is) w.in_ok-count.ensures.replayed in
          record {
            same = goes-on a c.args.number c.args.saved c.args.records.now c.loop-place.place r before after c.loop-place-test.true w.index-records-place.is fires ∙ c.loop-place.invariant.same;
            fits = subst (Fits a) (sym w.state-is) w.in_ok-count.ensures.fits;
          }
      | else-has_atom w ↦
          rw (w.state-is, w.count-is) (record {
            same = goes-past a c.args.number c.args.saved c.args.records.now c.args.parts.now c.requires.parts c.loop-place.place before c.loop-place-test.true (sym c.has_atom.ensures ∙ w.if-has_atom.false) ∙ c.loop-place.invariant.same;
            fits = c.loop-place.invariant.fits;
          })
    ]
