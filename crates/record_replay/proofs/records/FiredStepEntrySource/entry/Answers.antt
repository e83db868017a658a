use Rattle.std.proofs.Common.{◌≡◌, ◌<◌, ◌∙◌, ℕ, List, Some, sym, ap, subst, arith, get_or, length}
use Rattle.std.proofs.lemmas.Option.{slice_get-get_or}
use Rattle.plant_model.specs.declared.choice.Move.{Move}
use Rattle.record_codec.specs.Entry.{IsEntry}
use Rattle.record_codec.specs.declared.entry.Entry.{Entry}
use Rattle.petri_atom.specs.Local.{Row}
use Rattle.record_replay.specs.Records.{entries_delivered, entry_by}
use Rattle.record_replay.specs.declared.records.FiredStep.{FiredStep}
use Rattle.record_replay.proofs.RecordEntries.{length-told, told-entry, told-in-range}
use Rattle.record_replay.proofs.records.FiredStepEntrySource.entry.Goals as goal

abbrev none : Move
none = record { atom = 0; transition = 0 }

-- what the participants did, in their order
abbrev entries_in : FiredStep → List Entry
entries_in step = entries_delivered step.counts.now step.choice.now.moves step.delivered.now

-- a place of an entry is one of a move
at-move : (step : FiredStep) (place : ℕ) → place < length (entries_in step) → place < length step.choice.now.moves
at-move step place there = omega (arith, there, length-told step.counts.now step.choice.now.moves step.delivered.now step.each)

-- the entry there is in the ranges of one
its-ranges : (step : FiredStep) (place : ℕ) (moves : List Move) (got : Row) → moves ≡ step.choice.now.moves → place < length (entries_in step)
    → IsEntry step.number (entry_by step.counts.now (get_or moves place none) (get_or step.delivered.now place got))
its-ranges step place moves got same there =
    subst (λ (ms : List Move). IsEntry step.number (entry_by step.counts.now (get_or ms place none) (get_or step.delivered.now place got))) (sym same)
    (told-in-range step.counts.now step.number step.choice.now.moves step.delivered.now place none got step.each step.in_range.entries (at-move step place there))

pub bounds-moves-place : goal.bounds-moves-place
bounds-moves-place c = omega (arith, at-move c.args.self.now c.args.place c.requires, ap length c.as_slice-moves.ensures.moves)

pub listed : goal.listed
listed c = omega (arith, at-move c.args.self.now c.args.place c.requires, c.args.self.now.each)

pub entry_of-requires-clause-there : goal.entry_of-requires-clause-there
entry_of-requires-clause-there c =
    (its-ranges c.args.self.now c.args.place c.as_slice-moves.result.now c.index-self-place.result c.as_slice-moves.ensures.moves c.requires).atom_within

pub entry_of-requires-clause-room : goal.entry_of-requires-clause-room
entry_of-requires-clause-room c =
    let its = its-ranges c.args.self.now c.args.place c.as_slice-moves.result.now c.index-self-place.result c.as_slice-moves.ensures.moves c.requires in
    omega (arith, its.participation_within, c.args.self.now.in_range.number_within)

pub returns : goal.returns
returns c =
    let step = c.args.self.now in
    let place = c.args.place in
    let within = at-move step place c.requires in
    let inside : place < length step.delivered.now = omega (arith, within, c.args.self.now.each) in
    let e : Entry = c.entry_of.result in
    slice_get-get_or (entries_in step) place e c.requires ∙
    ap Some (told-entry step.counts.now step.choice.now.moves step.delivered.now place e none c.index-self-place.result within inside ∙
    ap (λ (ms : List Move). entry_by step.counts.now (get_or ms place none) (get_or step.delivered.now place c.index-self-place.result)) (sym c.as_slice-moves.ensures.moves) ∙
    sym c.entry_of.ensures)
