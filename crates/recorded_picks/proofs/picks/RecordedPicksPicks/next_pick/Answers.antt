use Rattle.std.proofs.Common.{◌≡◌, ◌+◌, refl, sym, ◌∙◌, ap, [], ◌∷◌, None, Some}
use Rattle.plant_words.specs.Lines.{lines_of}
use Rattle.plant_model.specs.System.{plant_of}
use Rattle.run_text.specs.declared.pick.Pick.{Pick}
use Rattle.recorded_picks.proofs.Lefts.{ended, given, given-before, kept-on, passed, picks_behind}
use Rattle.recorded_picks.proofs.picks.RecordedPicksPicks.next_pick.Goals as goal

pub returns-in_default : goal.returns-in_default
returns-in_default g c =
    let here = c.loop-self.self-inside in
    let plant = plant_of here.names.system.now in
    let old = g.R.Read.remaining here.reader in
    let new = g.R.Read.remaining c.read_line.new.reader in
    let kept = c.read_line.new.line.items in
    let none : lines_of kept ≡ [] = ap lines_of (sym c.as_slice.ensures.value) ∙ sym c.new.ensures.lines ∙ c.in_default.ensures.line in
    given-before c.args.self.now (picks_behind here.numbers plant here.lines old) (picks_behind here.numbers plant here.lines new) None c.loop-self.invariant
    (ended here.numbers plant here.lines old new kept c.in_ok-read_line.ensures.kept c.in_ok-read_line.ensures.left none)

pub returns-in-Some-take_of_line : goal.returns-in-Some-take_of_line
returns-in-Some-take_of_line g c =
    let here = c.loop-self.self-inside in
    let plant = plant_of here.names.system.now in
    let old = g.R.Read.remaining here.reader in
    let new = g.R.Read.remaining c.read_line.new.reader in
    let kept = c.read_line.new.line.items in
    let line = c.in-Some.line.now in
    let more = c.next_line.new.self in
    let first : lines_of kept ≡ line ∷ more = ap lines_of (sym c.as_slice.ensures.value) ∙ sym c.new.ensures.lines ∙ c.in-Some.ensures.line in
    let pick : Pick = record { place = here.lines + 1; take = c.in-Some-take_of_line.take } in
    given-before c.args.self.now (picks_behind here.numbers plant here.lines old) (picks_behind here.numbers plant (here.lines + 1) new) (Some pick) c.loop-self.invariant
    (given here.numbers plant here.lines old new kept c.in_ok-read_line.ensures.kept c.in_ok-read_line.ensures.left line more first pick refl c.in-Some-take_of_line.ensures)

pub loop-self-preserved : goal.loop-self-preserved
loop-self-preserved g c =
    let here = c.loop-self.self-inside in
    let plant = plant_of here.names.system.now in
    let old = g.R.Read.remaining here.reader in
    let new = g.R.Read.remaining c.read_line.new.reader in
    let kept = c.read_line.new.line.items in
    let line = c.in-Some.line.now in
    let more = c.next_line.new.self in
    let first : lines_of kept ≡ line ∷ more = ap lines_of (sym c.as_slice.ensures.value) ∙ sym c.new.ensures.lines ∙ c.in-Some.ensures.line in
    kept-on c.args.self.now (picks_behind here.numbers plant here.lines old) (picks_behind here.numbers plant (here.lines + 1) new) c.loop-self.invariant
    (passed here.numbers plant here.lines old new kept c.in_ok-read_line.ensures.kept c.in_ok-read_line.ensures.left line more first c.in_default-take_of_line.ensures)
