-- What the words of a command ask for.
use Rattle.std.specs.Prelude.{◌≡◌, ℕ, List, [], Bool, true, false, ◌||◌, codes, if◌then◌else◌, is_some, map, option_and_then, option_map, unwrap_or, Option, None, Some, Ok}
use Rattle.std.specs.Borrow.{Bor}
use Rattle.std.specs.declared.vec.Vec.{Vec}
use Rattle.std.specs.declared.alloc.Global.{Global}
use Rattle.command_line.specs.Apart.{apart_alone, apart_in}
use Rattle.command_line.specs.Pickings.{IsSaid, numbers_in, pick_words}
use Rattle.command_line.specs.Rings.{ring_in}
use Rattle.command_line.specs.Runs.{shape_in}
use Rattle.command_line.specs.Seeds.{seeds_in}
use Rattle.command_line.specs.Summary.{PrintsNothing}
use Rattle.command_line.specs.Watching.{watches_in}
use Rattle.command_line.specs.Weights.{AreWeights}
use Rattle.command_line.specs.Said.{word_of, words_of}
use Rattle.command_line.specs.Workers.{workers_in}
use Rattle.command_line.specs.declared.picking.TheConstants.{USUAL_SEED}
use Rattle.command_line.specs.declared.names.CommandName.{CommandName}
use Rattle.command_line.specs.declared.names.CommandName.TheVariants as command
use Rattle.command_line.specs.declared.request.Picking.{Picking}
use Rattle.command_line.specs.declared.request.Picking.TheVariants.{Random}
use Rattle.command_line.specs.declared.request.Runs.{Runs}
use Rattle.command_line.specs.declared.request.Runs.TheVariants.{One, Seeds}
use Rattle.command_line.specs.declared.request.Tally.{Tally}
use Rattle.command_line.specs.declared.request.Recording.{Recording}
use Rattle.command_line.specs.declared.request.Trace.{Trace}
use Rattle.command_line.specs.declared.request.View.{View}
use Rattle.command_line.specs.declared.request.View.TheVariants.{Whole, Machines, Outline}
use Rattle.command_line.specs.declared.request.Drawing.{Drawing}
use Rattle.command_line.specs.declared.request.Task.{Task}
use Rattle.command_line.specs.declared.request.Task.TheVariants as task
use Rattle.command_line.specs.declared.request.IfThere.TheVariants.{Formatted, Refused}
use Rattle.command_line.specs.declared.request.Asking.{Asking}
use Rattle.command_line.specs.declared.request.Asking.TheVariants.{InTurn, Strict, Shared}
use Rattle.command_line.specs.declared.request.Care.{Care}
use Rattle.command_line.specs.declared.request.Care.TheVariants.{Usual, Careful}
use Rattle.command_line.specs.declared.request.Inspection.{Inspection}
use Rattle.command_line.specs.declared.request.ImageTask.{ImageTask}
use Rattle.command_line.specs.declared.request.ImageTask.TheVariants as image
use Rattle.command_line.specs.declared.request.Exploration.{Exploration}
use Rattle.command_line.specs.declared.request.LoneTask.{LoneTask}
use Rattle.command_line.specs.declared.request.LoneTask.TheVariants as lone
use Rattle.command_line.specs.declared.request.Work.{Work}
use Rattle.command_line.specs.declared.request.Work.TheVariants.{OfPlant, ByHand, OnImage, Explored}
use Rattle.command_line.specs.declared.request.Subject.{Subject}
use Rattle.command_line.specs.declared.request.Subject.TheVariants.{Plant, Image}
use Rattle.command_line.specs.declared.request.Request.{Request}
use Rattle.command_line.specs.declared.said.Said.{Said}

-- the choices of a run are picked as the words say
abbrev pub IsPicked : Picking → Said → Type 0
IsPicked picking said = IsSaid picking (pick_words said) said

-- the words ask for this run: how its choices are picked, what is printed of it, where what is fired is saved, what it is watched for, and the weights of
-- connectors
abbrev pub IsTrace : Trace → Said → Type 0
IsTrace trace said =
    IsPicked trace.picking said × (trace.shape ≡ shape_in (unwrap_or (word_of said.format) (codes "lines")) said.states) ×
    (word_of trace.saved ≡ word_of said.saved) × (trace.watches.items ≡ watches_in said) × AreWeights trace.weights.items said

-- the words ask for these runs to be counted: for one, whose choices are picked as they say; or for a run for each of the seeds that they name, of as many
-- random picks, and then they name no seed of one run and no file in which is saved what is fired
abbrev pub IsRuns : Runs → Said → Type 0
IsRuns (One picking) said = (word_of said.seeds ≡ None) × IsPicked picking said
IsRuns (Seeds seeds) said =
    (option_and_then seeds_in (word_of said.seeds) ≡ Some (seeds.first, seeds.last)) × IsPicked (Random seeds.count USUAL_SEED) said ×
    (word_of said.seed ≡ None) × (word_of said.saved ≡ None)

-- the words ask for this to be counted: which runs, where what is fired is saved, what each is watched for, and the weights of connectors; and for nothing
-- that is printed of a run
abbrev pub IsTally : Tally → Said → Type 0
IsTally tally said =
    PrintsNothing said × IsRuns tally.runs said × (word_of tally.saved ≡ word_of said.saved) × (tally.watches.items ≡ watches_in said) ×
    AreWeights tally.weights.items said

-- the words ask for a run to be printed, or to be counted, as they say; where it is printed they name no seeds of several runs
abbrev pub IsRun : Task → Said → Type 0
IsRun (task.Trace trace) said = (said.summary ≡ false) × (word_of said.seeds ≡ None) × IsTrace trace said
IsRun (task.Summary tally) said = (said.summary ≡ true) × IsTally tally said
IsRun asked said = ⊥

-- the words for the picks after which a plant is drawn
abbrev pub words_after : Said → List (List ℕ)
words_after said = unwrap_or (words_of said.after) []

-- a plant is drawn after picks: some are given, or a text has them
abbrev pub has_picks : Said → Bool
has_picks said = is_some said.after || is_some said.recorded

-- the picks after which a plant is drawn, if there are some
abbrev pub IsPickedAfter : Option Picking → Said → Type 0
IsPickedAfter None said = (has_picks said ≡ false) × (said.strict ≡ false)
IsPickedAfter (Some picking) said = (has_picks said ≡ true) × IsSaid picking (words_after said) said

-- the words ask for the plant to be drawn so
abbrev pub IsView : View → Said → Type 0
IsView (Whole picking) said = (said.machines ≡ false) × (said.outline ≡ false) × IsPickedAfter picking said
IsView (Machines picking) said = (said.machines ≡ true) × (said.outline ≡ false) × IsPickedAfter picking said
IsView Outline said = (said.machines ≡ false) × (said.outline ≡ true) × IsPickedAfter None said

-- names that may be there
abbrev pub names_in : Option (Vec (Bor (List ℕ)) Global) → Option (List (List ℕ))
names_in names = option_map (λ ns. map (λ name. name.now) ns.items) names

-- the words ask for this drawing
abbrev pub IsDrawing : Drawing → Said → Type 0
IsDrawing drawing said = IsView drawing.view said × (words_of said.only ≡ names_in drawing.only)

-- the words of a command of a plant alone ask for this task
abbrev pub IsTask : CommandName → Task → Said → Type 0
IsTask command.Check asked said = asked ≡ (if said.warn then task.Warn else task.Check)
IsTask command.Choices asked said = (picking : Picking) × (asked ≡ task.Choices picking) × IsPicked picking said
IsTask command.Why asked said = (picking : Picking) × (asked ≡ task.Why picking) × IsPicked picking said
IsTask command.Trace asked said = IsRun asked said
IsTask command.Step asked said = ⊥
IsTask command.Draw asked said = (drawing : Drawing) × (asked ≡ task.Draw drawing) × IsDrawing drawing said
IsTask command.Format asked said = ⊥
IsTask command.Run asked said = ⊥
IsTask command.Serve asked said = ⊥
IsTask command.Recover asked said = ⊥
IsTask command.Inspect asked said = ⊥
IsTask command.Backup asked said = ⊥
IsTask command.Restate asked said = ⊥
IsTask command.Migrate asked said = ⊥
IsTask command.Explore asked said = ⊥

-- how many workers the words ask for, which are none where no word says it
abbrev pub workers_said : Said → Option ℕ
workers_said said = workers_in (unwrap_or (word_of said.workers) (codes "0"))

-- the words ask for the events to be asked so: in turn where there are no workers, and up to the first that is refused where that is asked for; or by
-- workers, and then not strictly
abbrev pub IsAsking : Asking → Said → Type 0
IsAsking InTurn said = (workers_said said ≡ Some 0) × (said.strict ≡ false)
IsAsking Strict said = (workers_said said ≡ Some 0) × (said.strict ≡ true)
IsAsking (Shared count) said = (workers_said said ≡ Some count.workers) × (said.strict ≡ false)

-- the words ask for a plant to be started with this care
abbrev pub care_said : Said → Care
care_said said = if said.careful then Careful else Usual

-- the words ask for this to be printed of an image
abbrev pub IsInspection : Inspection → Said → Type 0
IsInspection inspection said = (inspection.records ≡ said.records) × (inspection.states ≡ said.states)

-- the words of a command on an image ask for this task
abbrev pub IsImageTask : CommandName → ImageTask → Said → Type 0
IsImageTask command.Format (image.Format ring if_there) said =
    (ring_in (unwrap_or (word_of said.ring) (codes "64")) ≡ Some ring.records) × (if_there ≡ (if said.only_new then Refused else Formatted))
IsImageTask command.Run (image.Run script asking care) said = (word_of said.script ≡ Some script.now) × IsAsking asking said × (care ≡ care_said said)
IsImageTask command.Serve (image.Serve care) said = care ≡ care_said said
IsImageTask command.Recover (image.Recover care) said = care ≡ care_said said
IsImageTask command.Inspect (image.Inspect inspection) said = IsInspection inspection said
IsImageTask command.Restate image.Restate said = Unit {0}
IsImageTask command.Migrate (image.Migrate made ring) said =
    (word_of said.new_image ≡ Some made.now) × (ring_in (unwrap_or (word_of said.ring) (codes "64")) ≡ Some ring.records)
IsImageTask command asked said = ⊥

-- where the image is that a command works on; where an image is brought over, this is the old one
abbrev pub image_word : CommandName → Said → Option (List ℕ)
image_word command.Migrate said = word_of said.old_image
image_word command said = word_of said.image

-- the words ask for this run to be explored: the script that it has, the length of the ring, and whether each trial is printed
abbrev pub IsExploration : Exploration → Said → Type 0
IsExploration asked said =
    (word_of said.script ≡ Some asked.script.now) × (ring_in (unwrap_or (word_of said.ring) (codes "64")) ≡ Some asked.ring.records) ×
    (asked.list ≡ said.list)

-- the words name this text of picks behind which a plant is run by hand, and a number past the list of choices is refused where that is asked for; or
-- they name none, and ask for no such thing
abbrev pub IsRecording : Option Recording → Said → Type 0
IsRecording None said = (word_of said.recorded ≡ None) × (said.strict ≡ false)
IsRecording (Some recording) said = (word_of said.recorded ≡ Some recording.path.now) × (recording.numbers ≡ numbers_in said.strict)

-- the words ask for this to be done
abbrev pub IsWork : Work → Said → Type 0
IsWork (OfPlant asked) said = IsTask said.command asked said
IsWork (ByHand recording) said = (said.command ≡ command.Step) × IsRecording recording said
IsWork (OnImage path asked) said = (image_word said.command said ≡ Some path.now) × IsImageTask said.command asked said
IsWork (Explored asked) said = (said.command ≡ command.Explore) × IsExploration asked said

-- the words of a command on an image alone ask for this task: an image is looked into without a plant where none is named
abbrev pub IsLoneTask : CommandName → LoneTask → Said → Type 0
IsLoneTask command.Inspect (lone.Inspect inspection) said = (word_of said.plant ≡ None) × IsInspection inspection said
IsLoneTask command.Backup (lone.Backup copy) said = word_of said.copy ≡ Some copy.now
IsLoneTask command asked said = ⊥

-- the words name this to be worked on, and ask for what is done with it; and the files of that stand apart
abbrev pub IsSubject : Subject → Said → Type 0
IsSubject (Plant path work) said = (word_of said.plant ≡ Some path.now) × IsWork work said × (apart_in path.now work ≡ Ok tt)
IsSubject (Image path asked) said =
    (word_of said.image ≡ Some path.now) × IsLoneTask said.command asked said × (apart_alone path.now asked ≡ Ok tt)

-- the words are this request
pub record IsAsked (request : Request) (said : Said) : Type 0 where
  pub explain : request.explain ≡ said.explain
  pub all : request.all ≡ said.all
  pub subject : IsSubject request.subject said
