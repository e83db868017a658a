-- What a request reads and writes, by its paths.
use Rattle.std.specs.Prelude.{ℕ, List, codes, Option, None, Some}
use Rattle.command_line.specs.Said.{word_of}
use Rattle.command_line.specs.declared.request.Picking.{Picking}
use Rattle.command_line.specs.declared.request.Picking.TheVariants.{Given, Recorded, Random}
use Rattle.command_line.specs.declared.request.Runs.{Runs}
use Rattle.command_line.specs.declared.request.Runs.TheVariants as runs
use Rattle.command_line.specs.declared.request.View.{View}
use Rattle.command_line.specs.declared.request.View.TheVariants.{Whole, Machines, Outline}
use Rattle.command_line.specs.declared.request.Task.{Task}
use Rattle.command_line.specs.declared.request.Task.TheVariants.{Check, Warn, Trace, Summary, Choices, Why, Draw}
use Rattle.command_line.specs.declared.request.ImageTask.TheVariants as image
use Rattle.command_line.specs.declared.request.LoneTask.{LoneTask}
use Rattle.command_line.specs.declared.request.LoneTask.TheVariants as lone
use Rattle.command_line.specs.declared.request.Work.{Work}
use Rattle.command_line.specs.declared.request.Work.TheVariants.{OfPlant, ByHand, OnImage, Explored}

-- the text that has the picks of a run, if a text has them
abbrev pub recorded_in : Picking → Option (List ℕ)
recorded_in (Given picks numbers) = None
recorded_in (Recorded path numbers many by) = Some path.now
recorded_in (Random many by) = None

-- the same of runs that are counted
abbrev pub recorded_of : Runs → Option (List ℕ)
recorded_of (runs.One picking) = recorded_in picking
recorded_of (runs.Seeds seeds) = None

-- the same of picks after which a plant is drawn
abbrev pub recorded_after : View → Option (List ℕ)
recorded_after (Whole None) = None
recorded_after (Whole (Some picking)) = recorded_in picking
recorded_after (Machines None) = None
recorded_after (Machines (Some picking)) = recorded_in picking
recorded_after Outline = None

-- the same of a task
abbrev pub recorded_by : Task → Option (List ℕ)
recorded_by Check = None
recorded_by Warn = None
recorded_by (Trace trace) = recorded_in trace.picking
recorded_by (Summary tally) = recorded_of tally.runs
recorded_by (Choices picking) = recorded_in picking
recorded_by (Why picking) = recorded_in picking
recorded_by (Draw drawing) = recorded_after drawing.view

-- the file in which a task of the plant alone saves what is fired
abbrev pub saved_by : Task → Option (List ℕ)
saved_by Check = None
saved_by Warn = None
saved_by (Trace trace) = word_of trace.saved
saved_by (Summary tally) = word_of tally.saved
saved_by (Choices picking) = None
saved_by (Why picking) = None
saved_by (Draw drawing) = None

-- what is read beside the plant and the image: the text of the picks, a script, or the standard input where lines are typed or sent
abbrev pub read_beside : Work → Option (List ℕ)
read_beside (OfPlant task) = recorded_by task
read_beside (ByHand recording) = Some (codes "-")
read_beside (OnImage path (image.Format ring if_there)) = None
read_beside (OnImage path (image.Run script asking care)) = Some script.now
read_beside (OnImage path (image.Serve care)) = Some (codes "-")
read_beside (OnImage path (image.Recover care)) = None
read_beside (OnImage path (image.Inspect inspection)) = None
read_beside (OnImage path image.Restate) = None
read_beside (OnImage path (image.Migrate made ring)) = None
read_beside (Explored exploration) = Some exploration.script.now

-- the text of the picks behind which a plant is run by hand, which is read beside the standard input
abbrev pub recording_in : Work → Option (List ℕ)
recording_in (ByHand None) = None
recording_in (ByHand (Some recording)) = Some recording.path.now
recording_in work = None

-- the file in which is saved what is fired
abbrev pub saved_in : Work → Option (List ℕ)
saved_in (OfPlant task) = saved_by task
saved_in (ByHand recording) = None
saved_in (OnImage path task) = None
saved_in (Explored exploration) = None

-- the image, or the old one where an image is brought over
abbrev pub image_in : Work → Option (List ℕ)
image_in (OnImage path task) = Some path.now
image_in work = None

-- the new image that an old one is brought over to
abbrev pub made_in : Work → Option (List ℕ)
made_in (OnImage path (image.Migrate made ring)) = Some made.now
made_in work = None

-- the file that is made of an image alone
abbrev pub copied_to : LoneTask → Option (List ℕ)
copied_to (lone.Inspect inspection) = None
copied_to (lone.Backup copy) = Some copy.now
