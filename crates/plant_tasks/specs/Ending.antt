-- What a program prints if it ends early at a plant's text, the words, the picks, the memory or the output, and its exit status.
use Rattle.std.specs.Prelude.{◌≡◌, ◌≢◌, ℕ, Bool, true, false, List, [], ◌++◌, codes, decimal, unwrap_or, is_some, Option, Some, None, Result, Ok, Err}
use Rattle.plant_text.specs.Fault.{number_of, name_of, subject_of, of_no_line}
use Rattle.plant_text.specs.Meaning.{meaning}
use Rattle.plant_text.specs.Text.{PlantText}
use Rattle.plant_text.specs.declared.fault.Fault.{Fault}
use Rattle.plant_text.specs.declared.fault.Fault.TheVariants as fault
use Rattle.plant_text.specs.declared.fault.PlantFault.{PlantFault}
use Rattle.run_text.specs.Message.{refused_message}
use Rattle.run_text.specs.declared.fault.Refusal.{Refusal}
use Rattle.run_text.specs.declared.fault.TraceFault.{TraceFault}
use Rattle.run_text.specs.declared.fault.TraceFault.TheVariants as trace
use Rattle.run_text.specs.declared.watching.Reached.{Reached}
use Rattle.step_session.specs.declared.fault.StepFault.{StepFault}
use Rattle.step_session.specs.declared.fault.StepFault.TheVariants as step
use Rattle.command_line.specs.declared.answer.Answered.{Answered}
use Rattle.command_line.specs.declared.answer.Answered.TheVariants as answered
use Rattle.command_line.specs.declared.request.WatchWords.{WatchWords}
use Rattle.plant_tasks.specs.Paths.{path_of}
use Rattle.plant_tasks.specs.Watches.{is_held}
use Rattle.plant_tasks.specs.declared.paths.TaskPaths.{TaskPaths}
use Rattle.plant_tasks.specs.declared.ending.PlantEnding.{PlantEnding}
use Rattle.plant_tasks.specs.declared.ending.PlantEnding.TheVariants.{Usage, Plant, Unopened, InputUnread, LinesUnread, Refused, Unsaved, NoAtom, NoConnector, BadWatch, Held, Memory, Unwritten}

-- the exit status at a fault of a plant: a refused plant is 1; want of memory, and a text that can't be read, are 3
abbrev pub fault_status : Fault → ℕ
fault_status fault.Memory = 3
fault_status fault.Read = 3
fault_status fault = 1

-- the exit status of a program that ends so: 1 a refused plant or pick, and a run that came to what must not hold, 2 usage, 3 a file, the memory or the output
abbrev pub status_at : PlantEnding → ℕ
status_at Usage = 2
status_at (Plant found) = fault_status found.fault
status_at Unopened = 3
status_at InputUnread = 3
status_at LinesUnread = 3
status_at (Refused refusal) = 1
status_at Unsaved = 3
status_at (NoAtom place) = 2
status_at (NoConnector place) = 2
status_at (BadWatch place fault) = 2
status_at Held = 1
status_at Memory = 3
status_at Unwritten = 3

-- how a program ends if the words of the command line are no request, and that was printed
abbrev pub ended_by : Answered → Result (Unit {0}) PlantEnding
ended_by answered.Helped = Ok tt
ended_by answered.Usage = Err Usage
ended_by answered.Memory = Err Memory
ended_by answered.Unwritten = Err Unwritten

-- the number that a fault speaks of, in parentheses
abbrev pub subject_text : Option ℕ → List ℕ
subject_text None = []
subject_text (Some subject) = codes "(" ++ decimal subject ++ codes ")"

-- the line of a plant's fault: its line, its number, its name, and what it speaks of
abbrev pub fault_line : PlantFault → List ℕ
fault_line found =
    codes "plant line " ++ decimal found.line ++ codes ": fault " ++ decimal (number_of found.fault) ++ codes " " ++
    name_of found.fault ++ subject_text (subject_of found.fault) ++ codes "\n"

-- the line of a file that can't be opened or read
abbrev pub file_line : List ℕ → List ℕ
file_line path = codes "file " ++ path ++ codes "\n"

-- what is printed of a plant's fault, where its text stood at the path
abbrev pub plant_text : List ℕ → Fault → PlantFault → List ℕ
plant_text path fault.Read found = file_line path
plant_text path fault found = fault_line found

-- where a pick stands: a line of the text at the path, or a place among the picks of the command line
abbrev pub place_text : Option (List ℕ) → ℕ → List ℕ
place_text (Some path) number = path ++ codes ":" ++ decimal number
place_text None number = codes "pick " ++ decimal number ++ codes " of the command line"

-- the line of a refused pick: where it stands, and why it is refused
abbrev pub refused_line : Option (List ℕ) → Refusal → List ℕ
refused_line path refusal = codes "error: " ++ place_text path refusal.place ++ codes ": " ++ refused_message refusal.why ++ codes "\n"

-- What is printed of an ending, where the files are at these paths. What is wrong with the words of the command line is printed apart from it, of what must
-- not hold the run itself says that it held, and of an output that takes nothing there is nothing to tell.
abbrev pub told_text : TaskPaths → PlantEnding → List ℕ
told_text paths Usage = []
told_text paths (Plant found) = plant_text paths.plant.now found.fault found
told_text paths Unopened = file_line paths.plant.now
told_text paths InputUnread = file_line (unwrap_or (path_of paths.input) [])
told_text paths LinesUnread = file_line (codes "-")
told_text paths (Refused refusal) = refused_line (path_of paths.input) refusal
told_text paths Unsaved = file_line (unwrap_or (path_of paths.saved) [])
told_text paths (NoAtom place) = []
told_text paths (NoConnector place) = []
told_text paths (BadWatch place fault) = []
told_text paths Held = []
told_text paths Memory = codes "memory\n"
told_text paths Unwritten = []

-- the ending at a fault of a run
abbrev pub of_trace : TraceFault → PlantEnding
of_trace trace.Memory = Memory
of_trace trace.Write = Unwritten
of_trace trace.Read = InputUnread
of_trace (trace.Refused refusal) = Refused refusal

-- the ending at a fault of a run by hand
abbrev pub of_step : StepFault → PlantEnding
of_step step.Memory = Memory
of_step step.PicksUnread = InputUnread
of_step step.Read = LinesUnread
of_step (step.Refused refusal) = Refused refusal
of_step step.Write = Unwritten

-- A plant that was not read from these bytes of a text: a fault that is given is theirs, but for want of memory and a reader that failed; memory may always be
-- wanting; and nothing else has a part in it.
abbrev pub Tells : PlantEnding → List ℕ → Type 0
Tells (Plant found) bytes = found ≢ of_no_line fault.Memory → found ≢ of_no_line fault.Read → meaning bytes ≡ Err found
Tells Memory bytes = Unit {0}
Tells ending bytes = ⊥

-- a task that was not done with a plant: memory is wanting, no atom has a name, what is read beside the plant failed, a pick is refused, or the output failed
abbrev pub IsOfTask : PlantEnding → Type 0
IsOfTask (NoAtom place) = Unit {0}
IsOfTask Memory = Unit {0}
IsOfTask InputUnread = Unit {0}
IsOfTask (Refused refusal) = Unit {0}
IsOfTask Unwritten = Unit {0}
IsOfTask ending = ⊥

-- the same of a task that may be a run which is watched and weighted: what it is watched for can't be read, a weight names no connector, or the run came to what
-- must not hold
abbrev pub IsOfWatched : PlantEnding → Type 0
IsOfWatched (NoConnector place) = Unit {0}
IsOfWatched (BadWatch place fault) = Unit {0}
IsOfWatched Held = Unit {0}
IsOfWatched ending = IsOfTask ending

-- a run by hand that was not held to its end: memory is wanting, the picks or the lines can't be read, a pick is refused, or the output failed
abbrev pub IsOfSession : PlantEnding → Type 0
IsOfSession Memory = Unit {0}
IsOfSession InputUnread = Unit {0}
IsOfSession LinesUnread = Unit {0}
IsOfSession (Refused refusal) = Unit {0}
IsOfSession Unwritten = Unit {0}
IsOfSession ending = ⊥

-- a run by hand that did not begin for its picks
abbrev pub IsUnbegun : PlantEnding → Type 0
IsUnbegun InputUnread = Unit {0}
IsUnbegun (Refused refusal) = Unit {0}
IsUnbegun ending = ⊥

-- nothing was printed or saved before a task ended so
abbrev pub IsSilent : PlantEnding → Type 0
IsSilent (NoAtom place) = Unit {0}
IsSilent (NoConnector place) = Unit {0}
IsSilent (BadWatch place fault) = Unit {0}
IsSilent Memory = Unit {0}
IsSilent ending = ⊥

-- where a task was done, or was done up to what must not hold or up to a pick that is refused, P holds of the refusal, or of none
abbrev pub IfDone : {A : Type 0} → Result A PlantEnding → (Option Refusal → Type 0) → Type 0
IfDone (Ok done) P = P None
IfDone (Err Held) P = P None
IfDone (Err (Refused refusal)) P = P (Some refusal)
IfDone (Err ending) P = Unit {0}

-- the same of what does not name the refusal
abbrev pub OnDone : {A : Type 0} → Result A PlantEnding → Type 0 → Type 0
OnDone result P = IfDone result (λ refusal. P)

-- where a task was done to its end, P holds of whether it came to what must not hold
abbrev pub IfEnded : {A : Type 0} → Result A PlantEnding → (Bool → Type 0) → Type 0
IfEnded (Ok done) P = P false
IfEnded (Err Held) P = P true
IfEnded (Err ending) P = Unit {0}

-- where the words that a run is watched and weighted by were read, P holds of no ending, and where some can't be read, of this ending
abbrev pub IfRead : {A : Type 0} → Result A PlantEnding → (Option PlantEnding → Type 0) → Type 0
IfRead (Ok done) P = P None
IfRead (Err Held) P = P None
IfRead (Err (Refused refusal)) P = P None
IfRead (Err (NoConnector place)) P = P (Some (NoConnector place))
IfRead (Err (BadWatch place fault)) P = P (Some (BadWatch place fault))
IfRead (Err ending) P = Unit {0}

-- how a task ends whose run was made, and came to what must not hold or did not
abbrev pub ended_if : Bool → Result (Unit {0}) PlantEnding
ended_if true = Err Held
ended_if false = Ok tt

-- how a task ends whose run ended so, where `comes` says whether it came to what must not hold
abbrev pub ending_by : {X : Type 0} → (X → Bool) → Result X TraceFault → Result (Unit {0}) PlantEnding
ending_by comes (Ok x) = ended_if (comes x)
ending_by comes (Err fault) = Err (of_trace fault)

-- the same of a run that these words watch
abbrev pub trace_ending : List WatchWords → Result (Option Reached) TraceFault → Result (Unit {0}) PlantEnding
trace_ending words = ending_by (is_held words)

-- the same of runs of seeds, of which a seed is answered whose run came to what must not hold, if one did
abbrev pub seeds_ending : Result (Option ℕ) TraceFault → Result (Unit {0}) PlantEnding
seeds_ending = ending_by is_some

-- how a task ends whose run ended so
abbrev pub task_ending : Result (Unit {0}) TraceFault → Result (Unit {0}) PlantEnding
task_ending (Ok done) = Ok tt
task_ending (Err fault) = Err (of_trace fault)
