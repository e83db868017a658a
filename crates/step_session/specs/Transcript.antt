-- The transcript of a session: what it prints, and what it has saved.
use Rattle.std.specs.Prelude.{◌≡◌, ℕ, Bool, false, if◌then◌else◌, List, [], ◌∷◌, ◌++◌, length, drop, Option}
use Rattle.std.specs.Io.KnownBytes.{Appends}
use Rattle.plant_model.specs.Plant.{PlantDefinition}
use Rattle.shown_fault.specs.Shown.{shown}
use Rattle.step_session.specs.Answers.{answer_text, save_text, savings_of, session_after, standing_text}
use Rattle.step_session.specs.Command.{CommandDefinition, command_in, ends}
use Rattle.step_session.specs.Mark.{ended_text, last_text, prompt_text}
use Rattle.step_session.specs.Saved.{AreSaved, Saving, saved_text}
use Rattle.step_session.specs.Session.{SessionDefinition}
use Rattle.step_session.specs.declared.mark.Mark.{Mark}

-- what a session prints, and what it has saved
pub record Transcript : Type 0 where
  pub text : List ℕ
  pub savings : List Saving

-- nothing more is printed or saved
abbrev pub nothing_more : Transcript
nothing_more = record { text = []; savings = [] }

-- a transcript after a text and savings
abbrev pub after_text : List ℕ → List Saving → Transcript → Transcript
after_text text savings transcript = record { text = text ++ transcript.text; savings = savings ++ transcript.savings }

-- what the saver says next, by the list of what it says; that it could not, if the list has ended
abbrev pub said_next : List Bool → Bool
said_next [] = false
said_next (said ∷ answers) = said

-- the transcript of a command: the answer to it, marked; `more` is the one after it, of the session and of the answers of the saver that are left then
abbrev pub transcript_by : PlantDefinition → List ℕ → Mark → SessionDefinition → CommandDefinition → (SessionDefinition → List Bool → Transcript) → List Bool → Transcript
transcript_by plant rules mark session command more answers =
    after_text (prompt_text mark ++ ended_text mark (answer_text plant rules session (said_next answers) command)) (savings_of plant session (said_next answers) command)
    (if ends command then nothing_more else more (session_after plant session command) (drop (length (savings_of plant session (said_next answers) command)) answers))

-- the transcript of lines: the answer to each, until one asks to quit or they end
abbrev pub transcript_from : PlantDefinition → List ℕ → Mark → SessionDefinition → List (List ℕ) → List Bool → Transcript
transcript_from plant rules mark session [] answers = record { text = prompt_text mark ++ last_text mark; savings = [] }
transcript_from plant rules mark session (line ∷ lines) answers =
    transcript_by plant rules mark session (command_in line) (λ after left. transcript_from plant rules mark after lines left) answers

-- the transcript of a whole session that begins so: where the plant stands at first, and then of the lines
abbrev pub transcript_of : PlantDefinition → List ℕ → Mark → SessionDefinition → List (List ℕ) → List Bool → Transcript
transcript_of plant rules mark first lines answers =
    after_text (ended_text mark (standing_text plant first)) [] (transcript_from plant rules mark first lines answers)

-- what is printed of it
abbrev pub session_text : PlantDefinition → List ℕ → Mark → SessionDefinition → List (List ℕ) → List Bool → List ℕ
session_text plant rules mark first lines answers = (transcript_of plant rules mark first lines answers).text

-- The text of the transcript, by the answers of the saver, was printed, and the saver was asked for its savings alone, in this order, and answered so; `saves` is what one call may be.
pub record IsTranscript {S : Type 0} (saves : S → List ℕ → List ℕ → Bool → S → Type 0) (transcript : List Bool → Transcript) (before after : S) (old new : Option (List ℕ)) : Type 0 where
  pub answers : List Bool
  pub printed : Appends old new (transcript answers).text
  pub saved : AreSaved saves before (transcript answers).savings after

-- A command was answered: its answer, by what the saver says, was printed, and the saver was asked if the command asks for that.
pub record IsAnswered {S : Type 0} (saves : S → List ℕ → List ℕ → Bool → S → Type 0) (plant : PlantDefinition) (rules : List ℕ) (session : SessionDefinition) (command : CommandDefinition) (left : SessionDefinition) (before after : S) (old new : Option (List ℕ)) : Type 0 where
  pub said : Bool
  pub session_is : left ≡ session_after plant session command
  pub printed : Appends old new (answer_text plant rules session said command)
  pub saved : AreSaved saves before (savings_of plant session said command) after

-- The same of what was fired, which was to be saved at a path.
pub record IsSaved {S : Type 0} (saves : S → List ℕ → List ℕ → Bool → S → Type 0) (plant : PlantDefinition) (session : SessionDefinition) (path : List ℕ) (before after : S) (old new : Option (List ℕ)) : Type 0 where
  pub said : Bool
  pub printed : Appends old new (save_text (length session.fired) (shown path) said)
  pub saved : saves before path (saved_text plant session) said after
