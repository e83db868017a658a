-- Which files of a request stand in one another's place.
use Rattle.std.specs.Prelude.{ℕ, Bool, ◌||◌, ◌&&◌, not, false, List, Option, Result, Ok, Err, if◌then◌else◌}
use Rattle.std.specs.Option.{option_map_or}
use Rattle.petri_atom.specs.Name.{is_same_text}
use Rattle.command_line.specs.Files.{copied_to, image_in, made_in, read_beside, recording_in, saved_in}
use Rattle.command_line.specs.Inputs.{are_one_input, is_standard_input}
use Rattle.command_line.specs.declared.apart.ApartFault.{ApartFault}
use Rattle.command_line.specs.declared.apart.ApartFault.TheVariants.{OneInput, PicksTyped, SavedOnOutput, SavedOverRead, ImageOverRead, OneImage}
use Rattle.command_line.specs.declared.request.LoneTask.{LoneTask}
use Rattle.command_line.specs.declared.request.Work.{Work}

-- the plant and what is read beside it are both the standard input
abbrev pub shares_input : List ℕ → Option (List ℕ) → Bool
shares_input plant input = option_map_or (are_one_input plant) input false

-- the picks behind which a plant is run by hand are the standard input, where the lines are typed
abbrev pub is_typed : Option (List ℕ) → Bool
is_typed recording = option_map_or is_standard_input recording false

-- what is fired is to be saved where the run is printed
abbrev pub is_on_output : Option (List ℕ) → Bool
is_on_output saved = option_map_or is_standard_input saved false

-- the plant is at this path, or what is read beside it is
abbrev pub is_read : List ℕ → Option (List ℕ) → List ℕ → Bool
is_read plant input path = is_same_text path plant || option_map_or (is_same_text path) input false

-- what is fired is to be saved where one of both is read
abbrev pub is_over_read : List ℕ → Option (List ℕ) → Option (List ℕ) → Bool
is_over_read plant input saved = option_map_or (is_read plant input) saved false

-- the image is kept where the plant is read, or what is read beside it; an image at `-` is a file of that name
abbrev pub is_image_read : List ℕ → Option (List ℕ) → List ℕ → Bool
is_image_read plant input image = not (is_standard_input image) && is_read plant input image

-- the same of an image that may be there
abbrev pub is_image_over_read : List ℕ → Option (List ℕ) → Option (List ℕ) → Bool
is_image_over_read plant input image = option_map_or (is_image_read plant input) image false

-- a file is to be made of an image, and is that image
abbrev pub is_made_over : Option (List ℕ) → List ℕ → Bool
is_made_over made image = option_map_or (is_same_text image) made false

-- the files of a work stand apart, by its plant, what is read beside it, and what it writes; or why not
abbrev pub apart_in : List ℕ → Work → Result (Unit {0}) ApartFault
apart_in plant work =
    if shares_input plant (read_beside work) then Err OneInput
    else if is_typed (recording_in work) then Err PicksTyped
    else if is_on_output (saved_in work) then Err SavedOnOutput
    else if is_over_read plant (read_beside work) (saved_in work) then Err SavedOverRead
    else if is_image_over_read plant (read_beside work) (image_in work) then Err ImageOverRead
    else if is_image_over_read plant (read_beside work) (made_in work) then Err ImageOverRead
    else if option_map_or (is_made_over (made_in work)) (image_in work) false then Err OneImage
    else Ok tt

-- the image alone, and the file that is made of it, stand apart; or why not
abbrev pub apart_alone : List ℕ → LoneTask → Result (Unit {0}) ApartFault
apart_alone image task = if is_made_over (copied_to task) image then Err OneImage else Ok tt
