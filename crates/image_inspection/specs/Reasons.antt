-- What more is told of an image that a boot refuses: both of two values that differ, or where in the image the fault is.
use Rattle.std.specs.Prelude.{ℕ, ◌*◌, List, [], ◌++◌, Option, None, Some, codes, decimal, length}
use Rattle.std.specs.Option.{option_map_or}
use Rattle.disk_model.specs.Cells.{Cell}
use Rattle.hex.specs.Hex.{encode_lower}
use Rattle.record_codec.specs.Identity.{IdentityFields}
use Rattle.record_codec.specs.Ring.{device_cells}
use Rattle.plant_model.specs.System.{plant_of, digest_of}
use Rattle.plant_model.specs.declared.system.System.{System}
use Rattle.plant_image.specs.Contents.{Contents, contents_of, identity_held}
use Rattle.plant_image.specs.Faults.{cell_bytes}
use Rattle.plant_image.specs.declared.fault.ImageFault.{ImageFault}
use Rattle.plant_image.specs.declared.fault.ImageFault.TheVariants.{NotFormatted, OtherVersion, OtherSystem, WrongSize, Damaged, Gap, NotEnabled, Memory}
use Rattle.image_inspection.specs.Inspected.{atoms_told, names_told}
use Rattle.image_inspection.specs.Places.{place_words}
use Rattle.image_inspection.specs.Verdicts.{fault_told}

-- a line of more
abbrev pub more_line : List ℕ → List ℕ
more_line words = codes "  " ++ words ++ codes "\n"

-- how many bytes the file has, which is less than a cell
abbrev pub no_cell_words : ℕ → List ℕ
no_cell_words bytes = codes "the file has " ++ decimal bytes ++ codes " bytes, and no whole cell"

-- how many bytes the file has, and how many its image
abbrev pub both_sizes_words : ℕ → IdentityFields → List ℕ
both_sizes_words bytes identity = codes "the file has " ++ decimal bytes ++ codes " bytes, its image " ++ decimal (cell_bytes * device_cells identity.atoms identity.ring)

-- the same, if the first cell says how large the image is
abbrev pub sizes_words : ℕ → Option IdentityFields → List ℕ
sizes_words bytes None = no_cell_words bytes
sizes_words bytes (Some identity) = both_sizes_words bytes identity

-- how many atoms a plant has, and the digest of its text
abbrev pub plant_words : ℕ → List ℕ → List ℕ
plant_words atoms digest = decimal atoms ++ codes " atoms and the text " ++ encode_lower digest

-- for which plant text an image was made, and which the plant's is
abbrev pub both_texts_words : System → IdentityFields → List ℕ
both_texts_words system identity =
    codes "the image is for " ++ plant_words identity.atoms identity.digest ++
    codes "; this plant has " ++ plant_words (length (plant_of system).atoms) (digest_of system)

-- the same, if the first cell says for which
abbrev pub texts_of_plant : System → Option IdentityFields → List ℕ
texts_of_plant system None = []
texts_of_plant system (Some identity) = both_texts_words system identity

-- the same, if there is a plant
abbrev pub texts_words : Option System → Option IdentityFields → List ℕ
texts_words None identity = []
texts_words (Some system) identity = texts_of_plant system identity

-- what more is told of a fault
abbrev pub fault_text : Option System → ℕ → Option IdentityFields → Contents → ImageFault → List ℕ
fault_text plant bytes identity c NotFormatted = []
fault_text plant bytes identity c OtherVersion = []
fault_text plant bytes identity c OtherSystem = more_line (texts_words plant identity)
fault_text plant bytes identity c WrongSize = more_line (sizes_words bytes identity)
fault_text plant bytes identity c (Damaged k) = more_line (place_words (names_told plant identity) (atoms_told plant identity) c (Damaged k))
fault_text plant bytes identity c (Gap atom) = more_line (place_words (names_told plant identity) (atoms_told plant identity) c (Gap atom))
fault_text plant bytes identity c (NotEnabled number atom) = more_line (place_words (names_told plant identity) (atoms_told plant identity) c (NotEnabled number atom))
fault_text plant bytes identity c Memory = []

-- what more is told of an image of so many bytes with these cells: nothing if nothing is wrong with it
abbrev pub reason_text : Option System → ℕ → List Cell → List ℕ
reason_text plant bytes cells =
    let identity = identity_held cells in
    option_map_or (fault_text plant bytes identity (contents_of (atoms_told plant identity) cells)) (fault_told plant bytes cells) []
