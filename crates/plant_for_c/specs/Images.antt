-- How large an image is, and when it is formatted.
use Rattle.std.specs.Prelude.{◌≡◌, ◌≢◌, ◌⊎◌, ◌<◌, ◌≤◌, ℕ, Result, Ok, Err}
use Rattle.record_codec.specs.declared.layout.TheConstants.{LEAST_RING, MOST_RING}
use Rattle.plant_model.specs.Plant.{PlantDefinition}
use Rattle.recovery.specs.Formatting.{formatted_size}
use Rattle.plant_for_c.specs.declared.status.Status.{Status}
use Rattle.plant_for_c.specs.declared.status.Status.TheVariants.{BadRing, ImageWrongSize, ImageDisk, Memory}

-- A ring has so many records.
abbrev pub IsRing : ℕ → Type 0
IsRing ring = (LEAST_RING ≤ ring) × (ring ≤ MOST_RING)

-- No ring has so many records.
abbrev pub IsNoRing : ℕ → Type 0
IsNoRing ring = (ring < LEAST_RING) ⊎ (MOST_RING < ring)

-- What the size of an image is asked for answers.
abbrev pub IsSizeOf : PlantDefinition → ℕ → Result ℕ Status → Type 0
IsSizeOf plant ring (Ok bytes) = IsRing ring × (bytes ≡ formatted_size plant ring)
IsSizeOf plant ring (Err BadRing) = IsNoRing ring
IsSizeOf plant ring (Err other) = ⊥

-- What the formatting of an image with so many bytes answers.
abbrev pub IsFormatted : PlantDefinition → ℕ → ℕ → Result Unit Status → Type 0
IsFormatted plant ring bytes (Ok _) = IsRing ring × (bytes ≡ formatted_size plant ring)
IsFormatted plant ring bytes (Err BadRing) = IsNoRing ring
IsFormatted plant ring bytes (Err ImageWrongSize) = IsRing ring × (bytes ≢ formatted_size plant ring)
IsFormatted plant ring bytes (Err ImageDisk) = IsRing ring
IsFormatted plant ring bytes (Err Memory) = IsRing ring
IsFormatted plant ring bytes (Err other) = ⊥
