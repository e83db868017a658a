-- A body of the first layout as a body of today's, which says the same: so today's reading judges an old device too.
use Rattle.std.specs.Prelude.{ℕ, ◌+◌, nat_lt, ◌==◌, if◌then◌else◌, List, ◌++◌, length, drop, slice_index, slice_set, Option, Some, None}
use Rattle.record_codec.specs.declared.layout.TheConstants.{BODY, MAGIC, VERSION, ENTRY_COUNT_AT}
use Rattle.record_codec.specs.declared.v1.TheConstants.{VERSION as FIRST_VERSION, MOST_ENTRIES as FIRST_MOST_ENTRIES}
use Rattle.record_codec.specs.Bytes.{two_bytes, padded}
use Rattle.record_codec.specs.Identity.{version_in}

-- zeros follow the body: a base and a saved state are spelled as they are today
unfoldable pub todays_body : List ℕ → List ℕ
todays_body body = padded BODY body

-- The first version and today's change places, and every other version stays. So what was of the first version is of
-- today's, and what was not is not.
abbrev pub todays_version : ℕ → ℕ
todays_version version = if version == FIRST_VERSION then VERSION else if version == VERSION then FIRST_VERSION else version

-- the body, with the version changed if it has one
abbrev pub with_version_changed : Option ℕ → List ℕ → List ℕ
with_version_changed None body = body
with_version_changed (Some version) body = MAGIC ++ two_bytes (todays_version version) ++ drop (length MAGIC + 2) body

-- an identity's body: the magic bytes, the version changed, and the rest
unfoldable pub todays_identity : List ℕ → List ℕ
todays_identity body = todays_body (with_version_changed (version_in body) body)

-- a record's body: with more entries than a record of the first layout has it says 0, which no record has
unfoldable pub todays_record : List ℕ → List ℕ
todays_record body = todays_body (if nat_lt FIRST_MOST_ENTRIES (slice_index body ENTRY_COUNT_AT) then slice_set body ENTRY_COUNT_AT 0 else body)
