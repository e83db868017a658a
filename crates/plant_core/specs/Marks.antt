-- What a durable plant knows of a record that is kept.
use Rattle.std.specs.Prelude.{List, map}
use Rattle.record_codec.specs.Fired.{FiredFields}
use Rattle.record_codec.specs.declared.entry.Entry.{Entry}
use Rattle.trimmer.specs.Covered.{MarkFields}
use Rattle.trimmer.specs.declared.mark.Participation.{Participation}

-- which firing of its atom an entry tells of
abbrev pub participation_in : Entry → Participation
participation_in e = record { atom = e.atom; number = e.participation }

-- a record as the trimmer sees it: its number, and which firing of its atom each participant's was
abbrev pub mark_of : FiredFields → MarkFields
mark_of r = record { number = r.number; participations = map participation_in r.entries }

-- the same of records, one after another
abbrev pub marks_of : List FiredFields → List MarkFields
marks_of records = map mark_of records
