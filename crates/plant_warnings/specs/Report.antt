-- What a report says of a warning.
use Rattle.std.specs.Prelude.{ℕ, List, Option, Result, flat_map}
use Rattle.plant_model.specs.System.{plant_of}
use Rattle.text_io.specs.Printing.{Prints}
use Rattle.plant_warnings.specs.Lines.{warning_line}
use Rattle.plant_warnings.specs.declared.report.Report.{Report}
use Rattle.plant_warnings.specs.declared.warning.Warning.{Warning}

-- the line of a warning in a report
abbrev pub line_in : Report → Warning → List ℕ
line_in report = warning_line (plant_of report.system.now) report.lines.now report.path.now

-- where a call answers `Ok`, its writer took the lines of these warnings in a report
abbrev pub Warns : {T E : Type 0} → Result T E → Option (List ℕ) → Option (List ℕ) → Report → List Warning → Type 0
Warns result old new report warnings = Prints result old new (flat_map (line_in report) warnings)
