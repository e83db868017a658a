-- Which lines are numbered together: those that add parts of one kind.
use Rattle.std.specs.Prelude.{ℕ, Bool, ◌==◌}
use Rattle.plant_words.specs.declared.line_kind.AtomPart.TheVariants.{Place, Variable, Port, Transition}
use Rattle.plant_words.specs.declared.line_kind.WirePart.TheVariants.{Guard, Transfer}
use Rattle.plant_words.specs.declared.line_kind.LineKind.{LineKind}
use Rattle.plant_words.specs.declared.line_kind.LineKind.TheVariants.{Atom, Connector, OfAtom, OfConnector, Rule}

-- a number for each kind of part, by which two of them are compared
abbrev pub kind_code : LineKind → ℕ
kind_code Atom = 0
kind_code (OfAtom Place) = 1
kind_code (OfAtom Variable) = 2
kind_code (OfAtom Port) = 3
kind_code (OfAtom Transition) = 4
kind_code Connector = 5
kind_code (OfConnector Guard) = 6
kind_code (OfConnector Transfer) = 7
kind_code (Rule kind) = 8

-- lines of the two kinds add parts of one kind; both kinds of rules do
abbrev pub is_same_kind : LineKind → LineKind → Bool
is_same_kind a b = kind_code a == kind_code b
