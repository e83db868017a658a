-- What is seen of parts that are lent.
use Rattle.std.specs.Prelude.{ℕ, List}
use Rattle.std.specs.Borrow.{Bor}
use Rattle.plant_words.specs.Splits.{PortParts}
use Rattle.plant_words.specs.declared.splits.PortWord.{PortWord}

-- two lent lists
abbrev pub sides_of : Bor (List ℕ) × Bor (List ℕ) → List ℕ × List ℕ
sides_of sides = (sides.0.now, sides.1.now)

-- the parts of a port's word
abbrev pub port_parts_of : PortWord → PortParts
port_parts_of word = record { atom = word.atom.now; port = word.port.now; quoted = word.quoted }
