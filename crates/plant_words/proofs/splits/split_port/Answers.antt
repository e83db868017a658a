use Rattle.std.proofs.Common.{◌≡◌, ◌∙◌, ℕ, Bool, List, sym, ap}
use Rattle.std.specs.Prelude.{Some}
use Rattle.std.specs.Option.{option_map}
use Rattle.plant_words.specs.Lent.{sides_of}
use Rattle.plant_words.specs.Splits.{PortParts, sides_in, is_quoted, without_quote}
use Rattle.plant_words.proofs.splits.split_port.Goals as goal

-- a port's parts, by its two sides
abbrev parts : Bool → List ℕ × List ℕ → PortParts
parts quoted sides = record { atom = sides.0; port = sides.1; quoted = quoted }

pub returns : goal.returns
returns c =
    let word = c.args.word.now in
    let both : List ℕ × List ℕ = (c.in_ok-atom.atom.now, c.in_ok-atom.port.now) in
    let sides : Some both ≡ sides_in 46 (without_quote word) = ap (option_map sides_of) (sym c.in_ok-atom.was) ∙ c.sides.ensures ∙ ap (sides_in 46) c.without_quote.ensures in
    ap (λ quoted. Some (parts quoted both)) c.is_quoted.ensures ∙ ap (option_map (parts (is_quoted word))) sides
