use Rattle.std.proofs.Common.{◌≡◌, ◌∙◌, ap, sym, Ok, Err, Some, None, true, if◌then◌else◌, rules}
use Rattle.std.specs.Option.{option_map, option_map_or}
use Rattle.plant_words.specs.Lines.{is_legal_line}
use Rattle.plant_words.specs.Lent.{port_parts_of}
use Rattle.plant_words.specs.Splits.{port_parts}
use Rattle.connector_tree.specs.declared.token.Token.{Token}
use Rattle.connector_lines.specs.Tokens.{bracket_in, leaf_of, leaf_in, legal_token_in}
use Rattle.connector_lines.specs.declared.tree_words_fault.TreeWordsFault.TheVariants.{NotAscii}
use Rattle.connector_lines.proofs.token.read_word.Goals as goal

pub returns-in-Some-find_port : goal.returns-in-Some-find_port
returns-in-Some-find_port g c =
    let named = g.N.Ports.port_named c.args.names.now in
    let word = c.args.word.now in
    let parts = c.in-Some-split_port.parts in
    let no_bracket : bracket_in word ≡ None = sym c.bracket.ensures ∙ c.in_default.is in
    let written : port_parts word ≡ Some (port_parts_of parts) = sym c.split_port.ensures ∙ ap (option_map port_parts_of) c.in-Some-split_port.is in
    let found : named parts.atom.now parts.port.now ≡ Some c.in-Some-find_port.port = sym c.find_port.ensures ∙ c.in-Some-find_port.is in
    let legal : is_legal_line word ≡ true = search rules in
    sym (ap (λ legal. if legal then legal_token_in named word else Err NotAscii) legal
    ∙ ap (λ o. option_map_or (λ (b : Token). Ok b) o (leaf_in named (port_parts word))) no_bracket ∙ ap (leaf_in named) written ∙ ap (leaf_of parts.quoted) found)
