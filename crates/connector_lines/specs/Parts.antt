-- What holds of the parts of a connector.
use Rattle.std.specs.Prelude.{◌≡◌, ℕ, Bool, true, ◌&&◌, List, nat_le, IfSome}
use Rattle.std.specs.List.{list_all}
use Rattle.petri_atom.specs.Expression.{Tree, word_count, all_variables}
use Rattle.petri_atom.specs.declared.parts.TheConstants.{MAX_WORDS}
use Rattle.plant_model.specs.Plant.{WireDefinition}
use Rattle.plant_model.specs.declared.wire.Export.{Export}
use Rattle.connector_lines.specs.Rows.{Named}

-- each variable that a word names passes a test
abbrev pub Passes : (Export → Bool) → Named → Type 0
Passes test named = (word : List ℕ) → IfSome (named word) (λ variable. test variable ≡ true)

-- the expression has no more words than one may have
abbrev pub is_small : Tree Export → Bool
is_small expression = nat_le (word_count expression) MAX_WORDS

-- each variable that the connector's guard clauses and transfers name passes the test
abbrev pub all_pass : (Export → Bool) → WireDefinition → Bool
all_pass test w =
    list_all (all_variables test) w.guards && list_all (λ t. test t.target && all_variables test t.value) w.transfers
