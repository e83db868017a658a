use Rattle.std.proofs.Common.{◌≡◌, ◌∙◌, ℕ, List, cond, ap}
use Rattle.std.specs.Prelude.{Option, Some, None, is_some, IfSome}
use Rattle.petri_atom.specs.Name.{is_name}
use Rattle.plant_words.specs.Names.{name_in}
use Rattle.plant_words.proofs.names.read_name.Goals as goal

-- what is answered of a word that is a name, or of one that is none
told : (word : List ℕ) (read : Option (List ℕ)) → is_some read ≡ is_name word → IfSome read (λ name. name ≡ word) → read ≡ name_in word
told word None valid value = ap (λ b. cond b (Some word) None) valid
told word (Some name) valid value = ap Some value ∙ ap (λ b. cond b (Some word) None) valid

pub returns : goal.returns
returns c = told c.args.word.now c.new.result c.new.ensures.valid c.new.ensures.value
