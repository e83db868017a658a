-- What is kept of the first line of a text asks for the same as the whole line.
use Rattle.std.proofs.Common.{◌≡◌, ◌∙◌, ap, sym, ℕ, ◌<◌, cond, List, ◌∷◌, length}
use Rattle.std.specs.Prelude.{Option, IfSome}
use Rattle.std.proofs.lemmas.Bool.{lt-ltb}
use Rattle.plant_words.specs.Lines.{lines_of}
use Rattle.plant_words.specs.Words.{words_of}
use Rattle.recorded_picks.proofs.KeptLine.{BeginsLike, begins-like, kept}
use Rattle.step_session.specs.Command.{command_in, mistaken, said_in, too_long}
use Rattle.step_session.specs.declared.lines.TheConstants.{MAX_LINE}

-- it is kept of the bytes that a reader had, if they are known
abbrev pub IsKept : Option (List ℕ) → List ℕ → Type 0
IsKept old held = IfSome old (λ bytes. held ≡ kept MAX_LINE bytes)

-- what asks for nothing
long : (line : List ℕ) → MAX_LINE < length line → command_in line ≡ mistaken too_long
long line many = ap (λ t. cond t (mistaken too_long) (said_in (words_of line))) (lt-ltb MAX_LINE (length line) many)

-- the first line asks for what is kept of it
pub begins-as-kept : (line : List ℕ) (more : List (List ℕ)) (text : List ℕ) → lines_of (kept MAX_LINE text) ≡ line ∷ more → BeginsLike command_in text line
begins-as-kept line more text held = begins-like command_in MAX_LINE (λ a b one other. long a one ∙ sym (long b other)) line more text held
