-- Which request was read of what `clap` found.
use Rattle.std.specs.Prelude.{◌≡◌, ℕ, List, codes, Some}
use Rattle.clap.specs.Matches.{first_value, subcommand_name_of}
use Rattle.clap.specs.declared.parser.matches.ArgMatches.{ArgMatches}
use Rattle.clap.specs.declared.parser.matches.Found.{Found}
use Rattle.command_line.specs.Asked.{IsAsked}
use Rattle.command_line.specs.Names.{command_in}
use Rattle.command_line.specs.Said.{IsFlag, are_found, named_value, places_found, places_of, word_of, words_of}
use Rattle.command_line.specs.declared.request.Request.{Request}
use Rattle.command_line.specs.declared.said.Said.{Said}

-- these words were found of a command
pub record AreFound (said : Said) (found : Found) : Type 0 where
  pub plant : word_of said.plant ≡ first_value found (codes "PLANT")
  pub image : word_of said.image ≡ first_value found (codes "IMAGE")
  pub old_image : word_of said.old_image ≡ first_value found (codes "OLD")
  pub new_image : word_of said.new_image ≡ first_value found (codes "NEW")
  pub copy : word_of said.copy ≡ first_value found (codes "FILE")
  pub script : word_of said.script ≡ first_value found (codes "SCRIPT")
  pub picks : words_of said.picks ≡ are_found found (codes "PICK")
  pub recorded : word_of said.recorded ≡ first_value found (codes "picks")
  pub saved : word_of said.saved ≡ first_value found (codes "save-picks")
  pub random : word_of said.random ≡ first_value found (codes "random")
  pub seed : word_of said.seed ≡ first_value found (codes "seed")
  pub seeds : word_of said.seeds ≡ first_value found (codes "seeds")
  pub weights : words_of said.weights ≡ are_found found (codes "weight")
  pub format : word_of said.format ≡ first_value found (codes "format")
  pub named_format : word_of said.named_format ≡ named_value found (codes "format")
  pub ring : word_of said.ring ≡ first_value found (codes "ring")
  pub workers : word_of said.workers ≡ first_value found (codes "workers")
  pub after : words_of said.after ≡ are_found found (codes "after")
  pub only : words_of said.only ≡ are_found found (codes "only")
  pub never : words_of said.never ≡ are_found found (codes "never")
  pub never_at : places_of said.never_at ≡ places_found found (codes "never")
  pub until : words_of said.until ≡ are_found found (codes "until")
  pub until_at : places_of said.until_at ≡ places_found found (codes "until")
  pub strict : IsFlag found (codes "strict") said.strict
  pub machines : IsFlag found (codes "machines") said.machines
  pub outline : IsFlag found (codes "outline") said.outline
  pub states : IsFlag found (codes "states") said.states
  pub summary : IsFlag found (codes "summary") said.summary
  pub warn : IsFlag found (codes "warn") said.warn
  pub records : IsFlag found (codes "records") said.records
  pub list : IsFlag found (codes "list") said.list
  pub only_new : IsFlag found (codes "new") said.only_new
  pub careful : IsFlag found (codes "careful") said.careful
  pub explain : IsFlag found (codes "explain") said.explain
  pub all : IsFlag found (codes "all") said.all

-- the request is what the words of the command ask for that was found
abbrev pub IsRead : Request → ArgMatches → Type 0
IsRead request matches =
    (name : List ℕ) × (found : Found) × (said : Said) × (subcommand_name_of matches ≡ Some name) × (command_in name ≡ Some said.command) ×
    AreFound said found × IsAsked request said
