-- The request is what the words ask for that were found after the command's name.
use Rattle.std.proofs.Common.{rules}
use Rattle.clap.specs.Matches.{found_of}
use Rattle.command_line.proofs.words.request_of.Goals as goal

pub returns-in-Ok : goal.returns-in-Ok
returns-in-Ok c = (
  c.in-Some.name.now,
  found_of c.in-Some.found.now,
  c.said_in-said.result,
  search rules,
  search rules,
  c.said_in-said.ensures.found,
  c.in-Ok.ensures,
)
