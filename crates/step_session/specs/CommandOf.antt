-- What is seen of a command whose words are lent.
use Rattle.step_session.specs.Command.{CommandDefinition, shows, fires, fires_named, takes_back, fires_random, fires_until, tells, tells_of, saves_to, helps, quits, mistaken, MistakeDefinition, too_long, no_command, left_over, no_number, no_count, no_file, no_fired, no_awaited}
use Rattle.step_session.specs.declared.command.Command.{Command}
use Rattle.step_session.specs.declared.command.Command.TheVariants.{Show, Fire, FireNamed, Back, Random, Until, Why, WhyOf, Save, Help, Quit, Mistaken}
use Rattle.step_session.specs.declared.command.Mistake.{Mistake}
use Rattle.step_session.specs.declared.command.Mistake.TheVariants.{TooLong, NoCommand, LeftOver, NoNumber, NoCount, NoFile, NoFired, NoAwaited}

-- a mistake as it is kept
abbrev pub mistake_of : Mistake → MistakeDefinition
mistake_of TooLong = too_long
mistake_of (NoCommand word) = no_command word.now
mistake_of (LeftOver word) = left_over word.now
mistake_of (NoNumber word) = no_number word.now
mistake_of NoCount = no_count
mistake_of NoFile = no_file
mistake_of NoFired = no_fired
mistake_of NoAwaited = no_awaited

-- a command as it is kept
abbrev pub command_of : Command → CommandDefinition
command_of Show = shows
command_of (Fire number) = fires number
command_of (FireNamed name) = fires_named name.now
command_of Back = takes_back
command_of (Random count) = fires_random count
command_of (Until name most) = fires_until name.now most
command_of Why = tells
command_of (WhyOf name) = tells_of name.now
command_of (Save path) = saves_to path.now
command_of Help = helps
command_of Quit = quits
command_of (Mistaken mistake) = mistaken (mistake_of mistake)
