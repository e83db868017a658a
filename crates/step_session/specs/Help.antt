-- The list of what can be asked for.
use Rattle.std.specs.Prelude.{ℕ, List, ◌++◌, codes}

-- each command on a line
abbrev pub help_text : List ℕ
help_text =
    codes "N           fires choice N\n" ++
    codes "fire NAME   fires the connector's choice, if it has just one\n" ++
    codes "back        takes the last firing back\n" ++
    codes "random N    fires N random choices\n" ++
    codes "until NAME  fires random choices until it can be fired; until NAME N, at most N\n" ++
    codes "why NAME    tells why the connector can't be fired; why alone, of each connector\n" ++
    codes "state       shows the state and the choices again, as an empty line does\n" ++
    codes "save FILE   saves what was fired, to be repeated by trace PLANT --picks FILE\n" ++
    codes "help        lists the commands\n" ++
    codes "quit        ends, as the end of the input does\n"
