-- The command, as the program holds it.
use Rattle.std.specs.Prelude.{map, string_bytes}
use Rattle.stp_cli.specs.declared.words.Command.{Command as Words}
use Rattle.stp_cli.specs.Words.{Command}

abbrev pub plain_command : Words → Command
plain_command c = record { work = c.work; names = map string_bytes c.names.now; list = c.list.now }
