-- What a `NewFile` shows.
use Rattle.std.specs.Prelude.{ℕ}
use Rattle.file_disk.specs.declared.new_file.NewFile.{NewFile}

-- how many bytes it has
abbrev pub bytes_of : {R : Type 0} → NewFile R → ℕ
bytes_of new = new.identity.bytes
