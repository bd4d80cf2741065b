-- The lines that tell what is wrong with a file.
-- Assumes nothing: these are definitions.
use Rattle.std.specs.Prelude.{ℕ, List, [], ◌∷◌, ◌++◌}
use Rattle.rules.specs.Names.{ascii}
use Rattle.rules.specs.Lines.{decimal}
use Rattle.failures.specs.declared.Failure.{Failure}
use Rattle.failures.specs.declared.Failure.TheVariants.{CannotOpen, CannotRead, TooLong, NoRoom}

-- what is wrong
unfoldable pub reason : Failure → List ℕ
reason CannotOpen = ascii "cannot open "
reason CannotRead = ascii "cannot read "
reason TooLong = ascii "too long, with the files before it: "
reason (NoRoom position room) = (ascii "the row at " ++ decimal position) ++ ((ascii " does not end within the " ++ decimal room) ++ ascii " bytes that the tables leave: ")

-- and with which file, at which path
unfoldable pub failure_line : Failure → List ℕ → List ℕ → List ℕ
failure_line failure file path = reason failure ++ (file ++ ((32 ∷ []) ++ (path ++ (10 ∷ []))))

unfoldable pub usage_line : List ℕ
usage_line = ascii "usage: delivery RECORDS NAMES REFERENCES REGISTRY STREAM" ++ (10 ∷ [])
