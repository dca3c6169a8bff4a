-- What a command is.
use Rattle.std.specs.Prelude.{ℕ, ◌<◌, ◌^◌, List, [], ◌∷◌, ◌++◌, Option, Some, None, option_map, length, take, slice_index_or}
use Rattle.commands.specs.Due.{Due}

-- A command: the names of files that its words give, the names that follow from what those files hold, and what is
-- due for what all of its files hold.
pub record CommandValue : Type 0 where
  pub names : List (List ℕ)
  pub further : List (List ℕ) → List (List ℕ)
  pub due : List (List ℕ) → Option Due

-- no name follows from what was read
abbrev pub no_further : List (List ℕ) → List (List ℕ)
no_further contents = []

-- the names of a command's files, in the order in which they are read, as far as what was read tells them
abbrev pub names_of : CommandValue → List (List ℕ) → List (List ℕ)
names_of command contents = command.names ++ command.further (take (length command.names) contents)

-- what the file at a place holds
abbrev pub content : List (List ℕ) → ℕ → List ℕ
content contents place = slice_index_or contents place []

-- as short as a file is that can be read
abbrev pub IsShort : List ℕ → Type 0
IsShort bytes = length bytes < 2 ^ 27

-- the only word, if there is one word
abbrev pub only_name : List (List ℕ) → Option (List ℕ)
only_name (name ∷ []) = Some name
only_name words = None

-- the command of one word behind its own, the name of a file
abbrev pub of_one_name : (List ℕ → CommandValue) → List (List ℕ) → Option CommandValue
of_one_name command words = option_map command (only_name words)
