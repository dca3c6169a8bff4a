-- The forms of a manifest's lines.
use Rattle.std.specs.Prelude.{ℕ, List, [], ◌∷◌, Option, Some, None, length, ◌&&◌, if◌then◌else◌, codes}
use Rattle.std.specs.Str.{bytes_eq}
use Rattle.aegis_limits.specs.Limits.{most_slots}
use Rattle.boot_image.specs.ImageFaults.{is_within}

-- `KEY N`: N
abbrev pub count_form : List ℕ → List (List ℕ) → Option (List ℕ)
count_form key (first ∷ word ∷ []) = if bytes_eq first key then Some word else None
count_form key words = None

-- `slots X ..`, with one to sixty-four X: these
abbrev pub slots_form : List (List ℕ) → Option (List (List ℕ))
slots_form [] = None
slots_form (first ∷ words) =
    if bytes_eq first (codes "slots") && is_within 1 most_slots (length words) then Some words else None

-- the words of an environment's line, among which a flat body has a base
pub record EnvWords : Type 0 where
  pub name : List ℕ
  pub base : Option (List ℕ)
  pub stack : List ℕ
  pub accept : List ℕ
  pub file : List ℕ

-- `NAME flat BASE STACK ACCEPT FILE` or `NAME elf STACK ACCEPT FILE`
abbrev pub program_form : List (List ℕ) → Option EnvWords
program_form (name ∷ kind ∷ base ∷ stack ∷ accept ∷ file ∷ []) =
    if bytes_eq kind (codes "flat") then Some (record {
      name = name;
      base = Some base;
      stack = stack;
      accept = accept;
      file = file;
    }) else None
program_form (name ∷ kind ∷ stack ∷ accept ∷ file ∷ []) =
    if bytes_eq kind (codes "elf") then Some (record {
      name = name;
      base = None;
      stack = stack;
      accept = accept;
      file = file;
    }) else None
program_form words = None

-- `env ..`, with these behind it
abbrev pub env_form : List (List ℕ) → Option EnvWords
env_form [] = None
env_form (first ∷ words) = if bytes_eq first (codes "env") then program_form words else None
